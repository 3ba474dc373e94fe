-- The plane rows of an area as a list of rows; one of them taken into a buffer of its width, and packed.
use mathlib.Core.Path.{◌≡◌, ap, ◌∙◌}
use mathlib.Core.List.{List}
use Prim.Native.Nat.{ℕ, ◌≤◌, ◌<◌}
use native.Mathlib.Omega.{arith}
use borrow.Author.Tests.{le-leb}
use lib.ListN.{length}
use Rattle.lists.specs.Over.{over}
use Rattle.lists.proofs.Over.{over-whole}
use Rattle.packbits.specs.Row.{width_out_of_range}
use Rattle.packbits.proofs.Row.{in-range}
use Rattle.pack.specs.Least.{least}
use Rattle.pack.specs.Pack.{pack_into, least_len}
use Rattle.pack.proofs.Pack.{pack-done}
use Rattle.raster.specs.declared.Raster.{Raster}
use Rattle.raster.specs.Shape.{row_bytes, rows}
use Rattle.raster.specs.PlaneRows.{plane_row, plane_rows, take_row}
use Rattle.raster.proofs.Fits.{row_fits_lem}
use Rattle.raster.proofs.PlaneRows.{length-plane_row, length-plane_rows, get_or-plane_rows, wide-plane_rows}
use Rattle.bodies.specs.Body.{RowRoom}
use Rattle.bodies.specs.Packing.{packed_row}
use Rattle.bodies.proofs.LeastRows.{RowsOf}

pub plane-rows : (s : List ℕ) (r : Raster) → RowsOf (plane_rows s r) (rows r) (row_bytes r) (plane_row s r)
plane-rows s r = record { wide = wide-plane_rows s r; counted = length-plane_rows s r; at = get_or-plane_rows s r }

module _ {r : Raster} {s row₀ : List ℕ} (room : RowRoom r s row₀) (n : ℕ) (more : n < rows r) where
  row-narrow : length (plane_row s r n) ≤ 128
  row-narrow = omega (arith, length-plane_row s r n, (in-range (row_bytes r) room.range).1)

  -- the buffer, which was row₀, then holds the plane row and nothing else
  row-taken : take_row s r n row₀ ≡ plane_row s r n
  row-taken =
      let taken : take_row s r n row₀ ≡ over (plane_row s r n) row₀ =
      simp (row_fits_lem (length s) r n (length row₀) room.full more (omega (arith, room.width))) in
      taken ∙ over-whole (plane_row s r n) row₀ (omega (arith, length-plane_row s r n, room.width))

  pub taken-least_len : least_len (take_row s r n row₀) ≡ length (least (plane_row s r n))
  taken-least_len = rw row-taken (simp (le-leb (length (plane_row s r n)) 128 row-narrow))

  pub taken-pack_into : (out : ℕ) → length (least (plane_row s r n)) ≤ out
      → pack_into (take_row s r n row₀) out ≡ packed_row s r n
  taken-pack_into out h =
      let w = ap width_out_of_range (length-plane_row s r n) ∙ room.range in
      rw row-taken (pack-done (length (least (plane_row s r n))) (plane_row s r n) out w h)
