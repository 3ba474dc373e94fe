-- Demand 3 for plates: refused exactly when it must be, and otherwise the plate's least body; how long that can be
-- (document 02, ticket 9).
use Rattle.std.specs.Prelude.{Ok}
use mathlib.Core.Path.{◌≡◌, refl, sym, ap, ◌∙◌}
use mathlib.Core.Logic.{◌↔◌}
use mathlib.Core.List.{List}
use Prim.Native.Nat.{ℕ, ◌+◌, ◌*◌, ◌≤◌, ◌<◌}
use native.Mathlib.Omega.{arith}
use lib.ListN.{length}
use borrow.Author.Tests.{le-ltb}
use Rattle.lists.specs.Bytes.{Bytes}
use Rattle.outcome.specs.Outcome.{refuse, map}
use Rattle.outcome.specs.Refusal.{no_packed_body}
use Rattle.outcome.proofs.Outcome.{map-refused}
use Rattle.raster.specs.Shape.{row_bytes, rows}
use Rattle.bodies.specs.Packing.{least_body, below_limit, alternating}
use Rattle.bodies.specs.Unpacks.{UnpacksImage, ShortestBody}
use Rattle.bodies.proofs.Packing.{packed}
use Rattle.bodies.proofs.Least.{refused-exactly, least-below, shortest-most, shortest-attained}
use Rattle.bodies.proofs.Least.{length-alternating, alternating-bytes}
use Rattle.picture.specs.Writing.{Writing}
use Rattle.macpaint.specs.Layout.{body_limit, longest_file}
use Rattle.macpaint.specs.Plate.{plate_raster, plate_bytes}
use Rattle.macpaint.specs.Writing.{plate_writing, write_plate, WritesPlate, most_bytes}
use Rattle.macpaint.proofs.Plate.{in-range}
use Rattle.macpaint.proofs.WritePlate.{length-plate_file}

-- ---- how long a least body can be

-- one byte more for each row than its width
rows-most : rows plate_raster * (row_bytes plate_raster + 1) ≡ most_bytes
rows-most = refl

-- "a plate's worst least body is 52,560"
pub least-bound : (plate : List ℕ) {body : List ℕ} {n : ℕ} → ShortestBody plate_raster plate body n
    → length body ≤ most_bytes
least-bound plate s = omega (arith, shortest-most plate_raster in-range plate s, rows-most)

-- and some plate's has exactly that many: one whose bytes are 0 and 1 in turn
pub bound-attained : (plate : List ℕ) × (length plate ≡ plate_bytes) × Bytes plate
    × ((body : List ℕ) (n : ℕ) → ShortestBody plate_raster plate body n → length body ≡ most_bytes)
bound-attained = (
  alternating plate_raster,
  length-alternating plate_raster,
  alternating-bytes plate_raster,
  λ body n s. shortest-attained plate_raster in-range s ∙ rows-most,
)

-- ---- the writer

module _ (plate : List ℕ) (out : ℕ) (full : plate_bytes ≤ length plate) (room : longest_file ≤ out) where
  pub written : write_plate plate out ≡ map plate_writing (below_limit plate_raster plate body_limit)
  unfolding write_plate
  written = rw (le-ltb out longest_file room, le-ltb (length plate) plate_bytes full)

  -- refused, with 9, exactly when no byte string under 51,200 bytes unpacks to the plate
  pub plate-refused-exactly : Bytes plate → (write_plate plate out ≡ refuse no_packed_body)
      ↔ ((body : List ℕ) (n : ℕ) → Bytes body → UnpacksImage plate_raster body plate n → length body < body_limit → ⊥)
  plate-refused-exactly all =
      let exactly = refused-exactly plate_raster plate in-range body_limit all in (
        λ e. exactly.0 (map-refused plate_writing _ _ (sym written ∙ e)),
        λ none. written ∙ ap (map plate_writing) (exactly.1 none),
      )

  -- otherwise the plate's least body, row by row, with its length, its records and a file length 512 above
  pub plate-otherwise : (write_plate plate out ≡ refuse no_packed_body → ⊥)
      → (w : Writing) × (write_plate plate out ≡ Ok w) × WritesPlate plate w
  plate-otherwise h =
      let least =
      least-below plate_raster plate in-range body_limit (λ e. h (written ∙ ap (map plate_writing) e)) in (
        plate_writing (packed plate_raster plate body_limit),
        written ∙ ap (map plate_writing) least.0,
        record {
          packed = least_body plate_raster plate;
          form = refl;
          full = full;
          least = least.1;
          size = refl;
          all = omega (arith, length-plate_file (least_body plate_raster plate));
        },
      )
