-- Demand 3: the packed writer refuses exactly when it must, and otherwise writes a screen's least body; how long that
-- can be.
use Rattle.std.specs.Prelude.{Ok, Some}
use mathlib.Core.Path.{◌≡◌, refl, sym, ap, ◌∙◌}
use mathlib.Core.Logic.{◌↔◌}
use mathlib.Core.List.{List}
use Prim.Native.Nat.{ℕ, ◌+◌, ◌*◌, ◌≤◌}
use native.Mathlib.Omega.{arith}
use lib.ListN.{length}
use Rattle.lists.specs.Bytes.{Bytes}
use Rattle.outcome.specs.Outcome.{Outcome, refuse, map}
use Rattle.outcome.specs.Refusal.{no_packed_body}
use Rattle.outcome.proofs.Outcome.{map-refused}
use Rattle.raster.specs.Shape.{row_bytes, rows}
use Rattle.resolution.specs.declared.Resolution.{Resolution}
use Rattle.resolution.specs.declared.Resolution.TheVariants.{Low, Medium, High}
use Rattle.resolution.specs.Shapes.{screen_bytes, raster_of}
use Rattle.resolution.specs.Choice.{chosen}
use Rattle.resolution.proofs.Rasters.{raster-bytes}
use Rattle.bodies.specs.Packing.{least_body, PackedBody, below_limit, alternating}
use Rattle.bodies.specs.Unpacks.{ShortestBody}
use Rattle.bodies.proofs.Packing.{packed}
use Rattle.bodies.proofs.Least.{refused-exactly, least-below, shortest-most, shortest-attained}
use Rattle.bodies.proofs.Least.{length-alternating, alternating-bytes}
use Rattle.picture.specs.declared.Picture.{Picture}
use Rattle.picture.specs.Whole.{WholePicture}
use Rattle.picture.specs.Writing.{Writing, file_bytes}
use Rattle.degas.specs.declared.Form.TheVariants.{Packed}
use Rattle.degas.specs.Layout.{body_limit}
use Rattle.degas.specs.Writing.{packed_writing, write_packed, write_degas}
use Rattle.degas.specs.LeastBody.{WritesPacked, NoBodyBelow, most_bytes}
use Rattle.degas.proofs.FileLayout.{length-packed_file}
use Rattle.degas.proofs.ScreenRaster.{in-range}
use Rattle.degas.proofs.WriteDegas.{write-passed}

-- ---- how long a least body can be

-- one byte more for each plane row than its width
rows-most : (r : Resolution) → rows (raster_of r) * (row_bytes (raster_of r) + 1) ≡ most_bytes r
rows-most Low = refl
rows-most Medium = refl
rows-most High = refl

-- "The least body of a screen is never above 32,800 bytes at low resolution or 32,400 at the other two."
pub least-bound : (r : Resolution) (screen : List ℕ) {body : List ℕ} {n : ℕ} → ShortestBody (raster_of r) screen body n
    → length body ≤ most_bytes r
least-bound r screen s = omega (arith, shortest-most (raster_of r) (in-range r) screen s, rows-most r)

-- "At each resolution some screen's least body has exactly that many.": a screen whose bytes are 0 and 1 in turn
pub bound-attained : (r : Resolution)
    → (screen : List ℕ) × (length screen ≡ screen_bytes) × Bytes screen
    × ((body : List ℕ) (n : ℕ) → ShortestBody (raster_of r) screen body n → length body ≡ most_bytes r)
bound-attained r = (
  alternating (raster_of r),
  length-alternating (raster_of r) ∙ raster-bytes r,
  alternating-bytes (raster_of r),
  λ body n s. shortest-attained (raster_of r) (in-range r) s ∙ rows-most r,
)

-- ---- the packed writer

module _ (r : Resolution) (p : Picture) (screen : List ℕ) (out : ℕ) (known : chosen p.resolution ≡ Some r)
    (full : screen_bytes ≤ length screen) (room : file_bytes ≤ out) where
  abbrev least : Outcome PackedBody
  least = below_limit (raster_of r) screen body_limit

  written : write_degas Packed p screen out ≡ map (packed_writing p) least
  unfolding write_packed
  written = write-passed Packed p screen out (record { screen-fits = full; output-fits = room; known = known })

  -- "the packed writer refuses, with 9, exactly when no byte string under 32,000 bytes unpacks to that screen at that
  -- resolution"
  pub packed-refused-exactly : Bytes screen
      → (write_degas Packed p screen out ≡ refuse no_packed_body) ↔ NoBodyBelow r screen
  packed-refused-exactly all =
      let exactly = refused-exactly (raster_of r) screen (in-range r) body_limit all in (
        λ e. exactly.0 (map-refused (packed_writing p) least _ (sym written ∙ e)),
        λ none. written ∙ ap (map (packed_writing p)) (exactly.1 none),
      )

  -- "Otherwise it writes the picture's form 3 as document 01 fixes it, row by row; the body unpacks to that screen, and
  -- every other byte string that does has at least as many bytes. It reports that body's length and number of records,
  -- and a file length 66 above the body's."
  pub packed-otherwise : WholePicture p → (write_degas Packed p screen out ≡ refuse no_packed_body → ⊥)
      → (w : Writing) × (write_degas Packed p screen out ≡ Ok w) × WritesPacked r p screen w
  packed-otherwise whole h =
      let body : List ℕ = least_body (raster_of r) screen in
      let some =
      least-below (raster_of r) screen (in-range r) body_limit (λ e. h (written ∙ ap (map (packed_writing p)) e)) in (
        packed_writing p (packed (raster_of r) screen body_limit),
        written ∙ ap (map (packed_writing p)) some.0,
        record {
          packed = body;
          form = refl;
          least = some.1;
          size = refl;
          all = omega (arith, length-packed_file p whole body);
        },
      )
