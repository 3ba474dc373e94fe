-- Demand 2 for plates: what is written is read back, and a file that was read is written again no longer than it was
-- (document 02, tickets 9 and 12).
use Rattle.std.specs.Prelude.{Ok}
use mathlib.Core.Path.{◌≡◌, refl, sym, ap, ◌∙◌}
use mathlib.Core.List.{List, [], ◌++◌, append-nil}
use Prim.Native.Nat.{ℕ, ◌≤◌, ◌<◌}
use native.Mathlib.Omega.{arith}
use lib.ListN.{length}
use borrow.Author.Tests.{lt-leb}
use Rattle.lists.specs.Bytes.{Bytes}
use Rattle.lists.proofs.Cond.{cond-ltb, cond-leb}
use Rattle.outcome.specs.Outcome.{Outcome, map, Judged}
use Rattle.outcome.proofs.Outcome.{judged-value}
use Rattle.words.specs.Word.{word_at}
use Rattle.bodies.specs.Packing.{least_body, PackedBody}
use Rattle.bodies.specs.Reading.{read_body}
use Rattle.bodies.specs.Unpacking.{UnpackedBody}
use Rattle.bodies.proofs.Fits.{fits-length}
use Rattle.bodies.proofs.Least.{least-shortest}
use Rattle.bodies.proofs.Packing.{packed, limit-below}
use Rattle.bodies.proofs.RoundTrip.{body_back}
use Rattle.picture.specs.Writing.{Writing}
use Rattle.macpaint.specs.Layout.{header_length, after_body, body_limit, longest_file, version, zero_header, plate_file}
use Rattle.macpaint.specs.Plate.{plate_raster, plate_bytes}
use Rattle.macpaint.specs.Reading.{read_plate}
use Rattle.macpaint.specs.Writing.{plate_writing, write_plate, plate_back}
use Rattle.macpaint.proofs.Acceptance.{Given, plate-judged}
use Rattle.macpaint.proofs.LeastBody.{written}
use Rattle.macpaint.proofs.Plate.{in-range}
use Rattle.macpaint.proofs.ReadPlate.{judge-passed, read-judged}
use Rattle.macpaint.proofs.WritePlate.{length-zero_header, length-plate_file}

-- the version of the header that is written
zero-version : (body : List ℕ) → version (plate_file body) ≡ 0
unfolding plate_file zero_header word_at
zero-version body = refl

module _ (plate : List ℕ) (area : ℕ) (room : plate_bytes ≤ area) where
  -- an accepted writing's file, read
  abbrev pub ReadsBack : Writing → Type 0
  ReadsBack w = read_plate w.file area ≡ Ok (plate_back plate w)

  plate-back : plate_bytes ≤ length plate → length (least_body plate_raster plate) < body_limit
      → ReadsBack (plate_writing (packed plate_raster plate body_limit))
  unfolding plate_file
  plate-back full below =
      let body : List ℕ = least_body plate_raster plate in
      let long = length-plate_file body in
      read-judged (plate_file body) area room
      ∙ judge-passed (plate_file body) _ (omega (arith, long)) (omega (arith, long)) (rw (zero-version body))
      ∙ ap (λ (l : List ℕ). read_body (zero_header ++ l) header_length after_body plate_raster) (sym (append-nil body))
      ∙ body_back plate_raster plate in-range full zero_header [] header_length after_body length-zero_header refl

  -- the plate, the body's length and its records
  pub round_trip : (out : ℕ) → Judged ReadsBack (write_plate plate out)
  unfolding write_plate
  round_trip out =
      cond-ltb (Judged ReadsBack) out longest_file (λ _ n. omega arith) (λ _.
      cond-ltb (Judged ReadsBack) (length plate) plate_bytes (λ _ n. omega arith) (λ full.
      cond-leb (λ (o : Outcome PackedBody). Judged ReadsBack (map plate_writing o)) body_limit
      (length (least_body plate_raster plate)) (λ _ n. omega arith) (plate-back full)))

-- ---- a file that was read, written again

-- never refused with 9, and never longer
pub rewritten : (file : List ℕ) (area out : ℕ) → longest_file ≤ out → Bytes file → (u : UnpackedBody)
    → read_plate file area ≡ Ok u
    → (w : Writing) × (write_plate u.image out ≡ Ok w) × (length w.file ≤ length file)
rewritten file area out room all u e =
    let g = judged-value (Given file area) (read_plate file area) u (plate-judged file area all) e in
    let b = g.0.fits in
    let image : u.image ≡ b.image = ap (λ (v : UnpackedBody). v.image) g.1 in
    let body : List ℕ = least_body plate_raster b.image in
    let least : length body ≤ length b.body = (least-shortest plate_raster b.image in-range).shortest b.runs in
    let below = lt-leb body_limit (length body) (omega (arith, b.below)) in
    let fits = limit-below plate_raster b.image body_limit below in
    let long = fits-length file header_length after_body body_limit plate_raster b in
    rw image (
      plate_writing (packed plate_raster b.image body_limit),
      written b.image out (omega (arith, b.size)) room ∙ ap (map plate_writing) fits,
      omega (arith, length-plate_file body, long, least),
    )
