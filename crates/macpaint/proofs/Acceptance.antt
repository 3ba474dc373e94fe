-- Demand 2 of MacPaint files: one is accepted exactly when its version is allowed and its parts fit, and then gives
-- what its parts are (document 02, tickets 5 and 9: "accepted exactly when no listed refusal comes").
use Rattle.std.specs.Prelude.{Ok}
use mathlib.Core.Path.{◌≡◌, refl, sym, ap, ◌∙◌}
use mathlib.Core.Logic.{◌↔◌, ◌⊎◌, inl, inr}
use mathlib.Core.Bool.{Bool, true, false, not, ◌||◌}
use mathlib.Core.List.{List}
use Prim.Native.Nat.{ℕ, ◌≤◌}
use native.Mathlib.Omega.{arith}
use lib.ListN.{length}
use lib.Dec.{eqb}
use borrow.Author.Tests.{eq-eqb, eqb-true, not-false}
use Rattle.lists.specs.Bytes.{Bytes}
use Rattle.lists.proofs.Cond.{cond-elim, cond-ltb}
use Rattle.outcome.specs.Outcome.{Judged}
use Rattle.outcome.proofs.Outcome.{judged-map, judged-value}
use Rattle.bodies.specs.Unpacking.{UnpackedBody}
use Rattle.bodies.specs.Reading.{read_body}
use Rattle.bodies.proofs.Fits.{FitsGiven, fits-length, fits-complete, fits-judged}
use Rattle.macpaint.specs.Layout.{header_length, after_body, body_limit, longest_file, version, header_ignored}
use Rattle.macpaint.specs.Layout.{header_valid}
use Rattle.macpaint.specs.Plate.{plate_raster, plate_bytes}
use Rattle.macpaint.specs.Reading.{version_allowed, read_plate}
use Rattle.macpaint.specs.Accepts.{AcceptsPlate, plate_given}
use Rattle.macpaint.proofs.ReadPlate.{judge-passed, read-judged}

-- ---- the version

pub version-sound : (file : List ℕ) → version_allowed file ≡ true
    → (version file ≡ header_ignored) ⊎ (version file ≡ header_valid)
version-sound file = go (eqb (version file) header_ignored) (eqb (version file) header_valid) refl refl
  where
    go : (s t : Bool) → eqb (version file) header_ignored ≡ s → eqb (version file) header_valid ≡ t → s || t ≡ true
        → (version file ≡ header_ignored) ⊎ (version file ≡ header_valid)
    go true t p q e = inl (eqb-true (version file) header_ignored p)
    go false true p q e = inr (eqb-true (version file) header_valid q)
    go false false p q e = let z : ◌≡◌ {A = ℕ} 0 1 = cc in absurd (omega arith)

pub version-complete : (file : List ℕ) → (version file ≡ header_ignored) ⊎ (version file ≡ header_valid)
    → version_allowed file ≡ true
version-complete file (inl e) = rw (eq-eqb (version file) header_ignored e)
version-complete file (inr e) = rw e

module _ (file : List ℕ) (area : ℕ) where
  -- what is read of a file that fits
  abbrev pub Given : UnpackedBody → Type 0
  Given u = (a : AcceptsPlate file) × (u ≡ plate_given a)

  pub plate-judged : Bytes file → Judged Given (read_plate file area)
  unfolding read_plate
  plate-judged all =
      cond-ltb (Judged Given) area plate_bytes (λ _ n. omega arith) (λ _.
      cond-ltb (Judged Given) (length file) header_length (λ _ n. omega arith) (λ _.
      cond-ltb (Judged Given) longest_file (length file) (λ _ n. omega arith) (λ most.
      cond-elim (Judged Given) (not (version_allowed file)) (λ _ n. omega arith) (λ good.
      judged-map (FitsGiven file header_length after_body body_limit plate_raster) Given
      (read_body file header_length after_body plate_raster)
      (fits-judged file header_length after_body body_limit plate_raster all (omega arith))
      (λ u g. (record { allowed = version-sound file (not-false _ good); fits = g.0 }, g.1))))))

  module _ (room : plate_bytes ≤ area) where
    -- a file that fits is accepted
    pub plate-complete : (a : AcceptsPlate file) → read_plate file area ≡ Ok (plate_given a)
    plate-complete a =
        let long = fits-length file header_length after_body body_limit plate_raster a.fits in
        let good = version-complete file a.allowed in
        read-judged file area room
        ∙ judge-passed file _ (omega (arith, long)) (omega (arith, long, a.fits.below)) good
        ∙ fits-complete file header_length after_body body_limit plate_raster a.fits

    -- accepted exactly when it fits, and then with this
    pub plate-acceptance : Bytes file → (u : UnpackedBody) → (read_plate file area ≡ Ok u) ↔ Given u
    plate-acceptance all u = (
      judged-value Given (read_plate file area) u (plate-judged all),
      λ g. plate-complete g.0 ∙ ap Ok (sym g.1),
    )
