-- Outcomes of reading a scan, as the contract says them.
use Rattle.std.specs.Prelude.{Ok, Err}
use Rattle.outcome.specs.Outcome.{Outcome}
use mathlib.Core.Path.{◌≡◌, refl, sym, ap, ◌∙◌}
use mathlib.Core.Logic.{◌↔◌}
use mathlib.Core.List.{List}
use Prim.Native.Nat.{ℕ, zero, suc}
use native.Mathlib.Omega.{arith}
use lib.ListN.{length}
use Rattle.lists.specs.Bytes.{Bytes}
use Rattle.outcome.specs.declared.Refusal.{Refusal}
use Rattle.gem_img.specs.declared.ImgAnswer.{ImgAnswer}
use Rattle.gem_img.specs.Accepts.{AcceptsImg}
use Rattle.gem_img.specs.Refuses.{RefusesImg}
use Rattle.gem_img.specs.Reading.{Image, read_img, img_answer, img_area}
use Rattle.gem_img.proofs.Reading.{area-enough}
use Rattle.gem_img.proofs.Acceptance.{img-accepted, img-accepts, img-refused, img-refuses, refuses-number}
use Rattle.gem_img.proofs.Sizes.{image-length}
use Rattle.gem_img.proofs.Examples.{white-line}
use Rattle.demands.specs.Refusals.{Refuses}
use Rattle.statements.specs.Areas.{HoldsScreen}
use Rattle.statements.specs.Scans.{AcceptsSome, ReadsImage, ReadsNoImage, white_line_file}

module _ (file area : List ℕ) where
  abbrev outcome : Outcome Image
  outcome = read_img file (length area)

  abbrev answer : ImgAnswer
  answer = img_answer outcome

  pub reads-image : HoldsScreen area → (image : Image) → AcceptsImg file image
      → ReadsImage image answer area (img_area outcome area)
  reads-image room image fits =
      let e = img-accepted file (length area) image room fits in
      record {
        answer = ap img_answer e;
        size = image-length file image fits;
        later = ap (λ (o : Outcome Image). img_area o area) e;
      }

  pub reads-no-image : (why : Refusal) → RefusesImg file (length area) why
      → ReadsNoImage why answer area (img_area outcome area)
  reads-no-image why r =
      let e = img-refused file (length area) why r in
      record { answer = ap img_answer e; later = ap (λ (o : Outcome Image). img_area o area) e }

  pub white-line-read : HoldsScreen area → file ≡ white_line_file → answer.refusal.number ≡ 0
  white-line-read room e =
      ap (λ (o : Outcome Image). (img_answer o).refusal.number)
      (area-enough file (length area) room ∙ ap (λ (f : List ℕ). read_img f 32000) e ∙ white-line)

  module _ (bytes : Bytes file) where
    accepts-number : (o : Outcome Image) → outcome ≡ o → (img_answer o).refusal.number ≡ 0 → AcceptsSome file
    accepts-number (Ok image) e n =
        record { image = image; fits = (img-accepts file bytes (length area) image e).1 }
    accepts-number (Err why) e n =
        absurd (refuses-number file (length area) why (img-refuses file bytes (length area) why e) n)

    pub reads-exactly : HoldsScreen area → (answer.refusal.number ≡ 0) ↔ AcceptsSome file
    reads-exactly room = (
      accepts-number outcome refl,
      λ some. ap (λ (o : Outcome Image). (img_answer o).refusal.number)
          (img-accepted file (length area) some.image room some.fits),
    )

    refuses-why : (o : Outcome Image) → outcome ≡ o → Refuses (img_answer o).refusal
        → RefusesImg file (length area) (img_answer o).refusal
    refuses-why (Ok image) e h = absurd (h refl)
    refuses-why (Err why) e h = img-refuses file bytes (length area) why e

    pub reads-why : Refuses answer.refusal → RefusesImg file (length area) answer.refusal
        × ReadsNoImage answer.refusal answer area (img_area outcome area)
    reads-why h =
        let r = refuses-why outcome refl h in
        (r, reads-no-image answer.refusal r)

    -- "accepted exactly when no listed refusal comes"
    pub accepted-unlisted : (answer.refusal.number ≡ 0)
        ↔ ((why : Refusal) → RefusesImg file (length area) why → ⊥)
    accepted-unlisted = (
      λ e why r.
          refuses-number file (length area) why r
          (sym (ap (λ (a : ImgAnswer). a.refusal.number) (reads-no-image why r).answer) ∙ e),
      λ none. number-none answer.refusal.number (λ h. none answer.refusal (refuses-why outcome refl h)),
    )
      where
        number-none : (n : ℕ) → ((n ≡ 0 → ⊥) → ⊥) → n ≡ 0
        number-none zero h = refl
        number-none (suc n) h = absurd (h (λ e. omega arith))
