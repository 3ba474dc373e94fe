-- Laws of the choice of a format by the form.
use Rattle.std.specs.Prelude.{Ok, Err}
use mathlib.Core.Path.{◌≡◌, refl, ap, ◌∙◌}
use mathlib.Core.Bool.{Bool, true, false, cond}
use mathlib.Core.List.{List}
use Prim.Native.Nat.{ℕ, ◌≤◌}
use native.Mathlib.Omega.{arith}
use lib.Dec.{eqb}
use lib.ListN.{length}
use borrow.Author.Tests.{eq-eqb, ne_eqb}
use Rattle.lists.proofs.Cond.{cond-ltb, cond-eqb}
use Rattle.outcome.specs.declared.Refusal.{Refusal}
use Rattle.outcome.specs.Outcome.{Outcome, refuse, bind, Judged}
use Rattle.outcome.specs.Refusal.{area_too_short, unknown_kind}
use Rattle.resolution.specs.declared.Resolution.{Resolution}
use Rattle.resolution.specs.Shapes.{screen_bytes}
use Rattle.picture.specs.declared.Picture.{Picture}
use Rattle.picture.specs.Writing.{Writing, raw_writing, file_bytes, judge_areas, judge_writing}
use Rattle.picture.proofs.Writing.{areas-fit}
use Rattle.degas.specs.declared.Form.TheVariants.{Plain, Elite, Packed}
use Rattle.degas.specs.Writing.{write_form, write_degas}
use Rattle.neochrome.specs.Layout.{neochrome_file}
use Rattle.neochrome.specs.Writing.{write_neochrome}
use Rattle.writer.specs.declared.Form.{Form}
use Rattle.writer.specs.declared.Form.TheVariants.{Degas, Neochrome}
use Rattle.writer.specs.Writing.{form_plain, form_elite, form_packed, form_neochrome, form_of, write_file}

module _ (form : ℕ) (p : Picture) (screen : List ℕ) (out : ℕ) where
  pub form-plain : form ≡ form_plain → write_file form p screen out ≡ write_degas Plain p screen out
  unfolding write_file
  form-plain h = simp (eq-eqb form form_plain h)

  pub form-elite : form ≡ form_elite → write_file form p screen out ≡ write_degas Elite p screen out
  unfolding write_file
  form-elite h = simp (ne_eqb form form_plain (omega arith), eq-eqb form form_elite h)

  pub form-packed : form ≡ form_packed → write_file form p screen out ≡ write_degas Packed p screen out
  unfolding write_file
  form-packed h =
      simp (ne_eqb form form_plain (omega arith), ne_eqb form form_elite (omega arith), eq-eqb form form_packed h)

  pub form-neochrome : form ≡ form_neochrome → write_file form p screen out ≡ write_neochrome p screen out
  unfolding write_file
  form-neochrome h =
      simp (
        ne_eqb form form_plain (omega arith),
        ne_eqb form form_elite (omega arith),
        ne_eqb form form_packed (omega arith),
        eq-eqb form form_neochrome h,
      )

  -- what a form chooses, and of an unknown one the refusal after the lengths
  abbrev by_form : Outcome Form → Outcome Writing
  by_form (Ok (Degas degas)) = write_degas degas p screen out
  by_form (Ok Neochrome) = write_neochrome p screen out
  by_form (Err why) = judge_areas (length screen) out (Err why)

  pub file-by-form : write_file form p screen out ≡ by_form (form_of form)
  unfolding write_file
  file-by-form =
      go (eqb form form_plain) (eqb form form_elite) (eqb form form_packed) (eqb form form_neochrome)
    where
      go : (a b c d : Bool)
          → cond a (write_degas Plain p screen out)
          (cond b (write_degas Elite p screen out)
          (cond c (write_degas Packed p screen out)
          (cond d (write_neochrome p screen out) (judge_areas (length screen) out (refuse unknown_kind)))))
          ≡ by_form
          (cond a (Ok (Degas Plain))
          (cond b (Ok (Degas Elite)) (cond c (Ok (Degas Packed)) (cond d (Ok Neochrome) (refuse unknown_kind)))))
      go true b c d = refl
      go false true c d = refl
      go false false true d = refl
      go false false false true = refl
      go false false false false = refl

  -- any other form
  module _ (not1 : form ≡ form_plain → ⊥) (not2 : form ≡ form_elite → ⊥) (not3 : form ≡ form_packed → ⊥)
      (not4 : form ≡ form_neochrome → ⊥) where
    pub form-unknown : write_file form p screen out ≡ judge_areas (length screen) out (refuse unknown_kind)
    unfolding write_file
    form-unknown =
        simp (
          ne_eqb form form_plain not1,
          ne_eqb form form_elite not2,
          ne_eqb form form_packed not3,
          ne_eqb form form_neochrome not4,
        )

  -- a short screen or output comes first in each
  pub file-short : ((A : Type 0) (further : Outcome A) → judge_areas (length screen) out further ≡ refuse area_too_short)
      → write_file form p screen out ≡ refuse area_too_short
  unfolding write_degas write_neochrome judge_writing
  file-short short = file-by-form ∙ go (form_of form)
    where
      go : (o : Outcome Form) → by_form o ≡ refuse area_too_short
      go (Ok (Degas degas)) = ap (λ (o : Outcome Resolution). bind o (λ r. write_form degas r p screen)) (short _ _)
      go (Ok Neochrome) = ap (λ (o : Outcome Resolution). bind o (λ r. raw_writing (neochrome_file p screen))) (short _ _)
      go (Err why) = short _ (Err why)

  -- where both fit, a refusal of the form is the writing's
  pub file-unknown : {why : Refusal} → screen_bytes ≤ length screen → file_bytes ≤ out → form_of form ≡ Err why
      → write_file form p screen out ≡ Err why
  file-unknown {why} long room e = file-by-form ∙ rw e (areas-fit (length screen) out (Err why) long room)

  -- what holds of every accepted writing of each format holds of every accepted writing
  pub write_file-judged : (P : Writing → Type 0) → (form ≡ form_plain → Judged P (write_degas Plain p screen out))
      → (form ≡ form_elite → Judged P (write_degas Elite p screen out))
      → (form ≡ form_packed → Judged P (write_degas Packed p screen out))
      → (form ≡ form_neochrome → Judged P (write_neochrome p screen out)) → Judged P (write_file form p screen out)
  unfolding write_file
  write_file-judged P plain elite packed neochrome =
      cond-eqb (Judged P) form form_plain plain (λ _.
      cond-eqb (Judged P) form form_elite elite (λ _.
      cond-eqb (Judged P) form form_packed packed (λ _.
      cond-eqb (Judged P) form form_neochrome neochrome (λ _.
      cond-ltb (Judged P) (length screen) screen_bytes (λ _ n. omega arith) (λ _.
      cond-ltb (Judged P) out file_bytes (λ _ n. omega arith) (λ _ n. omega arith))))))
