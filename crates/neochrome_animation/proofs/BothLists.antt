-- When both lists show the same of a file.
use Rattle.std.specs.Prelude.{Ok}
use mathlib.Core.Path.{◌≡◌, refl, sym, ap, ap₂, ◌∙◌}
use mathlib.Core.Bool.{Bool, true}
use mathlib.Core.List.{List}
use Prim.Native.Nat.{ℕ, ◌/◌, ◌%◌, ◌^◌}
use borrow.Author.Tests.{eq-eqb, eqb-true}
use Rattle.lists.specs.Bytes.{Bytes}
use Rattle.words.specs.Word.{word_at}
use Rattle.neochrome.specs.Accepts.{AcceptsNeochrome}
use Rattle.neochrome_animation.specs.declared.AnimationAnswer.{AnimationAnswer}
use Rattle.neochrome_animation.specs.declared.ColourAnimation.{ColourAnimation}
use Rattle.neochrome_animation.specs.Layout.{valid_start, on_start, step_count_start}
use Rattle.neochrome_animation.specs.Lists.{limits_at, shown, shown1989, shown2008, bit15_at}
use Rattle.neochrome_animation.specs.Judging.{animation, animation_answer}
use Rattle.neochrome_animation.proofs.Lists.{high_bit}
use Rattle.neochrome_animation.proofs.Judging.{valid-shown}
use Rattle.neochrome_animation.proofs.Acceptance.{acceptance-1989, acceptance-2008, listed-fits}

module _ (file : List ℕ) where
  -- bit 15 of word 48, and word 52
  abbrev MarkedValid : Type 0
  MarkedValid = word_at file 48 / 2 ^ 15 % 2 ≡ 1

  abbrev NoSteps : Type 0
  NoSteps = word_at file 52 ≡ 0

  shown-same : Bytes file → MarkedValid → NoSteps → shown1989 file ≡ shown2008 file
  unfolding shown1989 shown2008
  shown-same bytes valid none =
      ap₂ (λ (o : Bool) (n : ℕ). shown file true o n) (high_bit file bytes on_start) (sym none)
      ∙ ap (λ (v : Bool). shown file v (bit15_at file on_start) (word_at file step_count_start)) (sym (eq-eqb _ 1 valid))

  module _ (list : ℕ) (a : ColourAnimation) (e : animation list file ≡ Ok a) where
    fits : AcceptsNeochrome file
    fits = listed-fits list file a e

    by-1989 : animation 1 file ≡ Ok (shown1989 file)
    by-1989 = (acceptance-1989 file (shown1989 file)).1 (fits, refl)

    by-2008 : animation 2 file ≡ Ok (shown2008 file)
    by-2008 = (acceptance-2008 file (shown2008 file)).1 (fits, refl)

    -- what one list accepts, both accept
    pub both-accept : (animation 1 file ≡ Ok (shown1989 file)) × (animation 2 file ≡ Ok (shown2008 file))
    both-accept = (by-1989, by-2008)

    -- "For an accepted file with limits marked valid and word 52 zero, both show the same."
    pub both-same : Bytes file → MarkedValid → NoSteps → animation 1 file ≡ animation 2 file
    both-same bytes valid none = by-1989 ∙ ap Ok (shown-same bytes valid none) ∙ sym by-2008

    -- and of no other accepted file do both answer the same
    pub same-only : animation_answer (animation 1 file) ≡ animation_answer (animation 2 file) → MarkedValid × NoSteps
    unfolding shown1989 shown2008
    same-only same =
        let q : animation_answer (Ok (shown1989 file)) ≡ animation_answer (Ok (shown2008 file)) =
        sym (ap animation_answer by-1989) ∙ same ∙ ap animation_answer by-2008 in (
          eqb-true _ 1
              (sym (valid-shown (bit15_at file valid_start) (limits_at file))
              ∙ sym (ap (λ (b : AnimationAnswer). b.limits_valid) q)),
          sym (ap (λ (b : AnimationAnswer). b.step_count) q),
        )
