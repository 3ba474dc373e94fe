-- The colour animation answers as specs/Animation.antt says.
use Rattle.std.specs.Prelude.{Ok, Err}
use mathlib.Core.Path.{◌≡◌, refl, ap, ◌∙◌}
use Prim.Native.Nat.{ℕ}
use mathlib.Core.Bool.{true, not}
use mathlib.Core.List.{List, [], ◌∷◌}
use native.Mathlib.Omega.{arith}
use lib.ListN.{length}
use lib.Dec.{ltb, eqb}
use Rattle.lists.proofs.Cond.{cond-elim, cond-eqb}
use Rattle.outcome.specs.Outcome.{Outcome, refusal, map}
use Rattle.outcome.specs.Refusal.{wrong_length, wrong_flag}
use Rattle.words.specs.Word.{word_at}
use Rattle.resolution.specs.declared.Resolution.{Resolution}
use Rattle.resolution.proofs.Choice.{with_resolution-elim}
use Rattle.neochrome.specs.Layout.{file_length, resolution_start}
use Rattle.neochrome.specs.Opening.{opening}
use Rattle.neochrome_animation.specs.declared.ColourAnimation.{ColourAnimation}
use Rattle.neochrome_animation.specs.Lists.{long_resolution, opening1989, shown1989, shown2008}
use Rattle.neochrome_animation.specs.Judging.{animation1989, animation2008, animation, animation_answer}
use Rattle.answers.specs.Orders.{first_refusal, neochrome_tests, one_of}
use Rattle.answers.specs.Animation.{four_bytes, tests1989, animation_order, numbers1989, numbers2008}
use Rattle.answers.specs.Animation.{AnimationRefusal}
use Rattle.answers.proofs.Orders.{first-test, first-resolution, outside, in_order}

abbrev number : Outcome ColourAnimation → ℕ
number o = (animation_answer o).refusal.number

-- ---- the order

module _ (file : List ℕ) where
  -- the number of what is shown of an opened file
  abbrev shown_number : ColourAnimation → Outcome Resolution → ℕ
  shown_number a o = number (map (λ _. a) o)

  long-bytes : long_resolution file ≡ four_bytes file
  unfolding word_at
  long-bytes = omega arith

  order-1989 : number (animation1989 file) ≡ first_refusal (tests1989 file)
  unfolding animation1989 opening1989
  order-1989 =
      first-test (shown_number (shown1989 file)) (λ n. refl) (not (eqb (length file) file_length)) wrong_length (λ _.
      first-resolution (shown_number (shown1989 file)) (λ n. refl) (long_resolution file) (λ r. Ok r) (λ _. 0) refl
      refl refl
      ∙ ap (λ (n : ℕ). first_refusal ((ltb 2 n, 5) ∷ [])) long-bytes)

  order-2008 : number (animation2008 file) ≡ first_refusal (neochrome_tests file)
  unfolding animation2008 opening
  order-2008 =
      first-test (shown_number (shown2008 file)) (λ n. refl) (not (eqb (length file) file_length)) wrong_length (λ _.
      first-test (shown_number (shown2008 file)) (λ n. refl) (not (eqb (word_at file 0) 0)) wrong_flag (λ _.
      first-resolution (shown_number (shown2008 file)) (λ n. refl) (word_at file resolution_start) (λ r. Ok r)
      (λ _. 0) refl refl refl))

  pub animation-order : (list : ℕ) → number (animation list file) ≡ first_refusal (animation_order list file)
  unfolding animation
  animation-order list =
      cond-eqb Is list 1 (λ e. rw e order-1989) (λ not1.
      cond-eqb Is list 2 (λ e. rw e order-2008) (λ not2.
      rw (outside list 2 (λ not0. omega arith))))
    where
      Is : Outcome ColourAnimation → Type 0
      Is o = number o ≡ first_refusal (animation_order list file)

  -- ---- the numbers

  pub animation-numbers-1989 : one_of numbers1989 (number (animation 1 file)) ≡ true
  animation-numbers-1989 = in_order numbers1989 (animation_order 1 file) (animation-order 1) refl

  pub animation-numbers-2008 : one_of numbers2008 (number (animation 2 file)) ≡ true
  animation-numbers-2008 = in_order numbers2008 (animation_order 2 file) (animation-order 2) refl

  -- ---- what a refusal gives; nothing is lent but the file, which is only read

  -- its place, plane row and good bytes are 0
  abbrev Placeless : Outcome ColourAnimation → Type 0
  Placeless o = (animation_answer o).refusal ≡ refusal (number o) 0

  placeless : (list : ℕ) → Placeless (animation list file)
  unfolding animation animation1989 animation2008 opening1989 opening
  placeless list =
      cond-eqb Placeless list 1
      (λ _. cond-elim (Opened (shown1989 file)) (not (eqb (length file) file_length)) (λ _. refl) (λ _.
      with_resolution-elim (Opened (shown1989 file)) (long_resolution file) (λ r. Ok r) refl (λ r _. refl)))
      (λ _.
      cond-eqb Placeless list 2
      (λ _. cond-elim (Opened (shown2008 file)) (not (eqb (length file) file_length)) (λ _. refl) (λ _.
      cond-elim (Opened (shown2008 file)) (not (eqb (word_at file 0) 0)) (λ _. refl) (λ _.
      with_resolution-elim (Opened (shown2008 file)) (word_at file resolution_start) (λ r. Ok r) refl
      (λ r _. refl))))
      (λ _. refl))
    where
      Opened : ColourAnimation → Outcome Resolution → Type 0
      Opened a o = Placeless (map (λ _. a) o)

  pub animation-refused : (list : ℕ) → AnimationRefusal (animation_answer (animation list file))
  animation-refused list = go (animation list file) (placeless list)
    where
      go : (o : Outcome ColourAnimation) → Placeless o → AnimationRefusal (animation_answer o)
      go (Ok a) zero h = absurd (h refl)
      go (Err why) zero h = record {
        place = zero;
        valid = refl;
        left = refl;
        right = refl;
        on = refl;
        direction = refl;
        vblanks = refl;
        steps = refl;
      }
