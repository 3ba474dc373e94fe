-- What the colour animation answers (document 02, ticket 10), stated a second time: the order of judging, the numbers,
-- and what comes with a refusal. That the contract's definition answers so is proved (proofs/Animation.antt); what is
-- shown of an accepted file is stated a second time in neochrome_animation/specs/Fields.antt.
use Rattle.std.specs.Prelude.{ℕ, ◌+◌, ◌*◌, ◌^◌, ◌≡◌, false, not, cond, ◌||◌, List, [], ◌∷◌, length, get_or, ltb, eqb}
use Rattle.outcome.specs.Outcome.{refusal}
use Rattle.neochrome_animation.specs.declared.AnimationAnswer.{AnimationAnswer}
use Rattle.demands.specs.Refusals.{Refuses}
use Rattle.answers.specs.Orders.{Test, neochrome_tests}

-- "1989: bytes 0-3 are the resolution"
abbrev pub four_bytes : List ℕ → ℕ
four_bytes file = get_or file 0 0 * 2 ^ 24 + get_or file 1 0 * 2 ^ 16 + get_or file 2 0 * 2 ^ 8 + get_or file 3 0

-- "Under 1989 a flag word that is not 0 is refused as 5, not 4"
abbrev pub tests1989 : List ℕ → List Test
tests1989 file = (not (eqb (length file) 32128), 3) ∷ (ltb 2 (four_bytes file), 5) ∷ []

-- "2 for another list, then 3, 4, 5"; the list of 2008 judges as reading does
abbrev pub animation_order : ℕ → List ℕ → List Test
animation_order list file =
    (eqb list 0 || ltb 2 list, 2) ∷ cond (eqb list 1) (tests1989 file) (neochrome_tests file)

-- 4 never comes under 1989
abbrev pub numbers1989 : List ℕ
numbers1989 = 0 ∷ 3 ∷ 5 ∷ []

abbrev pub numbers2008 : List ℕ
numbers2008 = 0 ∷ 3 ∷ 4 ∷ 5 ∷ []

-- a refusal gives zero in all else: in its place and rows, and in every field
pub record NoAnimation (a : AnimationAnswer) : Type 0 where
  pub place : a.refusal ≡ refusal a.refusal.number 0
  pub valid : a.limits_valid ≡ false
  pub left : a.left_limit ≡ 0
  pub right : a.right_limit ≡ 0
  pub on : a.on ≡ false
  pub direction : a.direction ≡ 0
  pub vblanks : a.vblanks ≡ 0
  pub steps : a.step_count ≡ 0

abbrev pub AnimationRefusal : AnimationAnswer → Type 0
AnimationRefusal a = Refuses a.refusal → NoAnimation a
