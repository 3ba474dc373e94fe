-- The resolution that a number names, and what is judged with it (document 01, "Numbers given back": 5 for a number
-- above 2).
use Rattle.std.specs.Prelude.{ℕ, cond, ltb, eqb, Ok, Err, None, Option, Some}
use Rattle.outcome.specs.Outcome.{Outcome, refuse, refuse_if}
use Rattle.outcome.specs.Refusal.{area_too_short, unknown_resolution}
use Rattle.resolution.specs.declared.Resolution.{Resolution}
use Rattle.resolution.specs.declared.Resolution.TheVariants.{Low, Medium, High}
use Rattle.resolution.specs.Shapes.{screen_bytes}

-- 0 low, 1 medium, 2 high
abbrev pub chosen : ℕ → Option Resolution
chosen n = cond (eqb n 0) (Some Low) (cond (eqb n 1) (Some Medium) (cond (eqb n 2) (Some High) None))

-- `chosen` undone (proofs/Choice.antt, `chosen-number` and `number-chosen`)
abbrev pub number_of : Resolution → ℕ
number_of Low = 0
number_of Medium = 1
number_of High = 2

-- judged further with the resolution, or refused where there is none
abbrev pub judge_with : {A : Type 0} → Option Resolution → (Resolution → Outcome A) → Outcome A
judge_with (Some r) further = further r
judge_with None further = refuse unknown_resolution

-- the same from the resolution's number
abbrev pub with_resolution : {A : Type 0} → ℕ → (Resolution → Outcome A) → Outcome A
with_resolution number further = judge_with (chosen number) further

-- the length of a screen and the resolution's number, judged in this order
abbrev pub judge_screen : {A : Type 0} → ℕ → ℕ → (Resolution → Outcome A) → Outcome A
judge_screen screen_len number further = refuse_if (ltb screen_len screen_bytes) area_too_short (with_resolution number further)
