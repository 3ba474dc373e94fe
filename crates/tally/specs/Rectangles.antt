-- The pixels of a rectangle (document 01, "Order of judging": tally and pond reading).
use Rattle.std.specs.Prelude.{ℕ, ◌+◌, Bool, not, ◌&&◌, List, leb}
use Rattle.lists.specs.Sum.{sum}
use Rattle.outcome.specs.Outcome.{Outcome, refuse_if}
use Rattle.outcome.specs.Refusal.{out_of_range}
use Rattle.resolution.specs.declared.Resolution.{Resolution}
use Rattle.resolution.specs.Choice.{judge_screen}
use Rattle.resolution.specs.Shapes.{width_of, height_of}
use Rattle.lines.specs.Registers.{register}
use Rattle.tally.specs.declared.Rectangle.{Rectangle}

-- left plus columns does not exceed the width, nor top plus lines the height, as whole numbers
abbrev pub rectangle_fits : Resolution → Rectangle → Bool
rectangle_fits r a = leb (a.left + a.columns) (width_of r) && leb (a.top + a.lines) (height_of r)

-- a rectangle at a resolution
abbrev pub judge_rectangle_at : {A : Type 0} → Resolution → Rectangle → Outcome A → Outcome A
judge_rectangle_at r a further = refuse_if (not (rectangle_fits r a)) out_of_range further

-- the screen's length, the resolution's number and the rectangle, judged in this order
abbrev pub judge_rectangle : {A : Type 0} → ℕ → ℕ → Rectangle → (Resolution → Outcome A) → Outcome A
judge_rectangle screen_len number a further = judge_screen screen_len number (λ r. judge_rectangle_at r a (further r))

-- f of the register, summed over the n columns from left in scan line y
unfoldable pub line_sum : List ℕ → Resolution → ℕ → ℕ → ℕ → (ℕ → ℕ) → ℕ
line_sum s r left n y f = sum n (λ i. f (register s r (left + i) y))

-- f of the register, summed over a rectangle's pixels
unfoldable pub rectangle_sum : List ℕ → Resolution → Rectangle → (ℕ → ℕ) → ℕ
rectangle_sum s r a f = sum a.lines (λ j. line_sum s r a.left a.columns (a.top + j) f)
