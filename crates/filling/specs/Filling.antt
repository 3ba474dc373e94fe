-- Something of a known size, filled step by step from an offset of a file on: a line by its records, a picture by its
-- lines. It is finished the moment nothing is left to fill.
use Rattle.outcome.specs.Outcome.{Outcome}
use Rattle.std.specs.Prelude.{ℕ, zero, suc, ◌-◌, List, [], ◌++◌, Ok, Err}

-- A step that is accepted.
pub record Step : Type 0 where
  -- the offset behind it
  pub next : ℕ
  -- how much it fills of what is left
  pub filled : ℕ
  -- the bytes that it makes
  pub made : List ℕ

-- How far filling came.
pub record Filling : Type 0 where
  -- the bytes that the accepted steps make
  pub made : List ℕ
  -- the offset behind the last of them, where nothing is left to fill; or why the step behind them is refused
  pub ends : Outcome ℕ

-- no step is made
abbrev pub stopped : Outcome ℕ → Filling
stopped ends = record { made = []; ends = ends }

-- bytes that are made before the others
abbrev pub after : List ℕ → Filling → Filling
after made f = record { made = made ++ f.made; ends = f.ends }

-- an accepted step, and what `next` makes of what it leaves; a refused one stops
abbrev pub proceed : Outcome Step → (Step → Filling) → Filling
proceed (Ok s) next = after s.made (next s)
proceed (Err why) next = stopped (Err why)

-- Steps judged at an offset, with so much left to fill.
module _ (judge : ℕ → ℕ → Outcome Step) where
  -- at most `bound` steps; with a bound as in `fill` the first case is never reached
  unfoldable pub fill_within : ℕ → ℕ → ℕ → Filling
  fill_within zero at left = stopped (Ok at)
  fill_within (suc bound) at zero = stopped (Ok at)
  fill_within (suc bound) at (suc left) =
      proceed (judge at (suc left)) (λ s. fill_within bound s.next (suc left - s.filled))

  -- Each accepted step makes the measure less, so one more than it bounds the recursion.
  unfoldable pub fill : (ℕ → ℕ → ℕ) → ℕ → ℕ → Filling
  fill measure at left = fill_within (suc (measure at left)) at left
