-- Laws of the lent area of a reading.
use mathlib.Core.Path.{◌≡◌}
use mathlib.Core.List.{List, ◌++◌}
use Prim.Native.Nat.{ℕ, ◌≤◌, ◌<◌}
use lib.ListN.{length, take, drop}
use borrow.Author.Tests.{lt-ltb, le-ltb}
use Rattle.outcome.specs.Outcome.{Outcome, refuse}
use Rattle.outcome.specs.Refusal.{area_too_short}
use Rattle.outcome.proofs.Areas.{area-cut as any-area-cut}
use Rattle.resolution.specs.Shapes.{screen_bytes}
use Rattle.picture.specs.Reading.{Reading, judge_area, read_area}

module _ {A : Type 0} (area : ℕ) (further : Outcome A) where
  pub area-short : area < screen_bytes → judge_area area further ≡ refuse area_too_short
  area-short h = simp (lt-ltb area screen_bytes h)

  pub area-fits : screen_bytes ≤ area → judge_area area further ≡ further
  area-fits h = simp (le-ltb area screen_bytes h)

-- a reading into the first n bytes alone, with the later bytes behind them, is one into the whole area
pub area-cut : (o : Outcome Reading) (area part : List ℕ) (n : ℕ) → length part ≡ length (take n area)
    → part ≡ read_area o (take n area) → part ++ drop n area ≡ read_area o area
area-cut o = any-area-cut o (λ (q : Reading). q.screen)
