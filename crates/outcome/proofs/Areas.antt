-- Laws of the later content of a lent area.
use Rattle.std.specs.Prelude.{Ok, Err}
use mathlib.Core.Path.{◌≡◌}
use mathlib.Core.List.{List, ◌++◌}
use Prim.Native.Nat.{ℕ}
use lib.ListN.{length, take, drop}
use Rattle.lists.specs.Over.{over}
use Rattle.lists.proofs.Parts.{over-cut, kept-cut}
use Rattle.outcome.specs.Outcome.{Outcome, later}

-- an area of which the first n are lent, and what is given back for them
pub area-cut : {A B : Type 0} (o : Outcome A) (gives : A → List B) (area part : List B) (n : ℕ)
    → length part ≡ length (take n area) → part ≡ later o (λ a. over (gives a) (take n area)) (take n area)
    → part ++ drop n area ≡ later o (λ a. over (gives a) area) area
area-cut (Ok a) gives area part n kept is = over-cut (gives a) area part n kept is
area-cut (Err why) gives area part n kept is = kept-cut area part n is
