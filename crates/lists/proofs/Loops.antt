-- Steps of loops that write a list over the front of an output, in the form in which `grind` finds them: `writes` is
-- for a loop that writes what a rule gives, one element a turn.
use mathlib.Core.Path.{◌≡◌, refl, ap}
use mathlib.Core.List.{List}
use Prim.Native.Nat.{ℕ, ◌+◌, ◌≤◌, ◌<◌}
use native.Mathlib.Omega.{arith}
use lib.ListN.{length, take, set, length-set}
use lib.Seq.{take_all}
use Rattle.lists.specs.Over.{over}
use Rattle.lists.specs.Tabulate.{tabulate}
use Rattle.lists.proofs.Over.{tabulate-turn, over-whole}
use Rattle.lists.proofs.Tabulate.{length-tabulate}

module _ {A : Type 0} where
  pub turn : (n : ℕ) (f : ℕ → A) (d : List A) (k : ℕ) (v : A) → k < n → k < length d → v ≡ f k
      → set (over (take k (tabulate n f)) d) k v ≡ over (take (k + 1) (tabulate n f)) d
  turn n f d k v hn hd e = tabulate-turn n f d _ k v hn hd refl e

  pub last : (n : ℕ) (f : ℕ → A) (d : List A) (k : ℕ) → n ≤ k → over (take k (tabulate n f)) d ≡ over (tabulate n f) d
  last n f d k h = ap (λ (t : List A). over t d) (take_all k (tabulate n f) (omega (arith, length-tabulate n f)))

  pub whole : (n : ℕ) (f : ℕ → A) (d : List A) → length d ≤ n → over (tabulate n f) d ≡ tabulate n f
  whole n f d h = over-whole (tabulate n f) d (omega (arith, length-tabulate n f))

pub ruleset writes = (turn, last, whole, length-set)
