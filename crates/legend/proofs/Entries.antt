-- Laws of a legend's entries.
use mathlib.Core.Path.{◌≡◌}
use mathlib.Core.Bool.{true}
use Prim.Native.Nat.{ℕ}
use native.Mathlib.Omega.{arith}
use lib.Dec.{ltb, leb}
use borrow.Author.Tests.{ltb-true}
use Rattle.lists.proofs.Cond.{and-true}
use Rattle.legend.specs.Entries.{free, max_party, is_party}

-- no party is the owner of free entries
pub party-some : (party : ℕ) → is_party party ≡ true → free ≡ party → ⊥
unfolding is_party
party-some party known e =
    omega (arith, ltb-true free party (and-true (ltb free party) (leb party max_party) known).0)
