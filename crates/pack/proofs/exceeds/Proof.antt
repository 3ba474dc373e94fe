-- `pack::exceeds` meets its contract, by `least-bound`.
use Prim.Native.Nat.{ℕ}
use native.Mathlib.Omega.{arith}
use mathlib.Core.Path.{sym, ap}
use lib.ListN.{length}
use lib.Dec.{ltb}
use borrow.Author.Tests.{le-ltb}
use Rattle.pack.specs.Least.{least}
use Rattle.pack.proofs.Bounds.{least-bound}
use borrow.Author.Rules.{rules}
use Rattle.pack.proofs.exceeds.Statement.{statement}
use Rattle.pack.proofs.exceeds.Tie as tie

returns : tie.Need-returns-then-row-room
returns c =
    let a = c.args in
    let row = a.row.now in
    sym (le-ltb a.room (length (least row)) (omega (arith, least-bound row)))

returns-2 : tie.Need-returns
returns-2 c = ap (λ (n : ℕ). ltb c.args.room n) c.body_len.ensures

pub exceeds_spec : {M : Type 1} → statement M
exceeds_spec = tie.close (tie.spec
    returns
    (λ c κs. search rules)
    returns-2)
