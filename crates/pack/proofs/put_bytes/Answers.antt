-- `pack::put_bytes`: the control byte, and the bytes copied behind it.
use mathlib.Core.Path.{ap, ◌∙◌}
use mathlib.Core.List.{◌∷◌}
use Prim.Native.Nat.{ℕ, ◌-◌}
use native.Mathlib.Omega.{arith}
use lib.ListN.{take}
use Rattle.lists.specs.Over.{over}
use mathlib.Core.Path.{sym}
use Rattle.pack.proofs.Controls.{literal-written}
use Rattle.pack.proofs.Records.{literal-shown}
use Rattle.pack.proofs.put_bytes.Goals as goal

pub returns-clause-out_after : goal.returns-clause-out_after
returns-clause-out_after c =
    let a = c.args in
    let k = literal-shown a.n (omega arith) (omega arith) in
    literal-written (a.n - 1) a.n a.row.now a.out.now _ (omega arith) c.put_literal.ensures
    ∙ ap (λ (k : ℕ). over ((a.n - 1) ∷ take k a.row.now) a.out.now) (sym k.0)
