-- `pack::put_repeat`: the control byte, and the byte behind it.
use mathlib.Core.Path.{sym, ap, ◌∙◌}
use mathlib.Core.List.{◌∷◌}
use Prim.Native.Nat.{ℕ, ◌-◌}
use native.Mathlib.Omega.{arith}
use lib.ListN.{take}
use Rattle.lists.specs.Over.{over}
use Rattle.pack.proofs.Controls.{repeat-written}
use Rattle.pack.proofs.Records.{repeat-shown}
use Rattle.pack.proofs.put_repeat.Goals as goal

pub returns-clause-out_after : goal.returns-clause-out_after
returns-clause-out_after c =
    let a = c.args in
    let k = repeat-shown a.n (omega arith) (omega arith) in
    repeat-written (257 - a.n) a.row.now a.out.now (omega arith) (omega arith)
    ∙ ap (λ (k : ℕ). over ((257 - a.n) ∷ take k a.row.now) a.out.now) (sym k.0)
