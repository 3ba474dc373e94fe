-- `pack::end_by_bytes`: the bytes x go on, or end.
use mathlib.Core.Path.{◌∙◌}
use Prim.Native.Nat.{◌+◌}
use native.Mathlib.Omega.{arith}
use Rattle.pack.proofs.Runs.{end_same, end-other, end-over}
use Rattle.pack.proofs.end_by_bytes.Goals as goal

pub returns-then-row-n : goal.returns-then-row-n
returns-then-row-n c =
    end-other c.args.x c.args.row.now c.loop-n.n (omega arith) c.if-row-n.true ∙ c.loop-n.invariant

pub loop-n-preserved : goal.loop-n-preserved
loop-n-preserved c =
    end_same c.args.x c.args.row.now c.loop-n.n (c.loop-n.n + 1) (omega arith) (omega arith) c.if-row-n.false
    ∙ c.loop-n.invariant

pub returns : goal.returns
returns c =
    let past = end-over c.args.x c.args.row.now c.loop-n.n (omega arith) in
    omega (arith, past, c.loop-n.invariant, c.requires)
