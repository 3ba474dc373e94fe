use Rattle.std.proofs.Common.{ℕ, ◌*◌, ◌^◌, ap, add-one, arith, rules}
use Rattle.lists.specs.Sum.{sum}
use Rattle.lines.specs.Columns.{spread_column}
use Rattle.lines.proofs.Columns.{plane-share}
use Rattle.lines.proofs.spread_column.Goals as goal

pub loop-p-init : goal.loop-p-init
unfolding spread_column sum
loop-p-init g c = search rules

pub loop-p-preserved : goal.loop-p-preserved
unfolding spread_column sum
loop-p-preserved g c =
    let l = c.loop-p in
    let share = plane-share c.spread_byte.result l.p c.spread_byte.ensures.1 (omega arith) in (
      rw (share.0, add-one l.p)
          (omega (arith, l.invariant.0, ap (λ (m : ℕ). m * 2 ^ l.p) c.spread_byte.ensures.0)),
      omega (arith, share.0, share.1, l.invariant.1),
    )
