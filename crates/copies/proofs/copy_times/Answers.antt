use Rattle.std.proofs.Common.{rules}
use Rattle.lists.proofs.Repeated.{repeated-start, repeated-turn}
use Rattle.copies.proofs.copy_times.Goals as goal

pub loop-k-init : goal.loop-k-init
loop-k-init c = record { written = repeated-start c.args.part.now c.args.out.now }

pub loop-k-preserved : goal.loop-k-preserved
loop-k-preserved c =
    let a = c.args in
    record {
      written = repeated-turn a.part.now a.out.now c.loop-k.out _ c.loop-k.k c.loop-k.invariant.written (search rules);
    }
