use Rattle.std.proofs.Common.{◌≡◌, length, arith}
use Rattle.tally.proofs.Sets.{done, turn}
use Rattle.tally.proofs.count_sets.Goals as goal

pub loop-v-preserved : goal.loop-v-preserved
loop-v-preserved c =
    let l = c.loop-v in
    let a = c.args in
    turn a.counts.now a.sets.now c.requires.0.all c.requires.1 l.counts l.v (omega arith) l.invariant c.more.result
    c.more.ensures

pub returns : goal.returns
returns c =
    let l = c.loop-v in
    let a = c.args in
    let e : l.v ≡ length a.sets.now = omega arith in
    done a.counts.now a.sets.now c.requires.0.all c.requires.1 l.counts (rw e at l.invariant)
