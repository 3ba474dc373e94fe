use Rattle.std.proofs.Common.{◌-◌}
use Rattle.unpack.proofs.Filling.{Filling}
use Rattle.unpack.proofs.fill_rows.Given as goal

abbrev pub invariant-loop-reached : goal.invariant-loop-reached
invariant-loop-reached l =
    let n = l.reached in
    Filling l.file l.at l.rows l.width l.initial.out l.end l.out n.from n.to n.room n.records

abbrev pub decreases-loop-reached : goal.decreases-loop-reached
decreases-loop-reached l = l.end - l.reached.to
