use Rattle.std.proofs.Common.{◌-◌, length}
use Rattle.unpack.proofs.Ahead.{Ahead}
use Rattle.unpack.proofs.unpack_ahead.Given as goal

abbrev pub invariant-loop-next : goal.invariant-loop-next
invariant-loop-next l =
    let n = l.next in
    Ahead l.file l.at l.rows l.width l.initial.out l.initial.next.to l.last_row l.last_control l.out n.from n.to n.room
    n.records

abbrev pub decreases-loop-next : goal.decreases-loop-next
decreases-loop-next l = length l.file - l.next.from
