use Rattle.std.proofs.Common.{◌-◌, length}
use Rattle.unpack.proofs.Put.{Putting}
use Rattle.unpack.proofs.unpack_into.Given as goal

abbrev pub invariant-loop-to : goal.invariant-loop-to
invariant-loop-to l = Putting l.file l.at l.width l.initial.out l.out l.from l.to l.records

abbrev pub decreases-loop-to : goal.decreases-loop-to
decreases-loop-to l = length l.file - l.from
