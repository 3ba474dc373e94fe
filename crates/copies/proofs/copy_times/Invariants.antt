-- `copies::copy_times`: the part is written k times over the front.
use Rattle.std.proofs.Common.{◌≡◌}
use Rattle.lists.specs.Over.{over}
use Rattle.lists.specs.Repeated.{repeated}
use Rattle.copies.proofs.copy_times.Given as goal

abbrev pub invariant-loop-k : goal.invariant-loop-k
invariant-loop-k l = record { written : l.out ≡ over (repeated l.k l.part) l.fn.out }
