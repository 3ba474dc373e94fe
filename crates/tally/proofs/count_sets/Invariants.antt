-- The first v sets are counted.
use Rattle.std.proofs.Common.{◌≡◌, length, take}
use Rattle.lists.specs.Over.{over}
use Rattle.lists.specs.Tabulate.{tabulate}
use Rattle.tally.proofs.Sets.{grown}
use Rattle.tally.proofs.count_sets.Given as goal

abbrev pub invariant-loop-v : goal.invariant-loop-v
invariant-loop-v l = l.counts ≡ over (take l.v (tabulate (length l.sets) (grown l.initial.counts l.sets))) l.initial.counts
