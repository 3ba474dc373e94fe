-- The first v registers are added up.
use Rattle.std.proofs.Common.{◌≡◌, get_or}
use Rattle.lists.specs.Sum.{sum}
use Rattle.pond.specs.Reading.{entry_counts}
use Rattle.pond.proofs.pond_counts.Given as goal

abbrev pub invariant-loop-v : goal.invariant-loop-v
invariant-loop-v l =
    (l.sums.sure ≡ sum l.v (λ v. (entry_counts l.legend l.party l.class l.floor v (get_or l.counts v 0)).sure))
    × (l.sums.unsure ≡ sum l.v (λ v. (entry_counts l.legend l.party l.class l.floor v (get_or l.counts v 0)).unsure))
    × (l.sums.other ≡ sum l.v (λ v. (entry_counts l.legend l.party l.class l.floor v (get_or l.counts v 0)).other))
