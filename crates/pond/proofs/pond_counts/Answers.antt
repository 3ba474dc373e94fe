use Rattle.std.proofs.Common.{◌≡◌, suc, ◌+◌, ◌*◌, ◌≤◌, ap, add-one, arith, rules}
use Rattle.lists.specs.Sum.{sum}
use Rattle.tally.specs.Counts.{most_pixels}
use Rattle.legend.specs.Entries.{entries}
use Rattle.pond.specs.declared.PondCounts.{PondCounts}
use Rattle.pond.specs.Reading.{pond_from}
use Rattle.pond.proofs.Entries.{entries-le}
use Rattle.pond.proofs.pond_counts.Goals as goal
use Rattle.pond.proofs.pond_counts.Goals.{After-entry_counts-entry}

-- the sums with one register more
sums-le : (c : After-entry_counts-entry) → let s = c.loop-v.sums in
    let e = c.entry_counts-entry.result in
    (s.sure + e.sure ≤ entries * most_pixels) × (s.unsure + e.unsure ≤ entries * most_pixels)
    × (s.other + e.other ≤ entries * most_pixels)
unfolding sum
sums-le c =
    let l = c.loop-v in
    let a = c.args in
    let e = c.entry_counts-entry.ensures in
    let n = entries-le a.legend a.party a.class a.floor a.counts most_pixels (suc l.v) c.requires in (
      omega (arith, l.invariant.0, ap (λ (p : PondCounts). p.sure) e, n.0),
      omega (arith, l.invariant.1, ap (λ (p : PondCounts). p.unsure) e, n.1),
      omega (arith, l.invariant.2, ap (λ (p : PondCounts). p.other) e, n.2),
    )

pub loop-v-init : goal.loop-v-init
unfolding sum
loop-v-init c = search rules

pub overflow_add-sums : goal.overflow_add-sums
overflow_add-sums c = omega (arith, (sums-le (goal.at.overflow_add-sums c).After-entry_counts-entry).0)

pub overflow_add-sums-in-loop-v : goal.overflow_add-sums-in-loop-v
overflow_add-sums-in-loop-v c =
    omega (arith, (sums-le (goal.at.overflow_add-sums-in-loop-v c).After-entry_counts-entry).1)

pub overflow_add-sums-in-loop-v-2 : goal.overflow_add-sums-in-loop-v-2
overflow_add-sums-in-loop-v-2 c =
    omega (arith, (sums-le (goal.at.overflow_add-sums-in-loop-v-2 c).After-entry_counts-entry).2)

pub loop-v-preserved : goal.loop-v-preserved
unfolding sum
loop-v-preserved c =
    let l = c.loop-v in
    let e = c.entry_counts-entry.ensures in (
      rw (add-one l.v) (omega (arith, l.invariant.0, ap (λ (p : PondCounts). p.sure) e)),
      rw (add-one l.v) (omega (arith, l.invariant.1, ap (λ (p : PondCounts). p.unsure) e)),
      rw (add-one l.v) (omega (arith, l.invariant.2, ap (λ (p : PondCounts). p.other) e)),
    )

pub returns : goal.returns
unfolding pond_from
returns c =
    let l = c.loop-v in
    let e : l.v ≡ entries = omega arith in
    rw (l.invariant.0, l.invariant.1, l.invariant.2, e)
