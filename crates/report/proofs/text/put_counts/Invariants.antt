-- The counts so far, written one after the other.
use Rattle.std.proofs.Common.{◌≡◌, ◌*◌, ◌≤◌, length, take}
use Rattle.lists.specs.Written.{Written}
use Rattle.report.specs.Labels.{blank}
use Rattle.report.specs.Lines.{max_item, items}
use Rattle.report.proofs.text.put_counts.Given as goal

abbrev pub invariant-loop-n : goal.invariant-loop-n
invariant-loop-n l =
    (l.end ≤ l.n-index * max_item blank) × Written (items (take l.n-index l.n-items)) l.initial.out l.out l.end
    × (length l.out ≡ length l.initial.out) × (length l.n-items ≡ 16) × (l.n-items ≡ l.fn.counts)
