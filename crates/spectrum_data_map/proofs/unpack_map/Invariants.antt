use Rattle.std.proofs.Common.{◌≡◌, ◌-◌, ◌≤◌, length}
use Rattle.filling.proofs.Putting.{Putting}
use Rattle.spectrum_data_map.specs.DataMap.{fill_map}
use Rattle.spectrum_data_map.proofs.unpack_map.Given as goal

abbrev pub invariant-loop-to : goal.invariant-loop-to
invariant-loop-to l =
    (l.to ≤ length l.fn.out)
    × (l.size ≡ length l.fn.out)
    × Putting (fill_map l.map l.at (length l.fn.out)) (fill_map l.map l.from (length l.fn.out - l.to))
    l.fn.out l.out l.to

abbrev pub decreases-loop-to : goal.decreases-loop-to
decreases-loop-to l = l.size - l.to
