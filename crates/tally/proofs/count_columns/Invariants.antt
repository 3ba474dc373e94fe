-- The first i columns are counted.
use Rattle.std.proofs.Common.{◌≡◌, ◌+◌, ◌-◌, ◌*◌, ◌≤◌, replicate}
use Rattle.tally.specs.Blocks.{blocks_register}
use Rattle.tally.specs.Counts.{counted_lines}
use Rattle.tally.proofs.count_columns.Given as goal

abbrev pub invariant-loop-i : goal.invariant-loop-i
invariant-loop-i g l =
    (l.i ≤ l.columns)
    × (l.sums
    ≡ counted_lines (replicate 16 0)
    (λ j i. blocks_register l.screen (l.lines.at + j * l.lines.step) g.row.PLANES (l.left + i)) l.i l.lines.blocks)

abbrev pub decreases-loop-i : goal.decreases-loop-i
decreases-loop-i g l = l.columns - l.i
