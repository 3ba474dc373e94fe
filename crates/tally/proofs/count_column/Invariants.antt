-- The first j blocks are counted.
use Rattle.std.proofs.Common.{◌≡◌}
use Rattle.tally.specs.Blocks.{strip_register}
use Rattle.tally.specs.Counts.{counted_lines}
use Rattle.tally.proofs.count_column.Given as goal

abbrev pub invariant-loop-j : goal.invariant-loop-j
invariant-loop-j g l =
    l.counts
    ≡ counted_lines l.initial.counts (strip_register l.screen g.row.PLANES l.strip l.part.pixels l.part.right) l.part.pixels l.j
