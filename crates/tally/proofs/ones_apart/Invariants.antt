-- The first j blocks are counted.
use Rattle.std.proofs.Common.{◌≡◌}
use Rattle.tally.specs.Blocks.{strip_register}
use Rattle.tally.specs.Counts.{line_counts}
use Rattle.tally.proofs.ones_apart.Given as goal

abbrev pub invariant-loop-j : goal.invariant-loop-j
invariant-loop-j g l =
    l.ones ≡ line_counts (strip_register l.screen 1 l.strip l.fn.part.pixels l.fn.part.right) l.fn.part.pixels l.j 1
