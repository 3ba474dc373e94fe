-- The first i bytes are written.
use Rattle.std.proofs.Common.{◌≡◌, take}
use Rattle.lists.specs.Over.{over_at}
use Rattle.lists.specs.Tabulate.{tabulate}
use Rattle.lines.specs.Blocks.{block_byte}
use Rattle.lines.proofs.put_block.Given as goal

abbrev pub invariant-loop-i : goal.invariant-loop-i
invariant-loop-i l = l.screen ≡ over_at l.at (take l.i (tabulate 16 (block_byte l.left l.right))) l.initial.screen
