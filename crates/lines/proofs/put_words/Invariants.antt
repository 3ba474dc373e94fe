-- The first b blocks are written.
use Rattle.std.proofs.Common.{◌≡◌, ◌*◌, take}
use Rattle.lists.specs.Over.{over_at}
use Rattle.lists.specs.Tabulate.{tabulate}
use Rattle.lines.specs.Blocks.{words_byte}
use Rattle.lines.proofs.put_words.Given as goal

abbrev pub invariant-loop-b : goal.invariant-loop-b
invariant-loop-b l = l.screen ≡ over_at l.start (take (l.b * 16) (tabulate (l.blocks * 16) (words_byte l.words))) l.initial.screen
