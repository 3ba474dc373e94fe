-- The words of the first b blocks are made.
use Rattle.std.proofs.Common.{◌≡◌, ◌*◌, take}
use Rattle.lists.specs.Over.{over}
use Rattle.lists.specs.Tabulate.{tabulate}
use Rattle.lines.specs.Blocks.{line_word}
use Rattle.lines.proofs.fill_words.Given as goal

abbrev pub invariant-loop-b : goal.invariant-loop-b
invariant-loop-b g l = l.words ≡ over (take (l.b * 2) (tabulate (l.blocks * 2) (line_word l.registers g.row.WIDTH))) l.initial.words
