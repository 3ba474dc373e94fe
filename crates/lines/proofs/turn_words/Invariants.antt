-- The words before word-index are turned over.
use Rattle.std.proofs.Common.{◌≡◌, get_or, take}
use Rattle.lists.specs.Over.{over}
use Rattle.lists.specs.Tabulate.{tabulate}
use Rattle.lines.specs.Blocks.{turn}
use Rattle.lines.proofs.turn_words.Given as goal

abbrev pub invariant-loop-word : goal.invariant-loop-word
invariant-loop-word l = l.words ≡ over (take l.word-index (tabulate 20 (λ k. turn (get_or l.initial.words k 0)))) l.initial.words
