-- The first x words are written.
use Rattle.std.proofs.Common.{◌≡◌, ◌+◌, length, get_or, take}
use Rattle.lists.specs.Over.{over}
use Rattle.lists.specs.Tabulate.{tabulate}
use Rattle.spectrum_positions.specs.Positions.{columns}
use Rattle.spectrum_colours.proofs.put_words.Given as goal

abbrev pub invariant-loop-x : goal.invariant-loop-x
invariant-loop-x l =
    (length l.out ≡ length l.fn.out)
    × (l.out
    ≡ over (take l.x (tabulate columns (λ x. get_or l.palettes (l.first + get_or l.positions x 0) 0))) l.fn.out)
