-- The first x registers are replaced by their positions.
use Rattle.std.proofs.Common.{◌≡◌, length, take}
use Rattle.lists.specs.Over.{over}
use Rattle.lists.specs.Tabulate.{tabulate}
use Rattle.resolution.specs.declared.Resolution.TheVariants.{Low}
use Rattle.lines.specs.Registers.{register, scan_line}
use Rattle.spectrum_positions.specs.Positions.{columns, position_of}
use Rattle.spectrum_colours.proofs.line_positions.Given as goal

abbrev pub invariant-loop-x : goal.invariant-loop-x
invariant-loop-x l =
    (length l.positions ≡ columns)
    × (l.positions
    ≡ over (take l.x (tabulate columns (λ x. position_of x (register l.screen Low x l.line))))
    (scan_line l.screen Low l.line))
