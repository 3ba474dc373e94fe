-- `spectrum_positions::position_table` meets its contract: one test over the whole table, computed.
use mathlib.Core.Path.{refl}
use mathlib.Core.List.{flatten}
use Rattle.lists.specs.Tabulate.{tabulate}
use Rattle.spectrum_positions.specs.Positions.{second_from, position_of}
use Rattle.spectrum_positions.specs.PositionTable.{column_positions, position_table}
use Rattle.spectrum_positions.proofs.position_table.Statement.{statement}
use Rattle.spectrum_positions.proofs.position_table.Tie as tie

returns : tie.Need-returns
unfolding position_table flatten column_positions tabulate position_of second_from
returns c = refl

pub position_table_spec : {M : Type 1} → statement M
position_table_spec = tie.close (tie.spec
    returns)
