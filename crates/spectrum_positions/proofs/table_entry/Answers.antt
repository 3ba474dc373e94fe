-- The law of the table, cited at the entry.
use Rattle.spectrum_positions.proofs.PositionTable.{table-position}
use Rattle.spectrum_positions.proofs.table_entry.Goals as goal

pub returns : goal.returns
returns c =
    rw c.position_table.ensures (table-position c.args.column c.args.register c.requires.0 c.requires.1)
