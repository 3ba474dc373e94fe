-- The table of palette positions: 5,120 numbers, a row for each column, an entry for each register.
-- Only contracts of private functions cite this file.
use Rattle.std.specs.Prelude.{ℕ}
use mathlib.Core.List.{List, flatten}
use Rattle.lists.specs.Tabulate.{tabulate}
use Rattle.spectrum_positions.specs.Positions.{columns, registers, position_of}

-- the positions of a column, register by register
unfoldable pub column_positions : ℕ → List ℕ
column_positions x = tabulate registers (position_of x)

-- the columns' positions, end to end
unfoldable pub position_table : List ℕ
position_table = flatten (tabulate columns column_positions)
