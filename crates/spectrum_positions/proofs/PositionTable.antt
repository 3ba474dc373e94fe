-- The table's entry of a column and a register is the position there.
use mathlib.Core.Path.{◌≡◌, ap, ◌∙◌}
use mathlib.Core.List.{List, []}
use Prim.Native.Nat.{ℕ, ◌+◌, ◌*◌, ◌<◌}
use native.Mathlib.Omega.{arith}
use lib.ListN.{get_or}
use Rattle.lists.specs.Tabulate.{tabulate}
use Rattle.lists.proofs.Tabulate.{length-tabulate, get_or-tabulate}
use Rattle.lists.proofs.Wide.{wide-tabulate, get_or-flatten}
use Rattle.spectrum_positions.specs.Positions.{columns, registers, position_of}
use Rattle.spectrum_positions.specs.PositionTable.{column_positions, position_table}

pub table-position : (x c : ℕ) → x < columns → c < registers
    → get_or position_table (x * registers + c) 0 ≡ position_of x c
unfolding column_positions position_table
table-position x c h k =
    (get_or-flatten registers (tabulate columns column_positions)
    (wide-tabulate registers columns column_positions (λ x. length-tabulate registers (position_of x)))
    x
    c
    (omega (arith, length-tabulate columns column_positions))
    k
    ).1
    ∙ ap (λ (l : List ℕ). get_or l c 0) (get_or-tabulate columns column_positions x [] h)
    ∙ get_or-tabulate registers (position_of x) c 0 k
