use Rattle.std.proofs.Common.{◌≡◌, List, ℕ, get_or, ap, ◌∙◌, arith}
use Rattle.lists.proofs.Tabulate.{get_or-tabulate}
use Rattle.lines.specs.Columns.{spread}
use Rattle.lines.proofs.Columns.{spread-le}
use Rattle.lines.proofs.spread_byte.Goals as goal

pub returns : goal.returns
returns c =
    let a = c.args in
    let e : get_or a.table.now a.b 0 ≡ spread a.b =
    ap (λ (l : List ℕ). get_or l a.b 0) c.requires ∙ get_or-tabulate 256 spread a.b 0 (omega arith) in
    (e, omega (arith, e, spread-le a.b))
