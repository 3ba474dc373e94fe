use Rattle.std.proofs.Common.{refl}
use Rattle.lists.specs.Tabulate.{tabulate}
use Rattle.lines.specs.Columns.{spread}
use Rattle.lines.proofs.spread_table.Goals as goal

pub returns : goal.returns
unfolding tabulate spread
returns c = refl
