use Rattle.std.proofs.Common.{arith}
use Rattle.lines.proofs.Columns.{group-columns}
use Rattle.lines.proofs.copy_group.Goals as goal

pub returns : goal.returns
returns g c =
    let a = c.args in
    group-columns a.screen.now a.out.now _ _ a.at g.row.PLANES a.x _ _ (omega arith) (omega arith)
    c.spread_column-left.ensures c.spread_column-right.ensures c.put_eight.ensures c.put_eight-2.ensures
