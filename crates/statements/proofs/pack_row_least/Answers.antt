-- `pack_row_least` meets its contract: the body of `pack::pack_row` is least.
use Rattle.statements.proofs.Rows.{packs-exactly, packs-least}
use Rattle.statements.proofs.pack_row_least.Goals as goal

pub returns-clause-exactly : goal.returns-clause-exactly
returns-clause-exactly c =
    rw (c.into.ensures, c.pack_row.ensures.value) (packs-exactly c.args.row.now c.args.out.now)

pub returns-clause-least : goal.returns-clause-least
returns-clause-least c =
    rw (c.into.ensures, c.pack_row.ensures.value, c.pack_row.ensures.out_after)
    (packs-least c.args.row.now c.args.out.now)
