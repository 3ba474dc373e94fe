-- `unpack_row_exactly` meets its contract: `unpack::unpack_row` accepts just the rows that unpack.
use Rattle.std.proofs.Common.{rules}
use Rattle.statements.proofs.Rows.{unpacks-exactly, unpacks}
use Rattle.statements.proofs.unpack_row_exactly.Goals as goal

pub returns-clause-exactly : goal.returns-clause-exactly
returns-clause-exactly c =
    let a = c.args in
    rw (c.into.ensures, c.unpack_row.ensures.value) (unpacks-exactly a.packed.now a.width a.out.now (search rules))

pub returns-clause-accepted : goal.returns-clause-accepted
returns-clause-accepted c =
    let a = c.args in
    rw (c.into.ensures, c.unpack_row.ensures.value, c.unpack_row.ensures.out_after)
    (λ used records row. unpacks a.packed.now a.width a.out.now (search rules) used records row)
