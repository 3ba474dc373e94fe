-- `write_packed` meets its contract: `writer::write` refuses exactly when it must.
use Rattle.std.proofs.Common.{rules}
use Rattle.degas.proofs.LeastBody.{least-bound}
use Rattle.statements.proofs.WholePicture.{whole}
use Rattle.statements.proofs.Writing.{refuses-exactly, writes-least, attained, both-occur}
use Rattle.statements.proofs.write_packed.Goals as goal

pub returns-clause-exactly : goal.returns-clause-exactly
returns-clause-exactly c =
    let a = c.args in
    rw (c.into.ensures, c.write.ensures.answer, c.number.ensures)
    (λ r stated.
    refuses-exactly r a.picture a.screen.now a.out.now stated (whole a.picture _ c.well_formed.0) (search rules))

pub returns-clause-otherwise : goal.returns-clause-otherwise
returns-clause-otherwise c =
    let a = c.args in
    rw (c.into.ensures, c.write.ensures.answer, c.write.ensures.output, c.number.ensures)
    (λ r stated some.
    writes-least r a.picture a.screen.now a.out.now stated (whole a.picture _ c.well_formed.0) (search rules) some)

pub returns-clause-bound : goal.returns-clause-bound
returns-clause-bound c = (λ r body n s. least-bound r c.args.screen.now s, λ r. attained r)

pub returns-clause-occur : goal.returns-clause-occur
returns-clause-occur c =
    let a = c.args in
    rw (c.into.ensures, c.write.ensures.answer, c.number.ensures)
    (λ r stated.
    both-occur r a.picture a.screen.now a.out.now stated (whole a.picture _ c.well_formed.0) (search rules))
