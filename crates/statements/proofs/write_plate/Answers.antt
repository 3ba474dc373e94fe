-- `write_plate` meets its contract: `macpaint::write` refuses exactly when it must.
use Rattle.std.proofs.Common.{rules}
use Rattle.statements.proofs.Plates.{plate-refuses-exactly, writes-least-plate, plate-never-above}
use Rattle.statements.proofs.Plates.{plate-attained, plate-both-occur}
use Rattle.statements.proofs.write_plate.Goals as goal

pub returns-clause-exactly : goal.returns-clause-exactly
returns-clause-exactly c =
    rw (c.into.ensures, c.write.ensures.answer)
    (λ stated. plate-refuses-exactly c.args.plate.now c.args.out.now stated (search rules))

pub returns-clause-otherwise : goal.returns-clause-otherwise
returns-clause-otherwise c =
    rw (c.into.ensures, c.write.ensures.answer, c.write.ensures.output)
    (λ stated some. writes-least-plate c.args.plate.now c.args.out.now stated (search rules) some)

pub returns-clause-bound : goal.returns-clause-bound
returns-clause-bound c = (λ room. plate-never-above c.args.plate.now room, plate-attained)

pub returns-clause-occur : goal.returns-clause-occur
returns-clause-occur c =
    rw (c.into.ensures, c.write.ensures.answer)
    (λ stated. plate-both-occur c.args.plate.now c.args.out.now stated (search rules))
