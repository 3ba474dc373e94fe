-- `read_plate` meets its contract: `macpaint::read` accepts exactly the files that fit.
use Rattle.std.proofs.Common.{rules}
use Rattle.statements.proofs.Plates.{reads-plate, reads-exactly, blank-read-plate}
use Rattle.statements.proofs.read_plate.Goals as goal

pub returns-clause-exactly : goal.returns-clause-exactly
returns-clause-exactly c =
    rw (c.into.ensures, c.read.ensures.answer)
    (λ room. reads-exactly c.args.file.now c.args.plate.now room (search rules))

pub returns-clause-accepted : goal.returns-clause-accepted
returns-clause-accepted c =
    rw (c.into.ensures, c.read.ensures.answer, c.read.ensures.plate)
    (λ room fits. reads-plate c.args.file.now c.args.plate.now room fits)

pub returns-clause-blank : goal.returns-clause-blank
returns-clause-blank c =
    rw (c.into.ensures, c.read.ensures.answer)
    (λ room blank. blank-read-plate c.args.file.now c.args.plate.now room blank)
