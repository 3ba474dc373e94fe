-- `read_img` meets its contract: `gem_img::read` accepts exactly the files that fit and refuses exactly as the relation
-- says.
use Rattle.std.proofs.Common.{rules}
use Rattle.statements.proofs.Scans.{reads-exactly, reads-image, reads-no-image, reads-why, accepted-unlisted}
use Rattle.statements.proofs.Scans.{white-line-read}
use Rattle.statements.proofs.read_img.Goals as goal

pub returns-clause-exactly : goal.returns-clause-exactly
returns-clause-exactly c =
    rw (c.into.ensures, c.read.ensures.answer)
    (λ room. reads-exactly c.args.file.now c.args.area.now (search rules) room)

pub returns-clause-accepted : goal.returns-clause-accepted
returns-clause-accepted c =
    rw (c.into.ensures, c.read.ensures.answer, c.read.ensures.area)
    (λ room image fits. reads-image c.args.file.now c.args.area.now room image fits)

pub returns-clause-listed : goal.returns-clause-listed
returns-clause-listed c =
    rw (c.into.ensures, c.read.ensures.answer, c.read.ensures.area)
    (λ why r. reads-no-image c.args.file.now c.args.area.now why r)

pub returns-clause-refused : goal.returns-clause-refused
returns-clause-refused c =
    rw (c.into.ensures, c.read.ensures.answer, c.read.ensures.area)
    (λ h. reads-why c.args.file.now c.args.area.now (search rules) h)

pub returns-clause-unlisted : goal.returns-clause-unlisted
returns-clause-unlisted c =
    rw (c.into.ensures, c.read.ensures.answer)
    (accepted-unlisted c.args.file.now c.args.area.now (search rules))

pub returns-clause-blank : goal.returns-clause-blank
returns-clause-blank c =
    rw (c.into.ensures, c.read.ensures.answer)
    (λ room blank. white-line-read c.args.file.now c.args.area.now room blank)
