-- `read_file` meets its contract: `reader::read` accepts exactly the files that fit.
use Rattle.std.proofs.Common.{length, rules}
use Rattle.demands.proofs.Acceptance.{acceptance}
use Rattle.statements.proofs.Reading.{reads, blank-read}
use Rattle.statements.proofs.read_file.Goals as goal

pub returns-clause-exactly : goal.returns-clause-exactly
returns-clause-exactly c =
    let a = c.args in
    rw (c.into.ensures, c.read.ensures.answer)
    (λ room. acceptance a.kind a.file.now (length a.area.now) room (search rules))

pub returns-clause-accepted : goal.returns-clause-accepted
returns-clause-accepted c =
    let a = c.args in
    rw (c.into.ensures, c.read.ensures.answer, c.read.ensures.area)
    (λ room fits. reads a.kind a.file.now a.area.now room fits)

pub returns-clause-blank : goal.returns-clause-blank
returns-clause-blank c =
    let a = c.args in
    rw (c.into.ensures, c.read.ensures.answer) (λ room blank. blank-read a.kind a.file.now a.area.now room blank)
