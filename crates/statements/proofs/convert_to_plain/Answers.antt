-- `convert_to_plain` meets its contract: `conversion::convert` accepts exactly the Elite files with a zero tail.
use Rattle.std.proofs.Common.{rules}
use Rattle.statements.proofs.Conversions.{plain-exactly, plain-written, blank-to-plain}
use Rattle.statements.proofs.convert_to_plain.Goals as goal

pub returns-clause-exactly : goal.returns-clause-exactly
returns-clause-exactly c =
    rw (c.into.ensures, c.convert.ensures.answer)
    (λ room. plain-exactly c.args.file.now c.args.out.now room (search rules))

pub returns-clause-accepted : goal.returns-clause-accepted
returns-clause-accepted c =
    rw (c.into.ensures, c.convert.ensures.answer, c.convert.ensures.output)
    (λ room fits. plain-written c.args.file.now c.args.out.now room (search rules) fits)

pub returns-clause-blank : goal.returns-clause-blank
returns-clause-blank c =
    rw (c.into.ensures, c.convert.ensures.answer)
    (λ room blank. blank-to-plain c.args.file.now c.args.out.now room (search rules) blank)
