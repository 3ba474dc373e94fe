-- `convert_to_elite` meets its contract: `conversion::convert` accepts exactly the plain files with clear bits.
use Rattle.std.proofs.Common.{rules}
use Rattle.statements.proofs.Conversions.{elite-exactly, elite-written, blank-to-elite}
use Rattle.statements.proofs.convert_to_elite.Goals as goal

pub returns-clause-exactly : goal.returns-clause-exactly
returns-clause-exactly c =
    rw (c.into.ensures, c.convert.ensures.answer)
    (λ room. elite-exactly c.args.file.now c.args.out.now room (search rules))

pub returns-clause-accepted : goal.returns-clause-accepted
returns-clause-accepted c =
    rw (c.into.ensures, c.convert.ensures.answer, c.convert.ensures.output)
    (λ room fits. elite-written c.args.file.now c.args.out.now room (search rules) fits)

pub returns-clause-blank : goal.returns-clause-blank
returns-clause-blank c =
    rw (c.into.ensures, c.convert.ensures.answer)
    (λ room blank. blank-to-elite c.args.file.now c.args.out.now room (search rules) blank)
