-- `animation_by_both` meets its contract: each list's answer, and what is proved of both.
use Rattle.std.proofs.Common.{rules}
use Rattle.statements.proofs.Animations.{accepts-both, shows-both, refuses-as-read}
use Rattle.statements.proofs.animation_by_both.Goals as goal

pub returns-clause-exactly : goal.returns-clause-exactly
returns-clause-exactly c =
    rw (c.into.ensures, c.animation.ensures, c.into-2.ensures, c.animation-2.ensures) (accepts-both c.args.file.now)

pub returns-clause-accepted : goal.returns-clause-accepted
returns-clause-accepted c =
    rw (c.into.ensures, c.animation.ensures, c.into-2.ensures, c.animation-2.ensures)
    (shows-both c.args.file.now (search rules))

pub returns-clause-as_read : goal.returns-clause-as_read
returns-clause-as_read c =
    rw (c.into.ensures, c.animation.ensures, c.into-2.ensures, c.animation-2.ensures) (refuses-as-read c.args.file.now)
