-- `read_beside_set` meets its contract: the reading after the call is the one before.
use Rattle.std.proofs.Common.{sym, ◌∙◌}
use Rattle.isolation.proofs.OneCall.{whole, beside-set}
use Rattle.isolation.proofs.read_beside_set.Goals as goal

pub returns-clause-unchanged : goal.returns-clause-unchanged
returns-clause-unchanged c ne =
    let a = c.args in
    let is = whole a.legend _ c.well_formed.1.1.0 in
    let read = c.read_around.ensures in
    read.2
    ∙ rw (c.answer.ensures, c.set_entry-set.ensures)
    (beside-set a.legend is a.screen.now a.question a.other ne a.register a.class a.confidence)
    ∙ sym read.0
