-- `report::text::put_item` meets its contract: the number's digits are written after the label.
use Rattle.std.proofs.Common.{◌∙◌}
use Rattle.lists.proofs.Pieces.{written-copied, written_then}
use Rattle.report.specs.Lines.{item}
use Rattle.report.proofs.text.put_item.Goals as goal

pub returns-clause-part : goal.returns-clause-part
unfolding item
returns-clause-part c =
    let digits = c.as_bytes.ensures.value ∙ c.format.ensures.text in
    written_then (written-copied c.args.label.now _ _ _ c.copy-end.ensures.count c.copy-end.ensures.content)
    (rw digits at (written-copied _ _ _ _ c.copy.ensures.count c.copy.ensures.content))
