-- `report::text::put_line` meets its contract: a newline is written after the item.
use Rattle.lists.proofs.Pieces.{written-copied, written_then}
use Rattle.report.specs.Labels.{newline}
use Rattle.report.specs.Lines.{line}
use Rattle.report.proofs.text.put_line.Goals as goal

pub returns-clause-part : goal.returns-clause-part
unfolding line
returns-clause-part c =
    written_then c.put_item-end.ensures.part (written-copied newline _ _ _ c.copy.ensures.count c.copy.ensures.content)
