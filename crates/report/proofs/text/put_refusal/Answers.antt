-- `report::text::put_refusal` meets its contract: the place's line is written after the number.
use Rattle.lists.proofs.Pieces.{written_then}
use Rattle.report.specs.Lines.{refusal_line}
use Rattle.report.proofs.text.put_refusal.Goals as goal

pub returns-clause-part : goal.returns-clause-part
unfolding refusal_line
returns-clause-part c = written_then c.put_item-end.ensures.part c.put_line.ensures.part
