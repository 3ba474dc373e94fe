-- `report::text::put_tally` meets its contract: label, counts and a newline, one after the other.
use Rattle.lists.proofs.Pieces.{written-copied, written_then}
use Rattle.report.specs.Labels.{tally_label, newline}
use Rattle.report.specs.Lines.{tally_line}
use Rattle.report.proofs.text.put_tally.Goals as goal

pub returns-clause-part : goal.returns-clause-part
unfolding tally_line
returns-clause-part c =
    let label = written-copied tally_label c.args.out.now _ _ c.copy-end.ensures.count c.copy-end.ensures.content in
    let counts = written_then label c.put_counts-end.ensures.part in
    written_then counts (written-copied newline _ _ _ c.copy.ensures.count c.copy.ensures.content)
