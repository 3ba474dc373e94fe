-- `report::put_summary` meets its contract: the reading is accepted or refused.
use Rattle.std.proofs.Common.{sym, ◌∙◌, rules}
use Rattle.lists.proofs.Pieces.{written_as}
use Rattle.resolution.specs.Shapes.{screen_bytes}
use Rattle.reader.specs.Reading.{kind_degas, read_file}
use Rattle.report.specs.Summary.{summary}
use Rattle.report.proofs.Summary.{read_whole, text-refused, text-accepted}
use Rattle.report.proofs.put_summary.Goals as goal

pub returns-in-Ok-clause-part : goal.returns-in-Ok-clause-part
unfolding summary
returns-in-Ok-clause-part c =
    let file = c.args.file.now in
    written_as (summary file)
    (text-accepted (read_file kind_degas file screen_bytes) (read_whole file) c.in-Ok.read _ _ (search rules)
    (sym c.read.ensures.answer ∙ c.in-Ok.is) c.read.ensures.area)
    c.put_reading.ensures.part

pub returns-in-Err-clause-part : goal.returns-in-Err-clause-part
unfolding summary
returns-in-Err-clause-part c =
    let file = c.args.file.now in
    written_as (summary file)
    (text-refused (read_file kind_degas file screen_bytes) c.in-Err.refusal (sym c.read.ensures.answer ∙ c.in-Err.is))
    c.put_refusal.ensures.part
