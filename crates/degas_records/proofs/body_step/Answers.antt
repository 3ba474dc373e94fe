-- `degas_records::body_step` meets its contract: a cursor in range stands in a row that is not full.
use Rattle.std.proofs.Common.{◌∙◌, sym, length}
use Rattle.degas_records.proofs.Steps.{inside}
use Rattle.degas_records.proofs.body_step.Goals as goal

pub record_step-requires-clause-good_bytes_bound : goal.record_step-requires-clause-good_bytes_bound
record_step-requires-clause-good_bytes_bound c =
    let a = c.args in
    (inside (length a.file.now) a.rows a.width a.cursor (sym c.is_outside.ensures ∙ c.if-is_outside.false)).1
