use Rattle.std.proofs.Common.{ap, arith}
use Rattle.tiny_runs.specs.Expansion.{Expansion}
use Rattle.tiny.proofs.Reading.{sections-lent, controls-used}
use Rattle.tiny.proofs.expand_sections.Goals as goal

pub returns-clause-used : goal.returns-clause-used
returns-clause-used c =
    let file = c.args.file.now in
    let controls = c.control_count-controls.ensures in
    let start = c.control_start-start.ensures in
    let lent = sections-lent file c.requires.file_len _ _ _ start controls.result_value c.requires.made_len in
    omega (
      arith,
      c.expand.ensures.answer.controls,
      ap (λ (p : Expansion). p.controls) lent,
      controls-used file c.requires.file_len,
      controls.result_value,
      controls.result_bound,
    )
