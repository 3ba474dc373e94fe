-- `nth_step` meets its contract: a step gives what the steps from the next cursor on leave.
use Rattle.std.proofs.Common.{ap, sym, ◌∙◌, ◌+◌, ◌-◌, arith}
use native.Mathlib.Nat.{sub-zero}
use Rattle.degas_records.specs.declared.CursorAnswer.{CursorAnswer}
use Rattle.degas_records.specs.declared.Stepped.{Stepped}
use Rattle.degas_records.specs.Answers.{given_cursor_answer}
use Rattle.degas_records.specs.Steps.{steps}
use Rattle.degas_records.proofs.Reading.{steps-listed}
use Rattle.degas_records.proofs.Steps.{steps-turn, steps-last}
use Rattle.statements.proofs.Records.{as_read}
use Rattle.statements.proofs.nth_step.Goals as goal

pub loop-init : goal.loop-init
loop-init c =
    let a = c.args in
    let opened = c.from.ensures ∙ ap given_cursor_answer c.open_records.ensures in
    rw (sub-zero a.k) (ap (λ (o : CursorAnswer). steps a.file.now o.cursor a.k) opened ∙ steps-listed a.file.now a.k)

pub loop-preserved : goal.loop-preserved
loop-preserved c =
    let a = c.args in
    ap (λ (s : Stepped). steps a.file.now s.next (a.k - (c.loop.counter + 1))) c.next_record.ensures
    ∙ sym (steps-turn a.file.now c.loop.cursor a.k c.loop.counter (omega arith))
    ∙ c.loop.invariant

pub returns : goal.returns
returns c =
    let a = c.args in
    record {
      step =
          ap (λ (s : Stepped). s.found) c.next_record-2.ensures
          ∙ sym (steps-last a.file.now c.loop.cursor a.k c.loop.counter c.loop-test.false)
          ∙ c.loop.invariant;
      records = as_read a.file.now;
    }
