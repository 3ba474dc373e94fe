-- `write_and_read_plate` meets its contract: the answers are those of `macpaint::write` and `macpaint::read`.
use Rattle.std.proofs.Common.{ap, refl, sym, ◌∙◌, rules}
use lib.Seq.{length-take-le}
use Rattle.bodies.specs.Body.{given_body_answer}
use Rattle.picture.specs.Writing.{given_write_answer}
use Rattle.statements.specs.declared.PlateRoundTrip.{PlateRoundTrip}
use Rattle.statements.specs.Plates.{AnswersPlateRoundTrip}
use Rattle.statements.proofs.Plates.{plate-is-written, plate-numbered, plate-read-back}
use Rattle.statements.proofs.Writing.{written-within}
use Rattle.statements.proofs.write_and_read_plate.Goals.{in-Ok, in-Err}
use Rattle.statements.proofs.write_and_read_plate.Goals as goal

pub slice_bounds-read-end : goal.slice_bounds-read-end
slice_bounds-read-end c =
    rw c.write-written.ensures.output (written-within _ _ _ (sym c.write-written.ensures.answer ∙ c.in-Ok.is))

pub slice_bounds-read-end-in-Ok : goal.slice_bounds-read-end-in-Ok
slice_bounds-read-end-in-Ok c = sym (length-take-le _ _ (slice_bounds-read-end c))

pub returns : goal.returns
returns c =
    let a = c.args in
    let p = c.write-written in
    let b : PlateRoundTrip = record { written = c.into.result; read = c.into-2.result } in
    let answers : AnswersPlateRoundTrip a.plate.now b a.out.now p.new.out a.area.now c.match-written.area =
    elim c.match-written.branch [
      | in-Ok w ↦
          let r = w.read-read.ensures in
          rw (c.into.ensures, c.into-2.ensures, w.area-is, w.written-is, w.read-is)
          (record {
            write = record { answer = ap given_write_answer (sym w.in-Ok.is ∙ p.ensures.answer); later = p.ensures.output };
            read = λ _. record { answer = ap given_body_answer r.answer; later = r.plate };
            unread = λ h. absurd (h refl);
          })
      | in-Err w ↦
          let refused = sym w.in-Err.is ∙ p.ensures.answer in
          rw (c.into.ensures, c.into-2.ensures, w.area-is, w.written-is, w.read-is)
          (record {
            write = record { answer = ap given_write_answer refused; later = p.ensures.output };
            read = λ ok. absurd (plate-numbered a.plate.now _ _ (sym refused) ok);
            unread = λ h. (refl, refl);
          })
    ] in
    record {
      back =
          λ room ok.
          plate-read-back a.plate.now a.out.now a.area.now room b p.new.out c.match-written.area answers.write.answer
          answers.write.later
          (answers.read ok)
          ok;
      written =
          λ stated some.
          rw answers.write.answer (plate-is-written a.plate.now a.out.now stated (search rules) some);
      whole = answers;
    }
