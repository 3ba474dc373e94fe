-- `convert_and_back` meets its contract: the answers are those of `conversion::convert`, both ways.
use Rattle.std.proofs.Common.{ap, refl, sym, ◌∙◌, rules}
use lib.Seq.{length-take-le}
use Rattle.outcome.specs.declared.Refusal.{Refusal}
use Rattle.picture.specs.Writing.{given_write_answer}
use Rattle.statements.specs.declared.ConversionRoundTrip.{ConversionRoundTrip}
use Rattle.statements.specs.Conversions.{AnswersRestoring}
use Rattle.statements.proofs.Conversions.{elite-numbered, first-accepted, restores}
use Rattle.statements.proofs.Writing.{written-within}
use Rattle.statements.proofs.convert_and_back.Goals.{in-Ok, in-Err}
use Rattle.statements.proofs.convert_and_back.Goals as goal

pub slice_bounds-convert-end : goal.slice_bounds-convert-end
slice_bounds-convert-end c =
    rw c.convert-to_elite.ensures.output (written-within _ _ _ (sym c.convert-to_elite.ensures.answer ∙ c.in-Ok.is))

pub slice_bounds-convert-end-in-Ok : goal.slice_bounds-convert-end-in-Ok
slice_bounds-convert-end-in-Ok c = sym (length-take-le _ _ (slice_bounds-convert-end c))

pub returns : goal.returns
returns c =
    let a = c.args in
    let p = c.convert-to_elite in
    let b : ConversionRoundTrip = record { to_elite = c.into.result; to_plain = c.into-2.result } in
    let answers : AnswersRestoring a.file.now b a.out.now p.new.out a.into.now c.match-to_elite.into =
    elim c.match-to_elite.branch [
      | in-Ok w ↦
          let r = w.convert-to_plain.ensures in
          rw (c.into.ensures, c.into-2.ensures, w.into-is, w.to_elite-is, w.to_plain-is)
          (record {
            to-elite = record { answer = ap given_write_answer (sym w.in-Ok.is ∙ p.ensures.answer); later = p.ensures.output };
            to-plain = λ _. record { answer = ap given_write_answer r.answer; later = r.output };
            unconverted = λ h. absurd (h refl);
          })
      | in-Err w ↦
          let refused = sym w.in-Err.is ∙ p.ensures.answer in
          rw (c.into.ensures, c.into-2.ensures, w.into-is, w.to_elite-is, w.to_plain-is)
          (record {
            to-elite = record { answer = ap given_write_answer refused; later = p.ensures.output };
            to-plain = λ ok. absurd (elite-numbered a.file.now _ (search rules) _ (sym refused) ok);
            unconverted = λ h. (refl, refl);
          })
    ] in
    record {
      restored =
          λ room room-into f.
          let first = answers.to-elite in
          let ok = ap (λ (why : Refusal). why.number) (first-accepted a.file.now a.out.now room (search rules) f b _ first) in
          restores a.file.now a.out.now room (search rules) f b _ first a.into.now _ room-into (answers.to-plain ok);
      whole = answers;
    }
