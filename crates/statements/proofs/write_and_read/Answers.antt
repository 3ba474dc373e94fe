-- `write_and_read` meets its contract: the whole answer is that of `writer::write` and `reader::read`.
use Rattle.std.proofs.Common.{◌≡◌, Err, ap, refl, sym, ◌∙◌, rules}
use lib.Seq.{length-take-le}
use Rattle.picture.specs.Reading.{given_read_answer}
use Rattle.picture.specs.Writing.{given_write_answer}
use Rattle.statements.specs.declared.RoundTrip.{RoundTrip}
use Rattle.statements.specs.RoundTrips.{AnswersRoundTrip}
use Rattle.statements.proofs.RoundTrips.{written-numbered, reads-back, is-written}
use Rattle.statements.proofs.WholePicture.{whole}
use Rattle.statements.proofs.Writing.{written-within}
use Rattle.statements.proofs.write_and_read.Goals.{in-Ok, in-Err}
use Rattle.statements.proofs.write_and_read.Goals as goal

pub slice_bounds-read-end : goal.slice_bounds-read-end
slice_bounds-read-end c =
    rw c.write-written.ensures.output (written-within _ _ _ (sym c.write-written.ensures.answer ∙ c.in-Ok.is))

pub slice_bounds-read-end-in-Ok : goal.slice_bounds-read-end-in-Ok
slice_bounds-read-end-in-Ok c = sym (length-take-le _ _ (slice_bounds-read-end c))

pub returns : goal.returns
returns c =
    let a = c.args in
    let p = c.write-written in
    let picture = whole a.picture _ c.well_formed.1.0 in
    let b : RoundTrip = record { written = c.into.result; read = c.into-2.result } in
    let answers
    : AnswersRoundTrip a.form a.picture a.screen.now b a.out.now p.new.out a.area.now c.match-written.area =
    elim c.match-written.branch [
      | in-Ok w ↦
          let r = w.read-read.ensures in
          rw (c.into.ensures, c.into-2.ensures, w.area-is, w.written-is, w.read-is)
          (record {
            write = record { answer = ap given_write_answer (sym w.in-Ok.is ∙ p.ensures.answer); later = p.ensures.output };
            read =
                λ _.
                record {
                  answer = ap given_read_answer (rw w.kind_of.ensures at r.answer);
                  later = rw w.kind_of.ensures at r.area;
                };
            unread = λ h. absurd (h refl);
          })
      | in-Err w ↦
          let refused = sym w.in-Err.is ∙ p.ensures.answer in
          let same : c.match-written.read ≡ Err w.in-Err.why = search rules in
          rw (c.into.ensures, c.into-2.ensures, w.area-is, w.written-is, same)
          (record {
            write = record { answer = ap given_write_answer refused; later = p.ensures.output };
            read = λ ok. absurd (written-numbered a.form a.picture a.screen.now _ picture _ (sym refused) ok);
            unread = λ h. (refl, refl);
          })
    ] in
    record {
      back = λ room ok. reads-back _ _ _ _ _ _ _ _ answers picture (search rules) room ok;
      written = λ r stated w. is-written _ _ _ _ _ _ _ _ answers picture (search rules) r stated w;
      whole = answers;
    }
