-- A record reader gives the records of its file, in order, and then the end, for ever.
use mathlib.Core.Path.{◌≡◌, refl, ap, ◌∙◌}
use Prim.Native.Nat.{ℕ, zero, suc}
use Rattle.degas_records.specs.declared.RecordCursor.{RecordCursor}
use Rattle.degas_record_reader.specs.declared.RecordReader.{RecordReader}
use Rattle.degas_records.specs.Opening.{packed_opening}
use Rattle.degas_records.specs.Listing.{listed}
use Rattle.degas_records.specs.Steps.{steps}
use Rattle.degas_records.specs.Answers.{cursor_answer}
use Rattle.degas_record_reader.specs.Reader.{step_of, after_step, after_steps}
use Rattle.degas_records.proofs.Reading.{steps-listed}

-- step k of a reader is step k from its cursor
reader-steps : (k : ℕ) (r : RecordReader) → (step_of (after_steps k r)).found ≡ steps r.file.now r.cursor k
unfolding after_steps steps
reader-steps zero r = refl
reader-steps (suc k) r = reader-steps k (after_step r)

-- of a reader that stands where `open_reader` puts it
pub reader-listed : (r : RecordReader) → r.cursor ≡ (cursor_answer (packed_opening r.file.now)).cursor → (k : ℕ)
    → (step_of (after_steps k r)).found ≡ listed r.file.now k
reader-listed r is k =
    reader-steps k r
    ∙ ap (λ (c : RecordCursor). steps r.file.now c k) is
    ∙ steps-listed r.file.now k
