-- The record reader that stays open on the caller's file bytes (document 02, ticket 13).
use Rattle.std.specs.Prelude.{ℕ, zero, suc}
use Rattle.degas_record_reader.specs.declared.RecordReader.{RecordReader}
use Rattle.degas_records.specs.declared.Stepped.{Stepped}
use Rattle.degas_records.specs.Steps.{stepped}

-- a reader's next step
abbrev pub step_of : RecordReader → Stepped
step_of r = stepped r.file.now r.cursor

-- the reader after that step, on the same bytes
abbrev pub after_step : RecordReader → RecordReader
after_step r = record { file = r.file; cursor = (step_of r).next }

-- the reader after k steps
unfoldable pub after_steps : ℕ → RecordReader → RecordReader
after_steps zero r = r
after_steps (suc k) r = after_steps k (after_step r)
