-- The data map of an SPC file, unpacked record by record: records cross scan lines and planes freely (document 02,
-- ticket 5). The map is the file up to the map's end, so that offsets count from the file's start.
use Rattle.std.specs.Prelude.{ℕ, ◌+◌, cond, List, eqb, Ok, Err}
use Rattle.outcome.specs.Outcome.{Outcome, refusal}
use Rattle.filling.specs.Filling.{Step, Filling, fill}
use Rattle.spectrum_data_map.specs.Records.{makes, takes, control, record_bytes, fault_at}

module _ (map : List ℕ) where
  -- the record at an offset as a step, with `room` bytes to make
  unfoldable pub record_step : ℕ → ℕ → Outcome Step
  record_step at room =
      cond (eqb (fault_at map at room) 0)
      (Ok (record {
        next = at + takes (control map at);
        filled = makes (control map at);
        made = record_bytes map at;
      }))
      (Err (refusal (fault_at map at room) at))

  -- each record makes a byte at least
  abbrev pub bytes_left : ℕ → ℕ → ℕ
  bytes_left at room = room

  -- the records from an offset on, until `room` bytes are made
  unfoldable pub fill_map : ℕ → ℕ → Filling
  fill_map at room = fill record_step bytes_left at room
