-- A line of a GEM IMG file, unpacked record by record (document 02, ticket 11).
use Rattle.std.specs.Prelude.{ℕ, ◌+◌, ◌-◌, cond, List, length, eqb, Ok, Err}
use Rattle.outcome.specs.declared.Refusal.{Refusal}
use Rattle.outcome.specs.Outcome.{Outcome, refusal}
use Rattle.outcome.specs.Refusal.{wrong_scanline_run}
use Rattle.filling.specs.Filling.{Step, Filling, fill}
use Rattle.gem_img_records.specs.Records.{record_at, packed_len, line_len, line_bytes, fault_at}

-- the refusal of a record at an offset: its place is that offset; a wrong scanline run has none
abbrev pub refusal_at : ℕ → ℕ → Refusal
refusal_at number at = refusal number (cond (eqb number wrong_scanline_run) 0 at)

-- refused with this number at an offset, or with 0 judged further
abbrev pub unless_fault : {A : Type 0} → ℕ → ℕ → Outcome A → Outcome A
unless_fault number at further = cond (eqb number 0) further (Err (refusal_at number at))

module _ (pattern : ℕ) (file : List ℕ) where
  -- the record at an offset as a step, with `room` bytes of the line to make
  unfoldable pub record_step : ℕ → ℕ → Outcome Step
  record_step at room =
      unless_fault (fault_at pattern file at room) at
      (Ok (record {
        next = at + packed_len pattern (record_at file at);
        filled = line_len pattern (record_at file at);
        made = line_bytes pattern (record_at file at) file at;
      }))

  -- each record takes a byte of the file at least
  abbrev pub bytes_ahead : ℕ → ℕ → ℕ
  bytes_ahead at room = length file - at

  -- the records from an offset on, until a line of `room` bytes is full
  unfoldable pub fill_line : ℕ → ℕ → Filling
  fill_line at room = fill record_step bytes_ahead at room
