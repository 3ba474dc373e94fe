-- One row unpacked from the front of an input (document 01, "Packed rows", "Order of judging": row unpack).
use Rattle.std.specs.Prelude.{ℕ, zero, suc, ◌+◌, ◌-◌, cond, List, [], ◌++◌, length, drop, ltb, eqb, Err}
use Rattle.outcome.specs.declared.Refusal.{Refusal}
use Rattle.outcome.specs.Outcome.{Outcome, row_refusal, refuse_if, placed}
use Rattle.outcome.specs.Refusal.{area_too_short, input_ends, out_of_range}
use Rattle.packbits.specs.declared.Record.{Record}
use Rattle.packbits.specs.Records.{packed_len, row_len, row_bytes, fault, record_at}
use Rattle.packbits.specs.Row.{Row, done, width_out_of_range}

-- How far unpacking a row came.
pub record Progress : Type 0 where
  -- packed bytes used, which is the place of the record at fault
  pub bytes : ℕ
  -- whole records, those that do nothing included
  pub records : ℕ
  -- the bytes of the row that they make
  pub made : List ℕ
  -- the fault of the record at which it stopped; 0: the row is full
  pub fault : ℕ

-- stopped before the first record, by this fault or, with 0, by a full row
abbrev pub stopped : ℕ → Progress
stopped number = record { bytes = 0; records = 0; made = []; fault = number }

-- a whole record of `bytes` packed bytes, which makes these bytes of the row, before further progress
abbrev pub after : ℕ → List ℕ → Progress → Progress
after bytes made p =
    record { bytes = bytes + p.bytes; records = suc p.records; made = made ++ p.made; fault = p.fault }

-- A whole record, and then what `next` makes of the input and the room that it leaves; a record at fault stops.
unfoldable pub step : Record → List ℕ → ℕ → (List ℕ → ℕ → Progress) → Progress
step r input room next =
    cond (eqb (fault r) 0) (after (packed_len r) (row_bytes r input) (next (drop (packed_len r) input) (room - row_len r)))
    (stopped (fault r))

-- A row is finished the moment it is full. Each record takes a byte at least, so one more than the input's length
-- bounds the recursion.
unfoldable pub progress_within : ℕ → List ℕ → ℕ → Progress
progress_within zero input room = stopped input_ends
progress_within (suc bound) input zero = stopped 0
progress_within (suc bound) input (suc room) =
    step (record_at input (suc room)) input (suc room) (λ i r. progress_within bound i r)

-- how far unpacking a row of `width` bytes from the front of the input comes
unfoldable pub progress : List ℕ → ℕ → Progress
progress input width = progress_within (suc (length input)) input width

-- why a row is refused at a fault: the place is the number of packed bytes before it, and the row has the bytes that
-- its whole records make
abbrev pub row_fault : Progress → Refusal
row_fault p = row_refusal p.fault p.bytes 0 (length p.made)

-- a full row is accepted; a fault is refused
unfoldable pub outcome_of : Progress → Outcome Row
outcome_of p = cond (eqb p.fault 0) (done p.bytes p.records p.made) (Err (row_fault p))

-- a row of `width` bytes, unpacked from the front of the input; places count from the input's start
abbrev pub unpack : List ℕ → ℕ → Outcome Row
unpack input width = outcome_of (progress input width)

-- a row unpacked from an offset of a file
abbrev pub unpack_at : List ℕ → ℕ → ℕ → Outcome Row
unpack_at file at width = placed at (unpack (drop at file) width)

-- Row unpack: to a named width, into an output of `room` bytes. Input left after the full row is allowed.
unfoldable pub unpack_row : List ℕ → ℕ → ℕ → Outcome Row
unpack_row packed width room =
    refuse_if (width_out_of_range width) out_of_range
    (refuse_if (ltb room width) area_too_short
    (unpack packed width))
