-- A step over the records of a packed DEGAS file (document 02, ticket 13).
use Rattle.std.specs.Prelude.{ℕ, zero, suc, ◌+◌, Bool, cond, ◌||◌, List, length, ltb, leb, eqb}
use Rattle.std.specs.Prelude.{Ok, Err, None, Some}
use Rattle.outcome.specs.Outcome.{Outcome, refusal, row_refusal}
use Rattle.outcome.specs.Refusal.{wrong_tail, out_of_range}
use Rattle.packbits.specs.declared.Record.{Record}
use Rattle.packbits.specs.Records.{fault}
use Rattle.resolution.specs.declared.Resolution.{Resolution}
use Rattle.resolution.specs.Shapes.{row_bytes_of, plane_rows_of}
use Rattle.degas.specs.Layout.{header_length, tail_length}
use Rattle.degas_records.specs.declared.RecordCursor.{RecordCursor}
use Rattle.degas_records.specs.declared.Stepped.{Stepped}
use Rattle.degas_records.specs.Opening.{packed_opening}
use Rattle.degas_records.specs.Listing.{Found, record_under, listed_as, moved_over}

-- the cursor stays, so that each later step gives the same
abbrev pub stays : RecordCursor → Found → Stepped
stays c found = record { found = found; next = c }

-- a record at the cursor: listed, and the cursor goes on; or at fault, with the plane row and its bytes before it
abbrev pub record_step : ℕ → RecordCursor → Record → Stepped
record_step width c r =
    cond (eqb (fault r) 0) (record { found = Ok (Some (listed_as c r)); next = moved_over width c r })
    (stays c (Err (row_refusal (fault r) c.offset c.plane_row c.good_bytes)))

-- after the last plane row exactly 32 bytes: done, or refused where the body ends
unfoldable pub end_at : ℕ → ℕ → Found
end_at size at = cond (eqb size (at + tail_length)) (Ok None) (Err (refusal wrong_tail at))

-- a cursor that cannot stand in a file of so many bytes and rows of a width: before the body or behind the file, past
-- the place after the last plane row, or in a row that is full
unfoldable pub outside : ℕ → ℕ → ℕ → RecordCursor → Bool
outside size rows width c =
    ltb c.offset header_length || ltb size c.offset || ltb rows c.plane_row || leb width c.good_bytes

-- a step over so many rows of a width
unfoldable pub body_step : List ℕ → ℕ → ℕ → RecordCursor → Stepped
body_step file rows width c =
    cond (outside (length file) rows width c) (stays c (Err (refusal out_of_range 0)))
    (cond (ltb c.plane_row rows) (record_step width c (record_under file width c))
    (stays c (end_at (length file) c.offset)))

-- a step over a file that is opened, or whose opening is refused
abbrev pub opened_step : List ℕ → RecordCursor → Outcome Resolution → Stepped
opened_step file c (Ok r) = body_step file (plane_rows_of r) (row_bytes_of r) c
opened_step file c (Err why) = stays c (Err why)

-- A step from a cursor: what it gives, and where the next one stands. The file's bytes are the same at each step, so
-- that a refused opening is the answer of each.
unfoldable pub stepped : List ℕ → RecordCursor → Stepped
stepped file c = opened_step file c (packed_opening file)

-- what step k from a cursor gives, from 0
unfoldable pub steps : List ℕ → RecordCursor → ℕ → Found
steps file c zero = (stepped file c).found
steps file c (suc k) = steps file (stepped file c).next k
