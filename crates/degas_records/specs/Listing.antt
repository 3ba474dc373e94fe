-- The records of a packed body as a list, in file order (document 02, ticket 13; document 01, "Packed rows").
use Rattle.std.specs.Prelude.{ℕ, zero, suc, ◌+◌, ◌-◌, cond, not, List, [], ◌∷◌, length, drop, ltb, eqb}
use Rattle.std.specs.Prelude.{Ok, Err, Option, None, Some}
use Rattle.outcome.specs.Outcome.{Outcome, refuse_if, bind}
use Rattle.outcome.specs.Refusal.{unknown_kind}
use Rattle.packbits.specs.declared.Record.{Record}
use Rattle.packbits.specs.declared.Record.TheVariants as R
use Rattle.packbits.specs.Records.{packed_len, row_len, fault, record_at}
use Rattle.resolution.specs.declared.Resolution.{Resolution}
use Rattle.resolution.specs.Shapes.{row_bytes_of, plane_rows_of}
use Rattle.picture.specs.Reading.{Reading}
use Rattle.degas.specs.Layout.{header_length}
use Rattle.degas.specs.Opening.{opening}
use Rattle.degas.specs.Reading.{read_opened}
use Rattle.degas_records.specs.declared.ListedRecord.{ListedRecord}
use Rattle.degas_records.specs.declared.RecordCursor.{RecordCursor}
use Rattle.degas_records.specs.declared.RecordKind.{RecordKind}
use Rattle.degas_records.specs.declared.RecordKind.TheVariants.{Literal, Repeat, Nothing}
use Rattle.degas_records.specs.Opening.{packed_opening}

-- ---- one record

-- the kind of a whole record; one at fault is not listed
abbrev pub listed_kind : Record → RecordKind
listed_kind (R.Literal n) = Literal
listed_kind (R.Repeat n) = Repeat
listed_kind R.Nothing = Nothing
listed_kind R.Truncated = Nothing
listed_kind R.Crossing = Nothing

-- a cursor at an offset of the file, in a plane row that has so many bytes
abbrev pub cursor_at : ℕ → ℕ → ℕ → RecordCursor
cursor_at offset plane_row good_bytes = record { offset = offset; plane_row = plane_row; good_bytes = good_bytes }

-- the record at a cursor, in rows of a width
abbrev pub record_under : List ℕ → ℕ → RecordCursor → Record
record_under file width c = record_at (drop c.offset file) (width - c.good_bytes)

-- that record as it is listed, its length in the bytes of the row that it makes
abbrev pub listed_as : RecordCursor → Record → ListedRecord
listed_as c r = record { offset = c.offset; plane_row = c.plane_row; kind = listed_kind r; length = row_len r }

-- the cursor after a whole record: a row is finished the moment it is full
unfoldable pub moved_over : ℕ → RecordCursor → Record → RecordCursor
moved_over width c r =
    cond (ltb (c.good_bytes + row_len r) width)
    (cursor_at (c.offset + packed_len r) c.plane_row (c.good_bytes + row_len r))
    (cursor_at (c.offset + packed_len r) (c.plane_row + 1) 0)

-- ---- the records of rows

-- The whole records of rows of a width, from a cursor on, up to the end of the last row or to a record at fault. Each
-- takes a byte at least, so one more than the bytes from the cursor on bounds the recursion.
unfoldable pub records_within : ℕ → List ℕ → ℕ → ℕ → RecordCursor → List ListedRecord
records_within zero file rows width c = []
records_within (suc bound) file rows width c =
    cond (ltb c.plane_row rows)
    (cond (eqb (fault (record_under file width c)) 0)
    (listed_as c (record_under file width c)
    ∷ records_within bound file rows width (moved_over width c (record_under file width c)))
    [])
    []

-- the same with the bound
unfoldable pub records_from : List ℕ → ℕ → ℕ → RecordCursor → List ListedRecord
records_from file rows width c = records_within (suc (length (drop c.offset file))) file rows width c

-- ---- the records of a file

-- the body begins after the header, in plane row 0
abbrev pub first_cursor : RecordCursor
first_cursor = cursor_at header_length 0 0

-- the records of a file that is opened at a resolution; none where its opening is refused
abbrev pub opened_records : List ℕ → Outcome Resolution → List ListedRecord
opened_records file (Ok r) = records_from file (plane_rows_of r) (row_bytes_of r) first_cursor
opened_records file (Err why) = []

abbrev pub file_records : List ℕ → List ListedRecord
file_records file = opened_records file (packed_opening file)

-- what the whole reading comes to, into an area of the stated size, but for "2 for a file that is not packed, judged
-- after 5"
abbrev pub read_as_packed : List ℕ → Outcome Reading
read_as_packed file = bind (opening file) (λ h. refuse_if (not h.packed) unknown_kind (read_opened file h))

-- ---- what the steps over a file give

-- a record; after the last one none; or the refusal
abbrev pub Found : Type 0
Found = Outcome (Option ListedRecord)

-- none where a file is accepted, its refusal where it is not
abbrev pub end_of : {A : Type 0} → Outcome A → Found
end_of (Ok a) = Ok None
end_of (Err why) = Err why

-- record k of a list, and after its last one the end, for ever
abbrev pub record_or : Found → List ListedRecord → ℕ → Found
record_or end [] k = end
record_or end (e ∷ es) zero = Ok (Some e)
record_or end (e ∷ es) (suc k) = record_or end es k

-- what step k over a file gives, from 0: each record in file order, once; and then, for ever, done or the refusal
unfoldable pub listed : List ℕ → ℕ → Found
listed file k = record_or (end_of (read_as_packed file)) (file_records file) k
