-- The records of a body, said without the functions that list them, and what they make (document 02, ticket 13: "in
-- file order, each once"; "together they make the same screen"): a record is what its control byte says (`control`).
use Rattle.outcome.specs.Outcome.{Outcome}
use Rattle.std.specs.Prelude.{ℕ, ◌+◌, ◌/◌, ◌≡◌, cond, List, [], ◌∷◌, ◌++◌, length, get_or, drop, ltb, eqb, Ok, Err}
use Rattle.lists.specs.Tabulate.{tabulate}
use Rattle.packbits.specs.declared.Record.{Record}
use Rattle.packbits.specs.declared.Record.TheVariants as R
use Rattle.packbits.specs.Records.{control, packed_len, row_len, row_bytes}
use Rattle.packbits.specs.Rows.{RowsProgress}
use Rattle.raster.specs.PlaneRows.{image_of}
use Rattle.resolution.specs.declared.Resolution.{Resolution}
use Rattle.resolution.specs.Shapes.{row_bytes_of, plane_rows_of, raster_of}
use Rattle.picture.specs.Reading.{Reading}
use Rattle.degas.specs.Layout.{header_length}
use Rattle.degas_records.specs.declared.ListedRecord.{ListedRecord}
use Rattle.degas_records.specs.declared.RecordKind.{RecordKind}
use Rattle.degas_records.specs.declared.RecordKind.TheVariants.{Literal, Repeat, Nothing}

-- ---- which records

-- the record that the control byte at an offset of a file begins
abbrev pub control_at : List ℕ → ℕ → Record
control_at file at = control (get_or file at 0)

-- its kind, by that byte: below 128, 128, or above
abbrev pub kind_at : List ℕ → ℕ → RecordKind
kind_at file at = cond (ltb (get_or file at 0) 128) Literal (cond (eqb (get_or file at 0) 128) Nothing Repeat)

-- as it is listed, where `made` bytes of the rows are made before it: its plane row is the number of rows that these
-- fill
abbrev pub listed_at : List ℕ → ℕ → ℕ → ℕ → ListedRecord
listed_at file width at made =
    record {
      offset = at;
      plane_row = made / width;
      kind = kind_at file at;
      length = row_len (control_at file at);
    }

-- `BodyRecords file width at made records end`: these are the records that stand in the file from one offset up to
-- another, one behind the other; `made` bytes of the rows are made before the first
abbrev pub BodyRecords : List ℕ → ℕ → ℕ → ℕ → List ListedRecord → ℕ → Type 0
BodyRecords file width at made [] end = at ≡ end
BodyRecords file width at made (e ∷ es) end =
    (e ≡ listed_at file width at made)
    × BodyRecords file width (at + packed_len (control_at file at)) (made + row_len (control_at file at)) es end

-- ---- what they make

-- a record of a kind and a length
abbrev pub record_of : RecordKind → ℕ → Record
record_of Literal n = R.Literal n
record_of Repeat n = R.Repeat n
record_of Nothing n = R.Nothing

-- the bytes of the row that a listed record makes
abbrev pub made_by : List ℕ → ListedRecord → List ℕ
made_by file e = row_bytes (record_of e.kind e.length) (drop e.offset file)

-- the bytes that the records of one plane row make, in their order
unfoldable pub row_made : List ℕ → List ListedRecord → ℕ → List ℕ
row_made file [] row = []
row_made file (e ∷ es) row =
    cond (eqb e.plane_row row) (made_by file e ++ row_made file es row) (row_made file es row)

-- the screen whose plane rows they make
abbrev pub screen_made : List ℕ → Resolution → List ListedRecord → List ℕ
screen_made file r records = image_of (raster_of r) (tabulate (plane_rows_of r) (row_made file records))

-- ---- unpacking follows

-- `Unpacking file width at records p`: how far unpacking rows from an offset comes, read off the list
pub record Unpacking (file : List ℕ) (width at : ℕ) (records : List ListedRecord) (p : RowsProgress) : Type 0 where
  -- the records up to where it stops
  pub up_to : BodyRecords file width at 0 records (at + p.bytes)
  pub counted : length records ≡ p.records
  -- each whole row, and of the row under way what it has
  pub rows : p.rows ≡ tabulate (length p.rows) (row_made file records)
  pub begun : p.begun ≡ row_made file records (length p.rows)

-- `ListsReading file r records o`: the records of a whole reading. Those of an accepted one are as many as it reports,
-- make its screen, and are all of its body's; those of a refused one are all before its place.
pub record ListsAccepted (file : List ℕ) (r : Resolution) (records : List ListedRecord) (q : Reading) : Type 0 where
  pub as_many : length records ≡ q.records
  pub same-screen : q.screen ≡ screen_made file r records
  pub whole-body : BodyRecords file (row_bytes_of r) header_length 0 records (header_length + q.body)

abbrev pub ListsReading : List ℕ → Resolution → List ListedRecord → Outcome Reading → Type 0
ListsReading file r records (Ok q) = ListsAccepted file r records q
ListsReading file r records (Err why) = BodyRecords file (row_bytes_of r) header_length 0 records why.place
