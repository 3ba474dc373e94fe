-- What the record list promises (document 02, ticket 13): the records of a file, and what comes after the last, beside
-- the whole reading, into an area of the stated size.
use Rattle.std.specs.Prelude.{ℕ, ◌≡◌, true, false, List, [], Ok, Err}
use Rattle.outcome.specs.declared.Refusal.{Refusal}
use Rattle.outcome.specs.Outcome.{refuse, bind}
use Rattle.outcome.specs.Refusal.{unknown_kind}
use Rattle.resolution.specs.declared.Resolution.{Resolution}
use Rattle.resolution.specs.Shapes.{screen_bytes, row_bytes_of}
use Rattle.degas.specs.Layout.{header_length}
use Rattle.degas.specs.Opening.{is_packed, opening}
use Rattle.degas_records.specs.declared.ListedRecord.{ListedRecord}
use Rattle.degas_records.specs.Opening.{packed_opening}
use Rattle.degas_records.specs.Listing.{file_records, read_as_packed}
use Rattle.degas_records.specs.BodyRecords.{BodyRecords, ListsReading}
use Rattle.reader.specs.Reading.{kind_degas, read_file}

pub record RecordsAsRead (file : List ℕ) : Type 0 where
  -- an opened file: the records of the reading, as many as it reports, which make its screen; or all before the place
  -- of its refusal
  pub opened : (r : Resolution) → packed_opening file ≡ Ok r
      → ListsReading file r (file_records file) (read_file kind_degas file screen_bytes)
  -- and no other list has these, up to any offset
  pub determined : (r : Resolution) (end : ℕ) (es fs : List ListedRecord)
      → BodyRecords file (row_bytes_of r) header_length 0 es end → BodyRecords file (row_bytes_of r) header_length 0 fs end
      → es ≡ fs
  -- no record comes before an opening's refusal, which is what each step gives
  pub unopened : (why : Refusal) → packed_opening file ≡ Err why
      → (file_records file ≡ []) × (read_as_packed file ≡ Err why)
  -- after the last record of a packed file the reading's outcome
  pub packed : is_packed file ≡ true → read_as_packed file ≡ read_file kind_degas file screen_bytes
  -- of another 2, where the opening's 3 and 5 do not come before
  pub raw : is_packed file ≡ false → read_as_packed file ≡ bind (opening file) (λ _. refuse unknown_kind)
