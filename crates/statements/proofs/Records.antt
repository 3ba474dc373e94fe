-- The record list is as the whole reading says: of every file.
use Rattle.std.specs.Prelude.{Ok, Err}
use mathlib.Core.Path.{◌≡◌, sym, ap, ◌∙◌, subst}
use Prim.Native.Nat.{ℕ}
use mathlib.Core.List.{List}
use Rattle.outcome.specs.declared.Refusal.{Refusal}
use Rattle.outcome.specs.Outcome.{Outcome, map}
use Rattle.outcome.proofs.Outcome.{map-refused}
use Rattle.resolution.specs.Shapes.{row_bytes_of}
use Rattle.degas.specs.Layout.{header_length}
use Rattle.degas_records.specs.Listing.{first_cursor, opened_records, file_records, listed}
use Rattle.degas_records.specs.declared.RecordCursor.{RecordCursor}
use Rattle.degas_records.specs.Answers.{given_cursor_answer}
use Rattle.degas_records.specs.Opening.{packed_opening}
use Rattle.degas_records.specs.Steps.{steps}
use Rattle.degas_records.specs.BodyRecords.{ListsReading}
use Rattle.degas_records.proofs.BodyRecords.{records-determined}
use Rattle.degas_records.proofs.Reading.{opened_packed, packed-as-read, raw-refused, refused-as-read}
use Rattle.degas_records.proofs.Reading.{records-as-read, steps-listed, refused-always}
use Rattle.reader.specs.Reading.{read_file}
use Rattle.statements.specs.Records.{RecordsAsRead}

pub as_read : (file : List ℕ) → RecordsAsRead file
unfolding read_file
as_read file = record {
  opened = λ r is.
      subst (ListsReading file r (file_records file)) (packed-as-read file (opened_packed file r is))
      (records-as-read file r is);
  determined = λ r end es fs. records-determined file (row_bytes_of r) header_length 0 end es fs;
  unopened = λ why is. (ap (opened_records file) is, refused-as-read file why is);
  packed = packed-as-read file;
  raw = raw-refused file;
}

-- the steps from where an opened file's records begin, and what each step gives where the opening is refused
pub opened-steps : (file : List ℕ) (c : RecordCursor) (k : ℕ) → map (λ _. first_cursor) (packed_opening file) ≡ Ok c
    → steps file c k ≡ listed file k
opened-steps file c k is =
    ap (λ (o : Outcome RecordCursor). steps file (given_cursor_answer o).cursor k) (sym is) ∙ steps-listed file k

pub refused-steps : (file : List ℕ) (why : Refusal) (k : ℕ) → map (λ _. first_cursor) (packed_opening file) ≡ Err why
    → Err why ≡ listed file k
refused-steps file why k is =
    sym (refused-always file why (map-refused (λ _. first_cursor) (packed_opening file) why is) _ k)
    ∙ steps-listed file k
