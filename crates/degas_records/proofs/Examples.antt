-- Small files as records: computed.
use Rattle.std.specs.Prelude.{Err}
use mathlib.Core.Path.{◌≡◌, refl}
use mathlib.Core.List.{List, [], ◌∷◌, ◌++◌}
use Prim.Native.Nat.{ℕ}
use lib.ListN.{replicate}
use Rattle.outcome.specs.Outcome.{refusal, row_refusal}
use Rattle.packbits.specs.Records.{control, record_at}
use Rattle.packbits.specs.Unpack.{progress_within, progress}
use Rattle.packbits.specs.Unpack as unpacking
use Rattle.packbits.specs.Rows.{row_step, rows_from, rows_outcome}
use Rattle.words.specs.Word.{word_at}
use Rattle.bodies.specs.Reading.{read_body}
use Rattle.degas.specs.Opening.{opening}
use Rattle.degas.specs.Reading.{read_packed}
use Rattle.degas_records.specs.declared.ListedRecord.{ListedRecord}
use Rattle.degas_records.specs.declared.RecordKind.{RecordKind}
use Rattle.degas_records.specs.declared.RecordKind.TheVariants.{Literal, Repeat, Nothing}
use Rattle.degas_records.specs.Opening.{packed_opening}
use Rattle.degas_records.specs.BodyRecords.{BodyRecords, row_made}
use Rattle.degas_records.specs.Listing.{cursor_at, moved_over, records_within, records_from, record_or, listed}

abbrev listing : ℕ → ℕ → RecordKind → ℕ → ListedRecord
listing offset row kind n = record { offset = offset; plane_row = row; kind = kind; length = n }

-- a body of two rows of two: 80 FF 07 80 01 05 06. A record that does nothing after a full row belongs to the next one.
abbrev body : List ℕ
body = 128 ∷ 255 ∷ 7 ∷ 128 ∷ 1 ∷ 5 ∷ 6 ∷ []

abbrev body_list : List ListedRecord
body_list = listing 0 0 Nothing 0 ∷ listing 1 0 Repeat 2 ∷ listing 3 1 Nothing 0 ∷ listing 4 1 Literal 2 ∷ []

pub two-rows : records_from body 2 2 (cursor_at 0 0 0) ≡ body_list
unfolding records_from records_within moved_over record_at control
two-rows = refl

pub two-rows-records : BodyRecords body 2 0 0 body_list 7
unfolding control
two-rows-records = (refl, (refl, (refl, (refl, refl))))

pub two-rows-made : (row_made body body_list 0 ≡ 7 ∷ 7 ∷ []) × (row_made body body_list 1 ≡ 5 ∷ 6 ∷ [])
unfolding row_made
two-rows-made = (refl, refl)

-- the first word 8000, and 32 palette bytes
abbrev header : List ℕ
header = 128 ∷ replicate 33 0

-- a file of 34 bytes: 6 at 34, at every step
pub no_body : (k : ℕ) → listed header k ≡ Err (row_refusal 6 34 0 0)
unfolding listed packed_opening opening word_at records_from records_within read_packed read_body rows_outcome rows_from
    row_step progress progress_within unpacking.step record_at control
no_body k = refl

-- a row of a repeat of 39 and a literal of one, and then D8 with one byte after it: 7 at its place, in plane row 1
pub crossing : (k : ℕ) → listed (header ++ (218 ∷ 5 ∷ 0 ∷ 9 ∷ 216 ∷ 0 ∷ [])) k
    ≡ record_or (Err (row_refusal 7 38 1 0)) (listing 34 0 Repeat 39 ∷ listing 36 0 Literal 1 ∷ []) k
unfolding listed packed_opening opening word_at records_from records_within moved_over read_packed read_body rows_outcome
    rows_from row_step progress progress_within unpacking.step record_at control
crossing k = refl

-- a raw file of 34 bytes, whose length no raw file has: 2
pub raw : (k : ℕ) → listed (replicate 34 0) k ≡ Err (refusal 2 0)
unfolding listed packed_opening opening word_at
raw k = refl
