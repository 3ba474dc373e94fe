-- Whole MacPaint files, read: computed from the definitions.
use mathlib.Core.Path.{◌≡◌, refl}
use mathlib.Core.List.{List, [], ◌∷◌, ◌++◌, flatten}
use Prim.Native.Nat.{ℕ}
use lib.ListN.{replicate}
use Rattle.outcome.specs.Outcome.{row_refusal, refusal}
use Rattle.packbits.specs.Records.{control, record_at}
use Rattle.packbits.specs.Rows.{row_step, rows_from, rows_outcome}
use Rattle.packbits.specs.Unpack.{progress, progress_within, step}
use Rattle.words.specs.Word.{word_at}
use Rattle.bodies.specs.declared.BodyAnswer.{BodyAnswer}
use Rattle.bodies.specs.Body.{body_done, body_refused}
use Rattle.bodies.specs.Reading.{read_body}
use Rattle.bodies.specs.Unpacking.{unpacked_answer}
use Rattle.macpaint.specs.Layout.{zero_header}
use Rattle.macpaint.specs.Plate.{plate_bytes}
use Rattle.macpaint.specs.Reading.{read_plate}

-- n rows of 72 zero bytes, packed
abbrev blank_rows : ℕ → List ℕ
blank_rows n = flatten (replicate n (0xB9 ∷ 0x00 ∷ []))

abbrev answered : List ℕ → BodyAnswer
answered file = unpacked_answer (read_plate file plate_bytes)

-- the blank plate: 1,440 bytes, 720 records
pub blank-plate : answered (zero_header ++ blank_rows 720) ≡ body_done 1440 720
unfolding zero_header read_plate read_body rows_outcome rows_from row_step progress progress_within step record_at control
    word_at flatten
blank-plate = refl

-- a run of 73 bytes in the third row: 7 at 516, row 2
pub crossing-row : answered (zero_header ++ blank_rows 2 ++ 0xB8 ∷ 0x00 ∷ []) ≡ body_refused (row_refusal 7 516 2 0)
unfolding zero_header read_plate read_body rows_outcome rows_from row_step progress progress_within step record_at control
    word_at flatten
crossing-row = refl

-- a byte after the blank plate, one that does nothing: 8 at the body's end
pub byte_left : answered (zero_header ++ blank_rows 720 ++ 0x80 ∷ []) ≡ body_refused (refusal 8 1952)
unfolding zero_header read_plate read_body rows_outcome rows_from row_step progress progress_within step record_at control
    word_at flatten
byte_left = refl

-- a header alone: 6 at its end
pub header-alone : answered zero_header ≡ body_refused (row_refusal 6 512 0 0)
unfolding zero_header read_plate read_body rows_outcome rows_from row_step progress progress_within step record_at control
    word_at
header-alone = refl

-- versions 0 and 2 are allowed, 1 and 2 * 65,536 are not
abbrev number_of : List ℕ → ℕ
number_of file = (answered file).refusal.number

pub versions : (number_of (0 ∷ 0 ∷ 0 ∷ 2 ∷ replicate 508 0) ≡ 6)
    × (number_of (0 ∷ 0 ∷ 0 ∷ 1 ∷ replicate 508 0) ≡ 20)
    × (number_of (0 ∷ 2 ∷ 0 ∷ 0 ∷ replicate 508 0) ≡ 20)
unfolding read_plate read_body rows_outcome rows_from row_step progress progress_within step record_at control word_at
versions = (refl, refl, refl)
