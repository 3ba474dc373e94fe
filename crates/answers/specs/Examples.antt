-- The examples of document 01 that are marked P, as one table (document 01, "Examples to hold to").
use Rattle.std.specs.Prelude.{ℕ, ◌≡◌, List, [], ◌∷◌, replicate, Err}
use Rattle.outcome.specs.Outcome.{Outcome, row_refusal}
use Rattle.outcome.specs.Refusal.{input_ends, record_crosses}
use Rattle.words.specs.Word.{words_bytes}
use Rattle.packbits.specs.Row.{Row, done}
use Rattle.packbits.specs.Unpack.{unpack_row}
use Rattle.pack.specs.IsLeast.{IsLeast}
use Rattle.resolution.specs.declared.Resolution.TheVariants.{Low}
use Rattle.lines.specs.Registers.{register}
use Rattle.colour.specs.declared.Machine.TheVariants.{St}
use Rattle.colour.specs.Palette.{word_colour}

pub data Example : Type 0 where
  -- a row and its least body
  row_packed : List ℕ → List ℕ → Example
  -- packed bytes, a row's width, and what unpacking comes to
  row_unpacked : List ℕ → ℕ → Outcome Row → Example
  -- a palette word, and its red, green and blue on an ST
  coloured : ℕ → ℕ → ℕ → ℕ → Example
  -- the plane words of the first group at low resolution, and the first register
  first_register : List ℕ → ℕ → Example

-- what an example says
abbrev pub Holds : Example → Type 0
Holds (row_packed row body) = (records : ℕ) × IsLeast row body records
Holds (row_unpacked packed width outcome) = unpack_row packed width width ≡ outcome
Holds (coloured word red green blue) = word_colour St word ≡ record { red = red; green = green; blue = blue }
Holds (first_register words v) = register (words_bytes words) Low 0 0 ≡ v

abbrev pub table : List Example
table =
    row_packed (0x07 ∷ []) (0x00 ∷ 0x07 ∷ [])
    ∷ row_packed (0x07 ∷ 0x07 ∷ []) (0xFF ∷ 0x07 ∷ [])
    ∷ row_packed (0x07 ∷ 0x07 ∷ 0x08 ∷ []) (0x02 ∷ 0x07 ∷ 0x07 ∷ 0x08 ∷ [])
    ∷ row_packed (0x01 ∷ 0x07 ∷ 0x07 ∷ 0x02 ∷ []) (0x03 ∷ 0x01 ∷ 0x07 ∷ 0x07 ∷ 0x02 ∷ [])
    ∷ row_packed (0x01 ∷ 0x07 ∷ 0x07 ∷ 0x07 ∷ 0x02 ∷ []) (0x00 ∷ 0x01 ∷ 0xFE ∷ 0x07 ∷ 0x00 ∷ 0x02 ∷ [])
    ∷ row_packed (replicate 40 0x00) (0xD9 ∷ 0x00 ∷ [])
    ∷ row_unpacked (0x80 ∷ 0xFF ∷ 0x07 ∷ []) 2 (done 3 2 (0x07 ∷ 0x07 ∷ []))
    ∷ row_unpacked (0x01 ∷ 0x07 ∷ []) 2 (Err (row_refusal input_ends 0 0 0))
    ∷ row_unpacked (0xFE ∷ 0x07 ∷ []) 2 (Err (row_refusal record_crosses 0 0 0))
    ∷ coloured 0x0735 255 109 182
    ∷ coloured 0x0000 0 0 0
    ∷ first_register (0x8000 ∷ 0x0000 ∷ 0x8000 ∷ 0x0000 ∷ []) 5
    ∷ []
