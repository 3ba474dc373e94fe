-- The blank screen, and blank files at low resolution: files that reading must accept.
use Rattle.std.specs.Prelude.{ℕ, replicate}
use mathlib.Core.List.{List, [], ◌∷◌, ◌++◌, flatten}
use Rattle.resolution.specs.declared.Resolution.{Resolution}
use Rattle.resolution.specs.declared.Resolution.TheVariants.{Low, Medium, High}
use Rattle.resolution.specs.Shapes.{screen_bytes}
use Rattle.degas.specs.Layout.{plain_length, elite_length}
use Rattle.neochrome.specs.Layout.{file_length}
use Rattle.reader.specs.Reading.{kind_degas, kind_neochrome, kind_tiny}

abbrev pub zeros : ℕ → List ℕ
zeros n = replicate n 0

abbrev pub blank_screen : List ℕ
blank_screen = zeros screen_bytes

-- a body of the blank screen: one repeat for each plane row
abbrev pub blank_body : Resolution → List ℕ
blank_body Low = flatten (replicate 800 (0xD9 ∷ 0x00 ∷ []))
blank_body Medium = flatten (replicate 400 (0xB1 ∷ 0x00 ∷ []))
blank_body High = flatten (replicate 400 (0xB1 ∷ 0x00 ∷ []))

-- document 01's blank file: 80 00, 32 zero bytes, 800 times D9 00, 32 zero bytes
abbrev pub blank_packed : List ℕ
blank_packed = (0x80 ∷ 0x00 ∷ zeros 32) ++ blank_body Low ++ zeros 32

-- resolution byte and palette, 3 control bytes, 1 data word; the run of 16,000 words, and its word
abbrev pub blank_tiny : List ℕ
blank_tiny = zeros 33 ++ (0x00 ∷ 0x03 ∷ 0x00 ∷ 0x01 ∷ []) ++ (0x00 ∷ 0x3E ∷ 0x80 ∷ []) ++ (0x00 ∷ 0x00 ∷ [])

pub data Blank : ℕ → List ℕ → Type 0 where
  plain : Blank kind_degas (zeros plain_length)
  elite : Blank kind_degas (zeros elite_length)
  packed : Blank kind_degas blank_packed
  neochrome : Blank kind_neochrome (zeros file_length)
  tiny : Blank kind_tiny blank_tiny
