-- Worked examples of colour words, computed.
use Rattle.std.specs.Prelude.{Ok}
use mathlib.Core.Path.{◌≡◌, refl}
use mathlib.Core.List.{List, [], ◌∷◌, ◌++◌}
use Prim.Native.Nat.{ℕ, ◌+◌}
use lib.ListN.{replicate, take}
use Rattle.lists.specs.Sum.{sum}
use Rattle.lists.specs.Tabulate.{tabulate}
use Rattle.words.specs.Word.{word_at}
use Rattle.outcome.specs.Outcome.{Outcome, refuse, map}
use Rattle.raster.specs.Offsets.{group_offset, word_offset}
use Rattle.lines.specs.Registers.{pixel_bit, register}
use Rattle.spectrum_positions.specs.Positions.{second_from, position_of}
use Rattle.spectrum_colours.specs.Colours.{shown_word, pixel_word, line_of_words}

-- in line 1 the words of the first group are 8001, 4001, 2001 and 1001; all else is 0
abbrev screen : List ℕ
screen = replicate 160 0 ++ (128 ∷ 1 ∷ 64 ∷ 1 ∷ 32 ∷ 1 ∷ 16 ∷ 1 ∷ replicate 31832 0)

-- word k of the first two lines is 100 + k; all else is 7
abbrev palettes : List ℕ
palettes = tabulate 96 (λ k. 100 + k) ++ replicate 9456 7

abbrev word : ℕ → ℕ → Outcome ℕ
word x y = pixel_word screen palettes x y

-- line 1: registers 1, 2, 4, 8 and 15 in their first palettes, register 0 in its second and in its third one
pub first-line : (word 0 1 ≡ Ok 101) × (word 1 1 ≡ Ok 102)
    × (word 2 1 ≡ Ok 104)
    × (word 3 1 ≡ Ok 108)
    × (word 15 1 ≡ Ok 115)
    × (word 4 1 ≡ Ok 116)
    × (word 319 1 ≡ Ok 132)
unfolding pixel_word shown_word register sum pixel_bit word_offset group_offset word_at position_of second_from tabulate
first-line = (refl, refl, refl, refl, refl, refl, refl)

-- line 2 has palettes of its own; lines 0 and 200 and column 320 have none
pub other-lines : (word 0 2 ≡ Ok 148) × (word 0 199 ≡ Ok 7)
    × (word 0 0 ≡ refuse 10)
    × (word 0 200 ≡ refuse 10)
    × (word 320 1 ≡ refuse 10)
unfolding pixel_word shown_word register sum pixel_bit word_offset group_offset word_at position_of second_from tabulate
other-lines = (refl, refl, refl, refl, refl)

-- the first group of a scan line, into an output of `room` words
abbrev group : ℕ → ℕ → Outcome (List ℕ)
group y room = map (take 16) (line_of_words screen palettes y room)

pub scan-lines : (group 1 320 ≡ Ok (101 ∷ 102 ∷ 104 ∷ 108 ∷ replicate 11 116 ++ (115 ∷ [])))
    × (group 0 0 ≡ refuse 10)
    × (group 200 0 ≡ refuse 10)
    × (group 1 319 ≡ refuse 1)
unfolding line_of_words shown_word register sum pixel_bit word_offset group_offset word_at position_of second_from tabulate
scan-lines = (refl, refl, refl, refl)

-- an area one too short, before all else
pub short-areas : (pixel_word (replicate 31999 0) palettes 320 0 ≡ refuse 1)
    × (pixel_word screen (replicate 9551 7) 320 0 ≡ refuse 1)
    × (line_of_words (replicate 31999 0) palettes 0 0 ≡ refuse 1)
    × (line_of_words screen (replicate 9551 7) 0 0 ≡ refuse 1)
unfolding pixel_word line_of_words tabulate
short-areas = (refl, refl, refl, refl)
