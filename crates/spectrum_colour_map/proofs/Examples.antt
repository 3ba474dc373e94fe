-- Worked examples of each rule of ticket 5 on the colour map, computed.
use Rattle.std.specs.Prelude.{Ok, Err}
use mathlib.Core.Path.{◌≡◌, refl}
use mathlib.Core.List.{List, [], ◌∷◌, ◌++◌}
use Prim.Native.Nat.{ℕ}
use lib.ListN.{replicate}
use Rattle.lists.specs.Sum.{sum}
use Rattle.lists.specs.Tabulate.{tabulate}
use Rattle.outcome.specs.Outcome.{Outcome, refusal}
use Rattle.words.specs.Word.{word_at}
use Rattle.spectrum_colour_map.specs.Vector.{bit, named_below, named}
use Rattle.spectrum_colour_map.specs.Palettes.{palette_end, entry, palette, palettes, judge_palette, judge_palettes}
use Rattle.spectrum_colour_map.specs.ColourMap.{no_palette, judge_map, read_map}

-- refused with this number at this place
abbrev no : {A : Type 0} → ℕ → ℕ → Outcome A
no number place = Err (refusal number place)

-- bits 0 and 2, and two words; then bit 1, and one word
abbrev first : List ℕ
first = 0x00 ∷ 0x05 ∷ 0x01 ∷ 0x11 ∷ 0x02 ∷ 0x22 ∷ []

abbrev second : List ℕ
second = 0x00 ∷ 0x02 ∷ 0x03 ∷ 0x33 ∷ []

-- one word for each set bit
pub vectors : (named 0x0000 ≡ 0)
    × (named 0x0005 ≡ 2)
    × (named 0x7FFF ≡ 15)
    × (named 0xFFFF ≡ 16)
    × (named_below 0x0005 2 ≡ 1)
unfolding named_below sum bit
vectors = (refl, refl, refl, refl, refl)

-- an entry that is not named is 0 at first, and then as in the palette before; the lowest bit's word comes first
pub kept : (palettes 1 first 0 no_palette ≡ 0x0111 ∷ 0 ∷ 0x0222 ∷ replicate 13 0)
    × (palettes 2 (first ++ second) 0 no_palette
    ≡ (0x0111 ∷ 0 ∷ 0x0222 ∷ replicate 13 0) ++ (0x0111 ∷ 0x0333 ∷ 0x0222 ∷ replicate 13 0))
    × (palettes 1 (0 ∷ 0 ∷ []) 0 (replicate 16 7) ≡ replicate 16 7)
    × (judge_palettes 2 (first ++ second) 0 ≡ Ok 10)
unfolding palettes palette entry palette_end judge_palettes judge_palette word_at named_below sum bit tabulate
kept = (refl, refl, refl, refl)

-- bit 15, before its words are judged; a vector and words cut short, at the vector; an offset past the file's end
pub faults : (judge_palettes 1 (0x80 ∷ 0x01 ∷ []) 0 ≡ no 15 0)
    × (judge_palettes 3 (first ++ second ++ (0xFF ∷ 0xFF ∷ [])) 0 ≡ no 15 0)
    × (judge_palettes 2 (first ++ (0x00 ∷ [])) 0 ≡ no 6 6)
    × (judge_palettes 2 (first ++ (0x80 ∷ [])) 0 ≡ no 6 6)
    × (judge_palettes 2 (first ++ (0x00 ∷ 0x02 ∷ 0x03 ∷ [])) 0 ≡ no 6 6)
    × (judge_palettes 3 (first ++ second) 0 ≡ no 6 10)
    × (judge_palettes 1 first 9 ≡ no 6 9)
unfolding judge_palettes judge_palette palette_end word_at named_below sum bit
faults = (refl, refl, refl, refl, refl, refl, refl)

-- 597 palettes without a word: a byte short, whole, and a byte left; the area is judged first
pub maps : (judge_map (replicate 1193 0) 0 ≡ no 6 1192)
    × (judge_map (replicate 1194 0) 0 ≡ Ok 1194)
    × (judge_map (replicate 1195 0) 0 ≡ no 13 0)
    × (read_map (replicate 1195 0) 0 9551 ≡ no 1 0)
unfolding read_map judge_map judge_palettes judge_palette palette_end word_at named_below sum bit
maps = (refl, refl, refl, refl)
