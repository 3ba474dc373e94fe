-- Worked examples of each rule of ticket 5 on whole files, computed.
use Rattle.std.specs.Prelude.{Err}
use mathlib.Core.Path.{◌≡◌, refl}
use mathlib.Core.List.{List, [], ◌∷◌, ◌++◌}
use Prim.Native.Nat.{ℕ, ◌+◌, ◌*◌}
use lib.ListN.{replicate}
use Rattle.outcome.specs.Outcome.{Outcome, refusal}
use Rattle.words.specs.Word.{word_at}
use Rattle.raster.specs.Shape.{bytes}
use Rattle.resolution.specs.Shapes.{screen_bytes}
use Rattle.filling.specs.Filling.{fill_within, fill}
use Rattle.spectrum_data_map.specs.Records.{makes, takes, record_bytes, fault_at}
use Rattle.spectrum_data_map.specs.DataMap.{record_step, fill_map}
use Rattle.spectrum_colour_map.specs.Vector.{entries}
use Rattle.spectrum_colour_map.specs.ColourMap.{palette_count, palette_words}
use Rattle.spectrum.specs.Layout.{spu_bytes, long_at}
use Rattle.spectrum.specs.Screen.{shown_lines, plane_bytes}
use Rattle.spectrum.specs.Reading.{Reading, read_maps, read_spc, read_spu, read_spectrum}

-- the sizes, each by the others
pub sizes : (palette_words ≡ palette_count * entries)
    × (palette_count ≡ 3 * 199)
    × (plane_bytes ≡ bytes shown_lines)
    × (spu_bytes ≡ screen_bytes + 2 * palette_words)
sizes = (refl, refl, refl, refl)

-- numbers of four bytes, the highest first
pub lengths : (long_at (0 ∷ 0 ∷ 0 ∷ 0 ∷ 1 ∷ 2 ∷ 3 ∷ 4 ∷ 5 ∷ 6 ∷ 7 ∷ 8 ∷ []) 4 ≡ 0x01020304)
    × (long_at (0 ∷ 0 ∷ 0 ∷ 0 ∷ 1 ∷ 2 ∷ 3 ∷ 4 ∷ 5 ∷ 6 ∷ 7 ∷ 8 ∷ []) 8 ≡ 0x05060708)
unfolding long_at word_at
lengths = (refl, refl)

-- a header with these low bytes of its two lengths
abbrev header : ℕ → ℕ → List ℕ
header n m = 0x53 ∷ 0x50 ∷ 0 ∷ 0 ∷ 0 ∷ 0 ∷ 0 ∷ n ∷ 0 ∷ 0 ∷ 0 ∷ m ∷ []

-- refused with this number at this place
abbrev no : ℕ → ℕ → Outcome Reading
no number place = Err (refusal number place)

abbrev read : List ℕ → Outcome Reading
read file = read_spectrum 5 file 32000 9552

-- the areas, then the kind, then the length
pub areas : (read_spectrum 6 [] 31999 9552 ≡ no 1 0)
    × (read_spectrum 6 [] 32000 9551 ≡ no 1 0)
    × (read_spectrum 6 [] 32000 9552 ≡ no 2 0)
    × (read_spectrum 4 (header 0 0) 32000 9552 ≡ no 3 0)
unfolding read_spectrum read_spu
areas = (refl, refl, refl, refl)

-- the length by itself and by the header, then the flag word and the reserved word
pub headers : (read (replicate 11 0) ≡ no 3 0)
    × (read (0 ∷ replicate 12 0) ≡ no 3 0)
    × (read (header 1 2 ++ (5 ∷ 6 ∷ [])) ≡ no 3 0)
    × (read (header 1 2 ++ (5 ∷ 6 ∷ 7 ∷ 8 ∷ [])) ≡ no 3 0)
    × (read (0x53 ∷ 0x51 ∷ replicate 10 0) ≡ no 14 0)
    × (read (0x53 ∷ 0x50 ∷ 0 ∷ 1 ∷ replicate 8 0) ≡ no 14 0)
    × (read (0x53 ∷ 0x50 ∷ 1 ∷ 0 ∷ replicate 8 0) ≡ no 14 0)
unfolding read_spectrum read_spc long_at word_at
headers = (refl, refl, refl, refl, refl, refl, refl)

-- the data map: its end is the input's end, whatever the colour map holds, and places count from the file's start
pub data-maps : (read (header 0 2 ++ (0 ∷ 0 ∷ [])) ≡ no 6 12)
    × (read (header 1 2 ++ (0 ∷ 0 ∷ 0 ∷ [])) ≡ no 6 12)
    × (read (header 3 2 ++ (255 ∷ 9 ∷ 255 ∷ 9 ∷ 9 ∷ [])) ≡ no 6 14)
unfolding read_spectrum read_spc read_maps long_at word_at fill_map fill fill_within record_step fault_at makes takes record_bytes
data-maps = (refl, refl, refl)
