-- The layout of a NEOchrome file (document 01, "File layouts"): flag word, resolution word, palette, name, animation
-- words, offsets, size, reserved bytes, screen.
use Rattle.std.specs.Prelude.{ℕ, ◌+◌, List, ◌∷◌, ◌++◌, take, replicate}
use Rattle.words.specs.Word.{word_bytes, words_bytes}
use Rattle.resolution.specs.Shapes.{screen_bytes}
use Rattle.picture.specs.declared.Picture.{Picture}

-- where the resolution's word stands; the flag's is before it
abbrev pub resolution_start : ℕ
resolution_start = 2

-- where the palette stands
abbrev pub palette_start : ℕ
palette_start = 4

-- where the screen stands
abbrev pub screen_start : ℕ
screen_start = 128

-- every file
abbrev pub file_length : ℕ
file_length = screen_start + screen_bytes

-- eight blanks, a full stop, three blanks
abbrev pub name : List ℕ
name = replicate 8 32 ++ (46 ∷ replicate 3 32)

-- what stands between palette and screen: the name; three animation words and two offsets, all 0; the size, 320 and
-- 200; 66 reserved bytes
abbrev pub middle : List ℕ
middle = name ++ replicate 10 0 ++ word_bytes 320 ++ word_bytes 200 ++ replicate 66 0

-- all that stands before the screen: the flag word 0, the resolution, the palette, and the middle
abbrev pub header : Picture → List ℕ
header p = word_bytes 0 ++ (word_bytes p.resolution ++ (words_bytes p.palette ++ middle))

-- form 4
unfoldable pub neochrome_file : Picture → List ℕ → List ℕ
neochrome_file p screen = header p ++ take screen_bytes screen
