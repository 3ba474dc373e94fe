-- The parts of Spectrum 512 files (document 02, ticket 5; sources 000 and 001). SPU: a screen, then 9,552 palette
-- words. SPC: flag word, reserved word, the lengths of two maps, the data map, the colour map.
use Rattle.std.specs.Prelude.{ℕ, ◌+◌, ◌*◌, List, take}
use Rattle.words.specs.Word.{word_at}

-- the kinds
abbrev pub kind_spu : ℕ
kind_spu = 4

abbrev pub kind_spc : ℕ
kind_spc = 5

-- the bytes of an SPU file
abbrev pub spu_bytes : ℕ
spu_bytes = 51104

-- the bytes of an SPC file's header
abbrev pub header_bytes : ℕ
header_bytes = 12

-- "SP"
abbrev pub spc_flag : ℕ
spc_flag = 0x5350

-- the 32-bit number at an offset, its high word first
unfoldable pub long_at : List ℕ → ℕ → ℕ
long_at file at = word_at file at * 65536 + word_at file (at + 2)

-- Of an SPC file.
module _ (file : List ℕ) where
  abbrev pub flag : ℕ
  flag = word_at file 0

  abbrev pub reserved : ℕ
  reserved = word_at file 2

  -- the lengths of the maps, in bytes
  abbrev pub data_length : ℕ
  data_length = long_at file 4

  abbrev pub colour_length : ℕ
  colour_length = long_at file 8

  -- where the data map ends and the colour map begins
  abbrev pub colour_start : ℕ
  colour_start = header_bytes + data_length

  -- the length that the header gives
  abbrev pub spc_length : ℕ
  spc_length = colour_start + colour_length

  -- the file up to the data map's end, which within that map is the input's end
  abbrev pub before_colours : List ℕ
  before_colours = take colour_start file
