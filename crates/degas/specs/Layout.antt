-- The layout of a DEGAS file, plain, Elite raw and Elite packed (document 01, "File layouts"): first word, 16 palette
-- words, body, and for Elite 16 tail words.
use Rattle.std.specs.Prelude.{ℕ, ◌+◌, ◌-◌, List, ◌++◌, take}
use Rattle.words.specs.Word.{word_bytes, words_bytes}
use Rattle.resolution.specs.Shapes.{screen_bytes}
use Rattle.picture.specs.declared.Picture.{Picture}
use Rattle.picture.specs.Tables.{tail_bytes}

-- where the palette stands
abbrev pub palette_start : ℕ
palette_start = 2

-- the first word and the palette; the body follows
abbrev pub header_length : ℕ
header_length = 34

-- the tail's 16 words
abbrev pub tail_length : ℕ
tail_length = 32

-- a packed body is below this
abbrev pub body_limit : ℕ
body_limit = 32000

-- a plain file
abbrev pub plain_length : ℕ
plain_length = header_length + screen_bytes

-- an Elite raw file
abbrev pub elite_length : ℕ
elite_length = plain_length + tail_length

-- an Elite packed file with a body of `body` bytes
abbrev pub packed_length : ℕ → ℕ
packed_length body = header_length + body + tail_length

-- the longest one
abbrev pub packed_most : ℕ
packed_most = packed_length (body_limit - 1)

-- bit 15 of the first word
abbrev pub packed_bit : ℕ
packed_bit = 32768

-- the first word and the palette
abbrev pub header : ℕ → Picture → List ℕ
header word p = word_bytes word ++ words_bytes p.palette

-- form 1, plain DEGAS; the first word is the resolution, at most 2 where a file is written, so bits 2 to 14 are 0
unfoldable pub plain_file : Picture → List ℕ → List ℕ
plain_file p screen = header p.resolution p ++ take screen_bytes screen

-- form 2, DEGAS Elite raw: the tail's words as given, marked present or not
unfoldable pub elite_file : Picture → List ℕ → List ℕ
elite_file p screen = header p.resolution p ++ (take screen_bytes screen ++ tail_bytes p.tail)

-- form 3, DEGAS Elite packed: bit 15 of the first word says so
unfoldable pub packed_file : Picture → List ℕ → List ℕ
packed_file p body = header (packed_bit + p.resolution) p ++ (body ++ tail_bytes p.tail)
