-- The parts of a Tiny file (document 02, ticket 1; source 001, <Tiny>): resolution byte, perhaps four rotation bytes,
-- 16 palette words, a count of control bytes, a count of data words, the control bytes, the data words.
use Rattle.std.specs.Prelude.{ℕ, ◌+◌, ◌*◌, ◌%◌, cond, List, get_or, take, drop, ltb}
use Rattle.words.specs.Word.{word_at, words_at}

-- the shortest header: the resolution byte, the palette and the two counts
abbrev pub shortest_length : ℕ
shortest_length = 37

-- the highest resolution byte, and the highest of a file without rotation bytes
abbrev pub highest_byte : ℕ
highest_byte = 5

abbrev pub highest_plain : ℕ
highest_plain = 2

-- there are as many resolutions
abbrev pub resolutions : ℕ
resolutions = 3

-- where the palette stands: after the resolution byte, or after that and four rotation bytes
abbrev pub plain_palette : ℕ
plain_palette = 1

abbrev pub rotated_palette : ℕ
rotated_palette = 5

-- from the palette's start on: the count of control bytes, the count of data words, the control bytes
abbrev pub control_count_offset : ℕ
control_count_offset = 32

abbrev pub data_count_offset : ℕ
data_count_offset = 34

abbrev pub control_offset : ℕ
control_offset = 36

-- 0 to 5
abbrev pub resolution_byte : List ℕ → ℕ
resolution_byte file = get_or file 0 0

-- 3 to 5 mean resolution 0 to 2
abbrev pub resolution_number : List ℕ → ℕ
resolution_number file = resolution_byte file % resolutions

-- above 2 means four rotation bytes follow
unfoldable pub palette_start : List ℕ → ℕ
palette_start file = cond (ltb highest_plain (resolution_byte file)) rotated_palette plain_palette

-- the counts, unsigned words: one in bytes and one in words
abbrev pub control_count : List ℕ → ℕ
control_count file = word_at file (palette_start file + control_count_offset)

abbrev pub data_count : List ℕ → ℕ
data_count file = word_at file (palette_start file + data_count_offset)

-- where the control bytes start: at 37, or at 41 with rotation
abbrev pub control_start : List ℕ → ℕ
control_start file = palette_start file + control_offset

-- where the data words start, at an odd offset or not
abbrev pub data_start : List ℕ → ℕ
data_start file = control_start file + control_count file

-- both sections' bytes
abbrev pub body_length : List ℕ → ℕ
body_length file = control_count file + data_count file * 2

-- the control section, in bytes, and the data section, in words
abbrev pub control_section : List ℕ → List ℕ
control_section file = take (control_count file) (drop (control_start file) file)

abbrev pub data_section : List ℕ → List ℕ
data_section file = words_at (data_count file) (drop (data_start file) file) 0
