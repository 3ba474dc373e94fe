-- The header of a GEM IMG file, and the screen profile (source 002, <GEM Bit Image>; document 02, ticket 11).
use Rattle.std.specs.Prelude.{ℕ, ◌+◌, ◌*◌, ◌/◌, Bool, not, ◌&&◌, List, ltb, leb, eqb}
use Rattle.words.specs.Word.{word_at}

-- the plain header, 8 words; more may follow
abbrev pub least_header_words : ℕ
least_header_words = 8

abbrev pub least_header_bytes : ℕ
least_header_bytes = least_header_words * 2

-- the version, the number of planes, and the most that the profile allows
abbrev pub profile_version : ℕ
profile_version = 1

abbrev pub profile_planes : ℕ
profile_planes = 1

abbrev pub most_pattern : ℕ
most_pattern = 8

abbrev pub most_width : ℕ
most_width = 640

-- the bytes of the widest line (proofs/Header.antt, `line-most`)
abbrev pub most_line_bytes : ℕ
most_line_bytes = 80

abbrev pub most_lines : ℕ
most_lines = 400

-- The words of a header. Those at 8 and 10, a pixel's size, and those past 14 are not judged.
module _ (file : List ℕ) where
  abbrev pub version : ℕ
  version = word_at file 0

  -- the header's length in words
  abbrev pub header_words : ℕ
  header_words = word_at file 2

  abbrev pub header_bytes : ℕ
  header_bytes = header_words * 2

  abbrev pub planes : ℕ
  planes = word_at file 4

  -- a pattern's bytes
  abbrev pub pattern : ℕ
  pattern = word_at file 6

  -- a line's pixels
  abbrev pub width : ℕ
  width = word_at file 12

  abbrev pub lines : ℕ
  lines = word_at file 14

-- from 1 to the most
unfoldable pub up_to : ℕ → ℕ → Bool
up_to most n = not (eqb n 0) && leb n most

unfoldable pub in_profile : List ℕ → Bool
in_profile file =
    eqb (version file) profile_version
    && (not (ltb (header_words file) least_header_words)
    && (eqb (planes file) profile_planes
    && (up_to most_pattern (pattern file)
    && (up_to most_width (width file)
    && up_to most_lines (lines file)))))

-- a line's bytes: its pixels by 8, rounded up
unfoldable pub bytes_per_line : ℕ → ℕ
bytes_per_line width = (width + 7) / 8
