-- The layout of a MacPaint file (document 02, ticket 9; source 003): a header of 512 bytes, of which the first four are
-- the version, and a packed body below 51,200 bytes.
use Rattle.std.specs.Prelude.{ℕ, ◌+◌, ◌-◌, ◌*◌, List, ◌++◌, replicate}
use Rattle.words.specs.Word.{word_at}

-- the header; the body follows, and nothing after the body
abbrev pub header_length : ℕ
header_length = 512

abbrev pub after_body : ℕ
after_body = 0

-- a body is below this
abbrev pub body_limit : ℕ
body_limit = 51200

-- the longest file
abbrev pub longest_file : ℕ
longest_file = header_length + (body_limit - 1)

-- the version, a long: its high word first
abbrev pub version : List ℕ → ℕ
version file = word_at file 0 * 65536 + word_at file 2

-- the two versions: the header's patterns are ignored, or valid
abbrev pub header_ignored : ℕ
header_ignored = 0

abbrev pub header_valid : ℕ
header_valid = 2

-- the header that is written
unfoldable pub zero_header : List ℕ
zero_header = replicate header_length 0

-- the file of a body
unfoldable pub plate_file : List ℕ → List ℕ
plate_file body = zero_header ++ body
