-- Where the expanded words stand in a screen (document 02, ticket 1; source 001, "Format of expanded data").
use Rattle.std.specs.Prelude.{ℕ, ◌+◌, ◌*◌, ◌/◌, ◌%◌, List, get_or, replicate}
use Rattle.lists.specs.Stores.{stores}
use Rattle.words.specs.Word.{words_bytes}

-- the words of a screen
abbrev pub screen_words : ℕ
screen_words = 16000

-- words of a line, and of a column, which has one word of each line; each set has every fourth column
abbrev pub line_words : ℕ
line_words = 80

abbrev pub column_words : ℕ
column_words = 200

abbrev pub sets : ℕ
sets = 4

abbrev pub set_words : ℕ
set_words = 4000

-- groups of a line, each of four neighbouring words, one of each set
abbrev pub groups : ℕ
groups = 20

-- expanded word k has set s = k/4000 and r = k mod 4000, and is screen word 80(r mod 200) + s + 4(r/200), at every
-- resolution
unfoldable pub screen_word : ℕ → ℕ
screen_word k = line_words * (k % set_words % column_words) + k / set_words + sets * (k % set_words / column_words)

-- back: the expanded word in column p mod 80 of line p/80
unfoldable pub expanded_word : ℕ → ℕ
expanded_word p = set_words * (p % line_words % sets) + column_words * (p % line_words / sets) + p / line_words

-- the screen's words: each expanded word stored at its place
unfoldable pub screen_words_of : List ℕ → List ℕ
screen_words_of words = stores screen_words screen_word (λ k. get_or words k 0) (replicate screen_words 0)

-- the screen's bytes
unfoldable pub screen_bytes_of : List ℕ → List ℕ
screen_bytes_of words = words_bytes (screen_words_of words)
