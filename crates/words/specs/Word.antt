-- Big-endian words of a list of bytes.
use Rattle.std.specs.Prelude.{ℕ, ◌+◌, ◌*◌, ◌/◌, ◌%◌, get_or}
use mathlib.Core.List.{List, [], ◌∷◌, map, flatten}
use Rattle.lists.specs.Tabulate.{tabulate}

-- the word at an offset, its high byte first; a byte past the end counts as 0
unfoldable pub word_at : List ℕ → ℕ → ℕ
word_at s at = get_or s at 0 * 256 + get_or s (at + 1) 0

-- n words from an offset on
unfoldable pub words_at : ℕ → List ℕ → ℕ → List ℕ
words_at n s at = tabulate n (λ i. word_at s (at + i * 2))

-- a word's two bytes, the high one first
unfoldable pub word_bytes : ℕ → List ℕ
word_bytes w = w / 256 ∷ w % 256 ∷ []

-- the bytes of words, one word after the other
unfoldable pub words_bytes : List ℕ → List ℕ
words_bytes ws = flatten (map word_bytes ws)
