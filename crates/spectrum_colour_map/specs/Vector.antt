-- The vector of a palette in the colour map of an SPC file: which of the 16 entries the words behind it give (document
-- 02, ticket 5; sources 000 and 001, "Color map compression").
use Rattle.std.specs.Prelude.{ℕ, ◌/◌, ◌%◌, ◌^◌}
use Rattle.lists.specs.Sum.{sum}

-- the entries of a palette
abbrev pub entries : ℕ
entries = 16

-- bit i, the least significant first: 1 where entry i is named
unfoldable pub bit : ℕ → ℕ → ℕ
bit vector i = vector / 2 ^ i % 2

-- how many of the entries below n are named
unfoldable pub named_below : ℕ → ℕ → ℕ
named_below vector n = sum n (bit vector)

-- how many words follow the vector: one for each set bit
abbrev pub named : ℕ → ℕ
named vector = named_below vector entries
