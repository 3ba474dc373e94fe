-- The colour of a palette word on a machine (document 01, "Three resolutions": colour; document 02, ticket 4).
use Rattle.std.specs.Prelude.{ℕ, ◌/◌, ◌%◌, ◌^◌, ◌≡◌}
use Rattle.colour.specs.declared.Machine.{Machine}
use Rattle.colour.specs.declared.Rgb.{Rgb}
use Rattle.colour.specs.Machines.{nibble_shown}

-- the nibble that a word holds in its four bits from a bit up
unfoldable pub nibble : ℕ → ℕ → ℕ
nibble word bit = word / 2 ^ bit % 16

-- bits 8 to 11 are red's nibble, 4 to 7 green's, 0 to 3 blue's; bits 12 to 15 are ignored
unfoldable pub word_colour : Machine → ℕ → Rgb
word_colour m word = record
    { red = nibble_shown m (nibble word 8); green = nibble_shown m (nibble word 4); blue = nibble_shown m (nibble word 0) }

-- two words with the same bits, but for some of bits 3, 7 and 11
abbrev pub SameBut3·7·11 : ℕ → ℕ → Type 0
SameBut3·7·11 a b =
    (k : ℕ) → (k ≡ 3 → ⊥) → (k ≡ 7 → ⊥) → (k ≡ 11 → ⊥) → a / 2 ^ k % 2 ≡ b / 2 ^ k % 2
