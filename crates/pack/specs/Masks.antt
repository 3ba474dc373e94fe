-- Which bytes equal the byte after them, as the binary digits of a number. No public contract cites it.
use Rattle.std.specs.Prelude.{ℕ, ◌+◌, ◌-◌, ◌*◌, ◌%◌, ◌^◌, ◌≤◌, ◌≡◌, cond, List, [], ◌∷◌, eqb, length, drop}
use Rattle.std.specs.Int.Bits.{bit_or}
use Rattle.std.specs.Int.Count.{count_leading_zeros}

-- 1 where two bytes are equal, otherwise 0
abbrev pub same_as : ℕ → ℕ → ℕ
same_as x y = cond (eqb x y) 1 0

-- the same of a byte and the first one of those after it
abbrev pub same_first : ℕ → List ℕ → ℕ
same_first x [] = 0
same_first x (y ∷ s) = same_as x y

-- the digit of each byte, the first one lowest
unfoldable pub equal_next : List ℕ → ℕ
equal_next [] = 0
equal_next (x ∷ s) = equal_next s * 2 + same_first x s

-- m tells this of the bytes of the row from the place i on, if they are not too many for a word
abbrev pub MaskAt : List ℕ → ℕ → ℕ → Type 0
MaskAt row i m = length row ≤ i + 63 → m ≡ equal_next (drop i row)

-- of the first n bytes, those without an equal neighbour, as digits
abbrev pub singles : ℕ → ℕ → ℕ
singles m n = 2 ^ n - 1 - bit_or m (m * 2) % 2 ^ n

-- where the last one of them ends; 0 where there is none
abbrev pub last_single : ℕ → ℕ → ℕ
last_single m n = 64 - count_leading_zeros 64 (singles m n)
