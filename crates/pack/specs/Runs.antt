-- The run of equal bytes at the start of a suffix, and bytes compared as one number. No public contract cites it.
use Rattle.std.specs.Prelude.{ℕ, suc, ◌+◌, ◌*◌, ◌/◌, ◌<◌, ◌≡◌, cond, List, [], ◌∷◌, eqb, length, drop}
use Rattle.std.specs.Int.Count.{count_trailing_zeros}

-- how many bytes equal to x come first
unfoldable pub leading : ℕ → List ℕ → ℕ
leading x [] = 0
leading x (y ∷ s) = cond (eqb x y) (suc (leading x s)) 0

-- where the bytes x from the place n on end
abbrev pub end_of : ℕ → List ℕ → ℕ → ℕ
end_of x row n = n + leading x (drop n row)

-- the length of the first run
abbrev pub run_length : List ℕ → ℕ
run_length [] = 0
run_length (x ∷ s) = suc (leading x s)

-- bytes as one number, the first one lowest
abbrev pub little_endian : List ℕ → ℕ
little_endian [] = 0
little_endian (x ∷ s) = little_endian s * 256 + x

-- d tells which of the bytes s is the first other than x: it is 0 where there is none, and otherwise has eight zeros at
-- its low end for each byte before that one
pub record FirstOther (x : ℕ) (s : List ℕ) (d : ℕ) : Type 0 where
  pub none : d ≡ 0 → leading x s ≡ length s
  pub some : (d ≡ 0 → ⊥) → leading x s < length s
  pub place : count_trailing_zeros (length s * 8) d / 8 ≡ leading x s
