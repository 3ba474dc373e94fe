-- The relation "a byte string, however long, unpacks to a row" (document 01, "Packed rows").
use Rattle.std.specs.Prelude.{ℕ, suc, ◌+◌, ◌-◌, ◌<◌, ◌≡◌, List, [], ◌∷◌, ◌++◌, length, replicate}

-- `Unpacks body row n`: the n records of body fill row with exactly its bytes, none lacks bytes or crosses the row's
-- end, and the record that fills the row is the last.
pub data Unpacks : List ℕ → List ℕ → ℕ → Type 0 where
  -- a full row takes no further record
  full : Unpacks [] [] 0
  -- control byte x, 0 to 127: the next x + 1 bytes as they stand
  literal : {x : ℕ} (bytes : List ℕ) {body row : List ℕ} {n : ℕ} → x < 128 → length bytes ≡ x + 1 → Unpacks body row n
      → Unpacks (x ∷ bytes ++ body) (bytes ++ row) (suc n)
  -- control byte x, signed -127 to -1, unsigned 129 to 255: the next byte -x + 1 times, unsigned 257 - x
  repeat : {x byte : ℕ} {body row : List ℕ} {n : ℕ} → 128 < x → x < 256 → Unpacks body row n
      → Unpacks (x ∷ byte ∷ body) (replicate (257 - x) byte ++ row) (suc n)
  -- control byte -128, unsigned 128, does nothing; it stands only before a row that is not yet full
  nothing : {b : ℕ} {body row : List ℕ} {n : ℕ} → Unpacks body (b ∷ row) n → Unpacks (128 ∷ body) (b ∷ row) (suc n)
