-- The relation "these bytes are a whole record of a data map, which makes these bytes", from the words of sources 000
-- and 001.
use Rattle.std.specs.Prelude.{ℕ, ◌+◌, ◌-◌, ◌≤◌, ◌<◌, ◌≡◌, List, ◌∷◌, ◌++◌, length, replicate}

-- `WholeRecord input rest bytes`: a whole record stands at the front of the input and makes these bytes; `rest` is the
-- input behind it
pub data WholeRecord : List ℕ → List ℕ → List ℕ → Type 0 where
  -- x from 0 to 127: the next x + 1 bytes literally
  literal : {x : ℕ} (bytes : List ℕ) {rest : List ℕ} → x < 128 → length bytes ≡ x + 1
      → WholeRecord (x ∷ (bytes ++ rest)) rest bytes
  -- x = -n from -128 to -1, the byte 256 - n: the next byte n + 2 times
  repeat : {n byte : ℕ} {rest : List ℕ} → 1 ≤ n → n ≤ 128
      → WholeRecord ((256 - n) ∷ byte ∷ rest) rest (replicate (n + 2) byte)
