-- The relation "these bytes are a whole record, which makes these bytes of a line", from source 002's words.
use Rattle.std.specs.Prelude.{ℕ, ◌+◌, ◌<◌, ◌≡◌, List, ◌∷◌, ◌++◌, length, replicate}
use Rattle.lists.specs.Repeated.{repeated}

-- `WholeRecord pattern input rest bytes`: with patterns of so many bytes, a whole record, no scanline run, stands at
-- the front of the input and makes these bytes; `rest` is the input behind it
pub data WholeRecord (pattern : ℕ) : List ℕ → List ℕ → List ℕ → Type 0 where
  -- the high bit is 0 and the low 7 bits are n: n bytes of cleared pixels
  clear_run : {n : ℕ} {rest : List ℕ} → 0 < n → n < 128 → WholeRecord pattern (n ∷ rest) rest (replicate n 0x00)
  -- the high bit is 1 and the low 7 bits are n: n bytes of set pixels
  set_run : {n : ℕ} {rest : List ℕ} → 0 < n → n < 128
      → WholeRecord pattern ((128 + n) ∷ rest) rest (replicate n 0xFF)
  -- 80, a count, and so many bytes, which may be none, used literally
  literal : (bytes : List ℕ) {rest : List ℕ} → length bytes < 256
      → WholeRecord pattern (0x80 ∷ length bytes ∷ (bytes ++ rest)) rest bytes
  -- 00, a count above 0, and a pattern, used so many times
  pattern_run : {n : ℕ} (bytes : List ℕ) {rest : List ℕ} → length bytes ≡ pattern → 0 < n → n < 256
      → WholeRecord pattern (0x00 ∷ n ∷ (bytes ++ rest)) rest (repeated n bytes)
