-- The relation "the record at the front of a data map's bytes is at fault, with this number" (document 02, ticket 5).
use Rattle.std.specs.Prelude.{ℕ, ◌+◌, ◌-◌, ◌≤◌, ◌<◌, List, [], ◌∷◌, length}

-- `FaultyRecord room input number`: with `room` bytes still to make, the record at the front of the input is at fault
-- with this number. The end of what is made is judged before missing input.
pub data FaultyRecord (room : ℕ) : List ℕ → ℕ → Type 0 where
  -- no byte is left
  no_byte : FaultyRecord room [] 6
  -- a literal past the end, or of which bytes are missing
  literal_crosses : {x : ℕ} {rest : List ℕ} → x < 128 → room < x + 1 → FaultyRecord room (x ∷ rest) 7
  literal_cut : {x : ℕ} {rest : List ℕ} → x < 128 → x + 1 ≤ room → length rest < x + 1 → FaultyRecord room (x ∷ rest) 6
  -- a repeat past the end, or without the byte that it repeats
  repeat_crosses : {n : ℕ} {rest : List ℕ} → 1 ≤ n → n ≤ 128 → room < n + 2 → FaultyRecord room ((256 - n) ∷ rest) 7
  repeat_cut : {n : ℕ} → 1 ≤ n → n ≤ 128 → n + 2 ≤ room → FaultyRecord room ((256 - n) ∷ []) 6
