-- Where a line stops at a record at fault, and with which number (document 02, ticket 11: "at the first record at fault
-- 6 for a scanline run of under 4 bytes, 22 for a bad one, 7, 6").
use Rattle.std.specs.Prelude.{ℕ, ◌+◌, ◌-◌, ◌*◌, ◌≤◌, ◌<◌, List, [], ◌∷◌, length}
use Rattle.gem_img_records.specs.WholeRecord.{WholeRecord}

-- `FaultyRecord pattern room input number`: with so much room left in its line, the record at the front of the input is
-- at fault with this number. A scanline run may not stand here. Of another record the line's end is judged before
-- missing input.
pub data FaultyRecord (pattern room : ℕ) : List ℕ → ℕ → Type 0 where
  -- no byte is left
  no_byte : FaultyRecord pattern room [] 6
  -- a lone 00
  lone : FaultyRecord pattern room (0x00 ∷ []) 6
  -- a scanline run of under 4 bytes
  run_cut : {rest : List ℕ} → length rest < 2 → FaultyRecord pattern room (0x00 ∷ 0x00 ∷ rest) 6
  -- a scanline run out of place
  run_misplaced : {rest : List ℕ} → 2 ≤ length rest → FaultyRecord pattern room (0x00 ∷ 0x00 ∷ rest) 22
  -- a solid run past the line's end
  clear_crosses : {n : ℕ} {rest : List ℕ} → 0 < n → n < 128 → room < n → FaultyRecord pattern room (n ∷ rest) 7
  set_crosses : {n : ℕ} {rest : List ℕ} → 0 < n → n < 128 → room < n
      → FaultyRecord pattern room ((128 + n) ∷ rest) 7
  -- a literal without its count, past the line's end, or of which bytes are missing
  literal_lone : FaultyRecord pattern room (0x80 ∷ []) 6
  literal_crosses : {n : ℕ} {rest : List ℕ} → room < n → FaultyRecord pattern room (0x80 ∷ n ∷ rest) 7
  literal_cut : {n : ℕ} {rest : List ℕ} → n ≤ room → length rest < n → FaultyRecord pattern room (0x80 ∷ n ∷ rest) 6
  -- a pattern run whose whole length is past the line's end, or of whose pattern bytes are missing
  pattern_crosses : {n : ℕ} {rest : List ℕ} → 0 < n → room < n * pattern
      → FaultyRecord pattern room (0x00 ∷ n ∷ rest) 7
  pattern_cut : {n : ℕ} {rest : List ℕ} → 0 < n → n * pattern ≤ room → length rest < pattern
      → FaultyRecord pattern room (0x00 ∷ n ∷ rest) 6

-- `StopsLine pattern room input number rest`: of a line of `room` bytes, whole records at the front of the input come
-- before one at fault with this number, which begins `rest`
pub data StopsLine (pattern : ℕ) : ℕ → List ℕ → ℕ → List ℕ → Type 0 where
  here : {room number : ℕ} {input : List ℕ} → 0 < room → FaultyRecord pattern room input number
      → StopsLine pattern room input number input
  and_record : {room number : ℕ} {input next rest : List ℕ} (bytes : List ℕ) → 0 < room
      → WholeRecord pattern input next bytes → length bytes ≤ room
      → StopsLine pattern (room - length bytes) next number rest → StopsLine pattern room input number rest
