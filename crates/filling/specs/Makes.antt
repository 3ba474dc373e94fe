-- What whole records at the front of an input make, and where they stop at one at fault, over any relations "these
-- bytes are a whole record" and "this record is at fault".
use Rattle.std.specs.Prelude.{ℕ, ◌-◌, ◌≤◌, ◌<◌, List, [], ◌++◌, length}

-- `Makes Whole room input rest made`: records at the front of the input fill exactly `room` bytes, which are `made`,
-- and `rest` is the input behind them. A record stands there only where room is left, and makes no more than that.
-- `Whole input rest bytes` says that a whole record stands at the front of the input and makes these bytes.
pub data Makes (Whole : List ℕ → List ℕ → List ℕ → Type 0) : ℕ → List ℕ → List ℕ → List ℕ → Type 0 where
  -- nothing is left to fill
  full : {rest : List ℕ} → Makes Whole 0 rest rest []
  -- a record, and then the others
  and_record : {room : ℕ} {input next rest : List ℕ} (bytes : List ℕ) {made : List ℕ} → 0 < room
      → Whole input next bytes → length bytes ≤ room → Makes Whole (room - length bytes) next rest made
      → Makes Whole room input rest (bytes ++ made)

-- `Stops Whole Faulty room input number rest`: of `room` bytes to fill, whole records at the front of the input come
-- before one at fault with this number, which begins `rest`. `Faulty room input number` says that with so much room
-- left the record at the front of the input is at fault with this number.
pub data Stops (Whole : List ℕ → List ℕ → List ℕ → Type 0) (Faulty : ℕ → List ℕ → ℕ → Type 0)
    : ℕ → List ℕ → ℕ → List ℕ → Type 0 where
  here : {room number : ℕ} {input : List ℕ} → 0 < room → Faulty room input number
      → Stops Whole Faulty room input number input
  and_record : {room number : ℕ} {input next rest : List ℕ} (bytes : List ℕ) → 0 < room → Whole input next bytes
      → length bytes ≤ room → Stops Whole Faulty (room - length bytes) next number rest
      → Stops Whole Faulty room input number rest
