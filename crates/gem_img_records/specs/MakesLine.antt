-- The relation "these bytes of a file make this line" (source 002; document 02, ticket 11).
use Rattle.std.specs.Prelude.{ℕ, ◌-◌, ◌≤◌, ◌<◌, List, [], ◌++◌, length}
use Rattle.gem_img_records.specs.WholeRecord.{WholeRecord}

-- `MakesLine pattern room input rest line`: records at the front of the input fill exactly `room` bytes, which are
-- `line`, and `rest` is the input behind them. A record stands in the line only where room is left, and makes no more
-- than that.
pub data MakesLine (pattern : ℕ) : ℕ → List ℕ → List ℕ → List ℕ → Type 0 where
  -- the line is full
  full : {rest : List ℕ} → MakesLine pattern 0 rest rest []
  -- a record, and then the rest of the line
  and_record : {room : ℕ} {input next rest : List ℕ} (bytes : List ℕ) {line : List ℕ} → 0 < room
      → WholeRecord pattern input next bytes → length bytes ≤ room
      → MakesLine pattern (room - length bytes) next rest line → MakesLine pattern room input rest (bytes ++ line)
