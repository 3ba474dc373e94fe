-- The least bodies of rows, end to end: each row's body starts where the body before it ended (document 01, "Packed
-- rows").
use Rattle.std.specs.Prelude.{ℕ, ◌+◌, List, [], ◌∷◌, ◌++◌}
use Rattle.pack.specs.IsLeast.{IsLeast}
use Rattle.pack.specs.Least.{least, least_records}

-- `LeastRowsOf body rows n`: body is, end to end, the least body of each row in turn, with n records in all
pub data LeastRowsOf : List ℕ → List (List ℕ) → ℕ → Type 0 where
  no_row : LeastRowsOf [] [] 0
  next_row : {body bodies row : List ℕ} {rows : List (List ℕ)} {n m : ℕ} → IsLeast row body n → LeastRowsOf bodies rows m
      → LeastRowsOf (body ++ bodies) (row ∷ rows) (n + m)

-- the same computed, of rows of at most 128 bytes; that it is so: proofs/LeastRows.antt, `least-rows-of`
unfoldable pub least_rows : List (List ℕ) → List ℕ
least_rows [] = []
least_rows (row ∷ rows) = least row ++ least_rows rows

-- the number of their records
unfoldable pub least_rows_records : List (List ℕ) → ℕ
least_rows_records [] = 0
least_rows_records (row ∷ rows) = least_records row + least_rows_records rows
