-- The relation "a byte string is, end to end, one such string for each row" (document 01, "Packed rows").
use Rattle.std.specs.Prelude.{ℕ, ◌+◌, List, [], ◌∷◌, ◌++◌}
use Rattle.packbits.specs.Unpacks.{Unpacks}

-- `UnpacksRows body rows n`: body is one string for each row, in turn, each of which unpacks to its row, with n records
-- in all
pub data UnpacksRows : List ℕ → List (List ℕ) → ℕ → Type 0 where
  none : UnpacksRows [] [] 0
  more : {body bodies row : List ℕ} {rows : List (List ℕ)} {n m : ℕ} → Unpacks body row n → UnpacksRows bodies rows m
      → UnpacksRows (body ++ bodies) (row ∷ rows) (n + m)
