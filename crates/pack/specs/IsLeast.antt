-- The least body of a row: the shortest byte string that unpacks to it, and among equally short ones the first in
-- dictionary order (document 01, "Packed rows": the writer's row).
use Rattle.std.specs.Prelude.{ℕ, ◌<◌, ◌≡◌, ◌⊎◌, List, [], ◌∷◌, length}
use Rattle.packbits.specs.Unpacks.{Unpacks}

-- dictionary order of unsigned bytes: the first string stands before the second or equals it
pub data Dictionary : List ℕ → List ℕ → Type 0 where
  end : {b : List ℕ} → Dictionary [] b
  less : {x y : ℕ} {a b : List ℕ} → x < y → Dictionary (x ∷ a) (y ∷ b)
  same : {x : ℕ} {a b : List ℕ} → Dictionary a b → Dictionary (x ∷ a) (x ∷ b)

-- shorter, or as long and no later in dictionary order
abbrev pub Preferred : List ℕ → List ℕ → Type 0
Preferred a b = (length a < length b) ⊎ ((length a ≡ length b) × Dictionary a b)

-- body unpacks to the row, with `records` records, and is preferred to every byte string that does
pub record IsLeast (row body : List ℕ) (records : ℕ) : Type 0 where
  pub unpacks : Unpacks body row records
  pub first : {b : List ℕ} {n : ℕ} → Unpacks b row n → Preferred body b
