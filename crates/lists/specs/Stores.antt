-- A list after stores at scattered places.
use Rattle.std.specs.Prelude.{ℕ, zero, suc, List, set}

-- d after n stores: v k at the place at k, for k = 0, .., n - 1
unfoldable pub stores : ℕ → (ℕ → ℕ) → (ℕ → ℕ) → List ℕ → List ℕ
stores zero at v d = d
stores (suc n) at v d = set (stores n at v d) (at n) (v n)
