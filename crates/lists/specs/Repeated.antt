-- A list repeated.
use Rattle.std.specs.Prelude.{ℕ, zero, suc, List, [], ◌++◌}

-- n times the list s, end to end
unfoldable pub repeated : {A : Type 0} → ℕ → List A → List A
repeated zero s = []
repeated (suc n) s = repeated n s ++ s
