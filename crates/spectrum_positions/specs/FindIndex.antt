-- Source 000's C function FindIndex, as it stands there. It is no part of a contract: proofs/FindIndex.antt shows that
-- the ticket's rule is the same.
use Rattle.std.specs.Prelude.{ℕ, ◌+◌, ◌-◌, ◌*◌, ◌%◌, cond, ◌&&◌, ltb, leb, eqb}

-- x1 of the function
unfoldable pub change_column : ℕ → ℕ
change_column c = cond (eqb (c % 2) 1) (10 * c - 5) (10 * c + 1)

unfoldable pub find_index : ℕ → ℕ → ℕ
find_index x c =
    cond (leb (change_column c) x && ltb x (change_column c + 160)) (c + 16)
    (cond (leb (change_column c + 160) x) (c + 32)
    c)
