-- One record as it is written, by its control byte. No public contract cites it.
use Rattle.std.specs.Prelude.{ℕ, ◌+◌, ◌-◌, cond, List, ◌∷◌, take, ltb}

-- how many bytes of the row a record of control byte c, other than 128, stands for
unfoldable pub taken_by : ℕ → ℕ
taken_by c = cond (ltb c 128) (c + 1) (257 - c)

-- how many bytes of the row follow its control byte
unfoldable pub shown_by : ℕ → ℕ
shown_by c = cond (ltb c 128) (c + 1) 1

-- the record of control byte c, for the front of the row
abbrev pub record_of : ℕ → List ℕ → List ℕ
record_of c row = c ∷ take (shown_by c) row
