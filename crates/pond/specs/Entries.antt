-- What a legend's entry says of its register's pixels to a party: sure, unsure or other (document 01, "pond reading";
-- document 02, ticket 8).
use Rattle.std.specs.Prelude.{ℕ, Bool, cond, ◌&&◌, leb, eqb}
use Rattle.legend.specs.declared.Legend.{Legend}
use Rattle.legend.specs.Entries.{class_of, confidence_of, owns}

-- an entry of the party, of the class
abbrev pub is_of_class : Legend → ℕ → ℕ → ℕ → Bool
is_of_class l party class v = owns l party v && eqb (class_of l v) class

-- 1 for a register of the class in an entry of the party, at or above the floor, else 0
unfoldable pub is_sure : Legend → ℕ → ℕ → ℕ → ℕ → ℕ
is_sure l party class floor v = cond (is_of_class l party class v) (cond (leb floor (confidence_of l v)) 1 0) 0

-- 1 for a register of the class in an entry of the party, below the floor, else 0
unfoldable pub is_unsure : Legend → ℕ → ℕ → ℕ → ℕ → ℕ
is_unsure l party class floor v = cond (is_of_class l party class v) (cond (leb floor (confidence_of l v)) 0 1) 0

-- 1 for every other register: of another class, or in an entry that the party does not own; else 0
unfoldable pub is_other : Legend → ℕ → ℕ → ℕ → ℕ
is_other l party class v = cond (is_of_class l party class v) 0 1
