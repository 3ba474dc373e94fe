-- One list written over another.
use Rattle.std.specs.Prelude.{ℕ, List, ◌++◌, length, take, drop}

-- d with the elements of s over its front; past them d is as it was
abbrev pub over : {A : Type 0} → List A → List A → List A
over s d = s ++ drop (length s) d

-- d with the elements of s over it from an offset on; before and past them d is as it was
abbrev pub over_at : {A : Type 0} → ℕ → List A → List A → List A
over_at at s d = take at d ++ over s (drop at d)
