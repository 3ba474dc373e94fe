-- Rows of one width.
use Rattle.std.specs.Prelude.{◌≡◌, List, [], ◌∷◌, ℕ, length}

-- each row has this width
abbrev pub Wide : ℕ → List (List ℕ) → Type 0
Wide width [] = Unit {0}
Wide width (row ∷ rows) = (length row ≡ width) × Wide width rows
