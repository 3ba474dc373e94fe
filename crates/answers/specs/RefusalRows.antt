-- The plane row of an answer's refusal, and its good bytes: where both are 0 (document 02, ticket 3).
use Rattle.std.specs.Prelude.{ℕ, ◌≡◌, true, List}
use Rattle.outcome.specs.declared.Refusal.{Refusal}
use Rattle.degas.specs.Opening.{is_packed}
use Rattle.reader.specs.Reading.{kind_degas}

-- both are 0
abbrev pub BothZero : Refusal → Type 0
BothZero why = (why.plane_row ≡ 0) × (why.good_bytes ≡ 0)

-- both are 0 unless the number is one of the given ones; an acceptance has the number 0
abbrev pub ZeroUnless : (ℕ → Type 0) → Refusal → Type 0
ZeroUnless Given why = (Given why.number → ⊥) → BothZero why

-- a file whose plane rows are packed row by row
abbrev pub PackedDegas : ℕ → List ℕ → Type 0
PackedDegas kind file = (kind ≡ kind_degas) × (is_packed file ≡ true)
