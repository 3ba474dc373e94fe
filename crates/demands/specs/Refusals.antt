-- What a refusal leaves and gives: each lent area as it was, and zero in all but the refusal itself (document 00,
-- demand 1; document 01, "Numbers given back").
use Rattle.std.specs.Prelude.{ℕ, ◌≡◌, List}
use Rattle.outcome.specs.declared.Refusal.{Refusal}
use Rattle.outcome.specs.Outcome.{Outcome, later, refusal_of}
use Rattle.packbits.specs.Row.{Row, row_answer, row_output}
use Rattle.bodies.specs.Packing.{PackedBody, packed_answer, packed_output}
use Rattle.bodies.specs.Reading.{body_area}
use Rattle.bodies.specs.Unpacking.{UnpackedBody, unpacked_answer}
use Rattle.picture.specs.Tables.{no_picture}
use Rattle.picture.specs.Reading.{Reading, read_answer, read_area}
use Rattle.picture.specs.Writing.{Writing, write_answer, write_output}

-- a refusal has a number
abbrev pub Refuses : Refusal → Type 0
Refuses why = why.number ≡ 0 → ⊥

-- an operation that reports no value, with an area that an accepted value would change
abbrev pub Kept : {A B : Type 0} → Outcome A → (A → B) → B → Type 0
Kept o gives area = Refuses (refusal_of o) → later o gives area ≡ area

-- a row packed or unpacked, with its output
abbrev pub RowRefusal : Outcome Row → List ℕ → Type 0
RowRefusal o out =
    Refuses (row_answer o).refusal → (row_output o out ≡ out) × ((row_answer o).bytes ≡ 0) × ((row_answer o).records ≡ 0)

-- the body of a raster packed, with its output from an offset on
abbrev pub BodyRefusal : Outcome PackedBody → ℕ → List ℕ → Type 0
BodyRefusal o at out =
    Refuses (packed_answer o).refusal
    → (packed_output o at out ≡ out) × ((packed_answer o).body ≡ 0) × ((packed_answer o).records ≡ 0)

-- the body of a raster read, and so a plate, with the area for its image
abbrev pub BodyReadRefusal : Outcome UnpackedBody → List ℕ → Type 0
BodyReadRefusal o area =
    Refuses (unpacked_answer o).refusal
    → (body_area o area ≡ area) × ((unpacked_answer o).body ≡ 0) × ((unpacked_answer o).records ≡ 0)

-- a reading, with the area for its screen
abbrev pub ReadRefusal : Outcome Reading → List ℕ → Type 0
ReadRefusal o area =
    Refuses (read_answer o).refusal
    → (read_area o area ≡ area) × ((read_answer o).picture ≡ no_picture) × ((read_answer o).body ≡ 0)
    × ((read_answer o).records ≡ 0)

-- a writing, with its output
abbrev pub WriteRefusal : Outcome Writing → List ℕ → Type 0
WriteRefusal o out =
    Refuses (write_answer o).refusal
    → (write_output o out ≡ out) × ((write_answer o).length ≡ 0) × ((write_answer o).body ≡ 0) × ((write_answer o).records ≡ 0)
