-- What writing a picture and reading it back promises (document 00, demand 2).
use Rattle.std.specs.Prelude.{ℕ, ◌≡◌, ◌⊎◌, List, take, Err}
use Rattle.outcome.specs.Outcome.{none}
use Rattle.resolution.specs.declared.Resolution.{Resolution}
use Rattle.picture.specs.declared.Picture.{Picture}
use Rattle.picture.specs.Reading.{read_answer}
use Rattle.degas.specs.LeastBody.{NoBodyBelow}
use Rattle.writer.specs.Writing.{form_plain, form_elite, form_packed, form_neochrome}
use Rattle.demands.specs.Refusals.{Refuses}
use Rattle.demands.specs.RoundTrips.{kind_of, picture_back}
use Rattle.statements.specs.declared.RoundTrip.{RoundTrip}
use Rattle.statements.specs.Reading.{SameRegisters, AnswersRead}
use Rattle.statements.specs.Writing.{AnswersWrite}

-- forms 1, 2 and 4 are written whatever the screen
abbrev pub Raw : ℕ → Type 0
Raw form = (form ≡ form_plain) ⊎ ((form ≡ form_elite) ⊎ (form ≡ form_neochrome))

-- and form 3 where a byte string under 32,000 bytes unpacks to it
abbrev pub IsWritten : ℕ → Resolution → List ℕ → Type 0
IsWritten form r screen = Raw form ⊎ ((form ≡ form_packed) × (NoBodyBelow r screen → ⊥))

-- the same resolution and palette, the tail that document 01 names for the form, the counts that the writing reported,
-- and every register of every pixel
pub record ReadsBack (form : ℕ) (p : Picture) (screen : List ℕ) (b : RoundTrip) (after : List ℕ) : Type 0 where
  pub accepted : b.read.refusal ≡ none
  pub resolution : b.read.picture.resolution ≡ p.resolution
  pub palette : b.read.picture.palette ≡ p.palette
  pub tail : b.read.picture ≡ picture_back form p
  pub body : b.read.body ≡ b.written.body
  pub records : b.read.records ≡ b.written.records
  pub registers : SameRegisters after screen

-- the whole answer: that of the writing, and of reading the output's front as a file; where the writing is refused,
-- that refusal, and the area as it was
pub record AnswersRoundTrip (form : ℕ) (p : Picture) (screen : List ℕ) (b : RoundTrip) (out file area after : List ℕ)
    : Type 0 where
  pub write : AnswersWrite form p screen b.written out file
  pub read : b.written.refusal.number ≡ 0
      → AnswersRead (kind_of form) (take b.written.length file) b.read area after
  pub unread : Refuses b.written.refusal → (b.read ≡ read_answer (Err b.written.refusal)) × (after ≡ area)
