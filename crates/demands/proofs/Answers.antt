-- An answer's refusal is its outcome's, unaltered: one law for each answer of files and rows. Line out and line in
-- answer with `refusal_of` itself.
use Rattle.std.specs.Prelude.{Ok, Err}
use mathlib.Core.Path.{◌≡◌, refl, sym, ap}
use Rattle.outcome.specs.declared.Refusal.{Refusal}
use Rattle.outcome.specs.Outcome.{Outcome, refusal_of}
use Rattle.packbits.specs.Row.{Row, row_answer}
use Rattle.bodies.specs.Unpacking.{UnpackedBody, unpacked_answer}
use Rattle.picture.specs.Reading.{Reading, read_answer}
use Rattle.picture.specs.Writing.{Writing, write_answer}

pub read_answer_lem : (o : Outcome Reading) → (read_answer o).refusal ≡ refusal_of o
read_answer_lem (Ok q) = refl
read_answer_lem (Err why) = refl

pub body-answer : (o : Outcome UnpackedBody) → (unpacked_answer o).refusal ≡ refusal_of o
body-answer (Ok u) = refl
body-answer (Err why) = refl

pub write-answer : (o : Outcome Writing) → (write_answer o).refusal ≡ refusal_of o
write-answer (Ok w) = refl
write-answer (Err why) = refl

pub row-answer : (o : Outcome Row) → (row_answer o).refusal ≡ refusal_of o
row-answer (Ok r) = refl
row-answer (Err why) = refl

-- so what an answer refuses is refused
pub refused-by : {A : Type 0} (o : Outcome A) (why : Refusal) → refusal_of o ≡ why → (why.number ≡ 0 → ⊥)
    → o ≡ Err why
refused-by (Ok a) why e some = absurd (some (ap (λ (w : Refusal). w.number) (sym e)))
refused-by (Err other) why e some = ap (λ (w : Refusal). Err w) e
