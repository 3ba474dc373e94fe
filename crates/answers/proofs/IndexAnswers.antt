-- An answer's refusal is its outcome's, unaltered: one law for each answer of the index. The legend's has `refusal_of`
-- itself.
use Rattle.std.specs.Prelude.{Ok, Err}
use mathlib.Core.Path.{◌≡◌, refl}
use mathlib.Core.List.{List}
use Prim.Native.Nat.{ℕ}
use Rattle.outcome.specs.Outcome.{Outcome, refusal_of}
use Rattle.tally.specs.Counts.{tally_answer}
use Rattle.colour.specs.declared.Rgb.{Rgb}
use Rattle.colour.specs.Shown.{colour_answer}
use Rattle.pond.specs.declared.PondCounts.{PondCounts}
use Rattle.pond.specs.Reading.{pond_answer}

pub tally-answer : (o : Outcome (List ℕ)) → (tally_answer o).refusal ≡ refusal_of o
tally-answer (Ok c) = refl
tally-answer (Err why) = refl

pub colour-answer : (o : Outcome Rgb) → (colour_answer o).refusal ≡ refusal_of o
colour-answer (Ok c) = refl
colour-answer (Err why) = refl

pub pond-answer : (o : Outcome PondCounts) → (pond_answer o).refusal ≡ refusal_of o
pond-answer (Ok p) = refl
pond-answer (Err why) = refl
