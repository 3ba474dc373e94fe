-- What converting a DEGAS file, and converting it back, promises (document 02, ticket 7).
use Rattle.std.specs.Prelude.{ℕ, ◌-◌, ◌≡◌, List, length, take, drop, Err}
use Rattle.lists.specs.Over.{over}
use Rattle.outcome.specs.Outcome.{none}
use Rattle.picture.specs.declared.WriteAnswer.{WriteAnswer}
use Rattle.picture.specs.Writing.{Writing, write_answer, write_output}
use Rattle.degas.specs.Layout.{tail_length, plain_length, plain_file}
use Rattle.conversion.specs.declared.Conversion.{Conversion}
use Rattle.conversion.specs.declared.Conversion.TheVariants.{ToElite, ToPlain}
use Rattle.conversion.specs.Converting.{convert}
use Rattle.conversion.specs.Accepts.{AcceptsToElite, plain_given, WritesElite, AcceptsToPlain, elite_given}
use Rattle.demands.specs.Refusals.{Refuses}
use Rattle.statements.specs.declared.ConversionRoundTrip.{ConversionRoundTrip}
use Rattle.statements.specs.Blank.{zeros}

-- "Elite packed where a packed body exists, Elite raw where number 9 would come, with a zero tail": the output begins
-- with the file, whose last 32 bytes are zero, and the answer is the writing's
pub record WritesEliteFile {file : List ℕ} (f : AcceptsToElite file) (a : WriteAnswer) (out after : List ℕ)
    : Type 0 where
  pub written : Writing
  pub form : WritesElite f.accepts.resolution (plain_given f).picture (plain_given f).screen written
  pub accepted : a.refusal ≡ none
  pub later : after ≡ over written.file out
  pub total : a.length ≡ length written.file
  pub body : a.body ≡ written.body
  pub records : a.records ≡ written.records
  pub tail : take tail_length (drop (a.length - tail_length) after) ≡ zeros tail_length

-- the plain file of the same picture and screen
pub record WritesPlainFile {file : List ℕ} (f : AcceptsToPlain file) (a : WriteAnswer) (out after : List ℕ)
    : Type 0 where
  pub accepted : a.refusal ≡ none
  pub later : after ≡ over (plain_file (elite_given f).picture (elite_given f).screen) out
  pub total : a.length ≡ plain_length
  pub body : a.body ≡ 0
  pub records : a.records ≡ 0

-- the whole answer of `conversion::convert`
pub record AnswersConversion (to : Conversion) (file : List ℕ) (a : WriteAnswer) (out after : List ℕ) : Type 0 where
  pub answer : a ≡ write_answer (convert to file (length out))
  pub later : after ≡ write_output (convert to file (length out)) out

-- "The way back must restore each plain file byte for byte": both conversions are accepted, and the second output
-- begins with the file
pub record Restores (file : List ℕ) (b : ConversionRoundTrip) (into after : List ℕ) : Type 0 where
  pub to-elite : b.to_elite.refusal ≡ none
  pub to-plain : b.to_plain.refusal ≡ none
  pub total : b.to_plain.length ≡ length file
  pub later : after ≡ over file into

-- the whole answer: that of the conversion to Elite, and of the output's front converted to plain; where the first is
-- refused, that refusal, and the second output as it was
pub record AnswersRestoring (file : List ℕ) (b : ConversionRoundTrip) (out elite into after : List ℕ) : Type 0 where
  pub to-elite : AnswersConversion ToElite file b.to_elite out elite
  pub to-plain : b.to_elite.refusal.number ≡ 0
      → AnswersConversion ToPlain (take b.to_elite.length elite) b.to_plain into after
  pub unconverted : Refuses b.to_elite.refusal
      → (b.to_plain ≡ write_answer (Err b.to_elite.refusal)) × (after ≡ into)
