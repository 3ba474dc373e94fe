-- What an accepted writing makes, what is judged in every form, what is given back, and what the lent output then holds
-- (document 01, "Order of judging": write).
use Rattle.std.specs.Prelude.{ℕ, List, length, ltb, Ok, Err}
use Rattle.lists.specs.Over.{over}
use Rattle.outcome.specs.Outcome.{Outcome, none, refuse_if, map, later}
use Rattle.outcome.specs.Refusal.{area_too_short}
use Rattle.resolution.specs.declared.Resolution.{Resolution}
use Rattle.resolution.specs.Shapes.{screen_bytes}
use Rattle.resolution.specs.Choice.{with_resolution}
use Rattle.picture.specs.declared.FileWritten.{FileWritten}
use Rattle.picture.specs.declared.WriteAnswer.{WriteAnswer}

-- the file, the packed body's length and records (0 of an unpacked form)
pub record Writing : Type 0 where
  pub file : List ℕ
  pub body : ℕ
  pub records : ℕ

-- an unpacked form
abbrev pub raw_writing : List ℕ → Outcome Writing
raw_writing file = Ok (record { file = file; body = 0; records = 0 })

-- the least output of a writing: the longest file of any form
abbrev pub file_bytes : ℕ
file_bytes = 32128

-- the lengths of the screen and the output, judged before all else
abbrev pub judge_areas : {A : Type 0} → ℕ → ℕ → Outcome A → Outcome A
judge_areas screen out further =
    refuse_if (ltb screen screen_bytes) area_too_short (refuse_if (ltb out file_bytes) area_too_short further)

-- these, and then the resolution's number
unfoldable pub judge_writing : ℕ → ℕ → ℕ → Outcome Resolution
judge_writing screen out number = judge_areas screen out (with_resolution number (λ r. Ok r))

-- what is given of it besides the file
abbrev pub file_written : Writing → FileWritten
file_written w = record { length = length w.file; body = w.body; records = w.records }

-- C's answer of what is given: a refusal gives 0 in all else
abbrev pub given_write_answer : Outcome FileWritten → WriteAnswer
given_write_answer (Ok w) = record { refusal = none; length = w.length; body = w.body; records = w.records }
given_write_answer (Err why) = record { refusal = why; length = 0; body = 0; records = 0 }

abbrev pub write_answer : Outcome Writing → WriteAnswer
write_answer o = given_write_answer (map file_written o)

-- the file over the output's front; after a refusal the output as it was
abbrev pub write_output : Outcome Writing → List ℕ → List ℕ
write_output o out = later o (λ w. over w.file out) out
