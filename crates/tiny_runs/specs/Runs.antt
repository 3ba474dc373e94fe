-- One run of a Tiny file: what a control byte says, and its judgement (document 02, ticket 1; source 001, "Control byte
-- meanings").
use Rattle.std.specs.Prelude.{ℕ, ◌+◌, ◌-◌, Bool, true, false, cond, ◌||◌, List, [], ◌∷◌, length, get_or, take, replicate, ltb, eqb}
use Rattle.std.specs.Prelude.{Result, Ok, Err}
use Rattle.outcome.specs.declared.Reason.{Reason}
use Rattle.outcome.specs.Refusal.{undefined_control, run_too_long, number_of}
use Rattle.words.specs.Word.{word_at}
use Rattle.tiny_runs.specs.declared.Run.{Run}

-- What stands at a control byte.
pub record Standing : Type 0 where
  -- its fault, or 0
  pub fault : ℕ
  -- whether it repeats one data word
  pub repeats : Bool
  -- the words that it makes
  pub count : ℕ
  -- what it takes of each section
  pub controls : ℕ
  pub datas : ℕ

-- the long counts are 128 to 32,767
abbrev pub least_count : ℕ
least_count = 128

abbrev pub most_count : ℕ
most_count = 32767

-- a run of `count` words, which takes `controls` control bytes, and one data word if it repeats, else as many as it
-- makes
abbrev pub defined : Bool → ℕ → ℕ → Standing
defined repeats count controls =
    record { fault = 0; repeats = repeats; count = count; controls = controls; datas = cond repeats 1 count }

-- a run at fault
abbrev pub faulty : ℕ → Standing
faulty number = record { fault = number; repeats = false; count = 0; controls = 0; datas = 0 }

-- a run that the code answers, or why there is none
abbrev pub standing_of : Result Run Reason → Standing
standing_of (Ok run) = record {
  fault = 0;
  repeats = run.repeats;
  count = run.count;
  controls = run.controls.0;
  datas = run.datas.0;
}
standing_of (Err reason) = faulty (number_of reason)

-- The count of a long run is the word at the front of `rest`, the control bytes behind the run's first. It must lie
-- there whole; it is a count and no run of its own.
unfoldable pub long_run : Bool → List ℕ → Standing
long_run repeats rest =
    cond (ltb (length rest) 2) (faulty run_too_long)
    (cond (ltb (word_at rest 0) least_count || ltb most_count (word_at rest 0)) (faulty undefined_control)
    (defined repeats (word_at rest 0) 3))

-- The run that control byte x begins, `rest` being the control bytes behind it. Signed, x is 0 for a long repeat, 1 for
-- a long literal, 2 to 127 for a repeat of x, -127 to -1 (unsigned 129 to 255) for a literal of -x; -128 (unsigned 128)
-- is not defined.
unfoldable pub run_of : ℕ → List ℕ → Standing
run_of x rest =
    cond (ltb x 2) (long_run (eqb x 0) rest)
    (cond (ltb x 128) (defined true x 1)
    (cond (eqb x 128) (faulty undefined_control)
    (defined false (256 - x) 1)))

-- with `left` data words left, and room for `room` words, a run past either is at fault
abbrev pub fitted : Standing → ℕ → ℕ → Standing
fitted r left room = cond (ltb room r.count || ltb left r.datas) (faulty run_too_long) r

-- the run at the front of the control bytes, judged in the ticket's order: 12 for a count cut short, 11, 12 for a run
-- past
unfoldable pub run_at : List ℕ → ℕ → ℕ → Standing
run_at [] left room = faulty run_too_long
run_at (x ∷ rest) left room = fitted (run_of x rest) left room

-- the words that it makes, from the data words that are left
unfoldable pub words_made : Standing → List ℕ → List ℕ
words_made r datas = cond r.repeats (replicate r.count (get_or datas 0 0)) (take r.count datas)

-- the data word from which a run makes its word k, after `taken` data words: a repeat takes the same each time
abbrev pub source_of : Bool → ℕ → ℕ → ℕ
source_of repeats taken k = cond repeats taken (taken + k)
