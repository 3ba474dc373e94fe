-- Control bytes and data words expanded, run by run (document 02, ticket 1).
use Rattle.std.specs.Prelude.{ℕ, zero, suc, ◌+◌, ◌-◌, ◌/◌, ◌≡◌, cond, List, [], ◌∷◌, ◌++◌, length, drop, eqb}
use Rattle.outcome.specs.Refusal.{number_if}
use Rattle.words.specs.Word.{words_at}
use Rattle.tiny_runs.specs.declared.Expanded.{Expanded}
use Rattle.tiny_runs.specs.Runs.{Standing, run_at, words_made}

-- How far expanding came.
pub record Expansion : Type 0 where
  -- control bytes used, which is where the run at fault begins
  pub controls : ℕ
  -- data words used
  pub datas : ℕ
  -- whole runs
  pub runs : ℕ
  -- the words that they make
  pub made : List ℕ
  -- the fault of the run at which it stopped; 0: no control byte is left
  pub fault : ℕ

-- no further run: the next is at this fault or, with 0, no control byte is left
abbrev pub no_run : ℕ → Expansion
no_run number = record { controls = 0; datas = 0; runs = 0; made = []; fault = number }

-- a whole run, which makes these words, before further expansion
abbrev pub run_before : Standing → List ℕ → Expansion → Expansion
run_before r made p = record {
  controls = r.controls + p.controls;
  datas = r.datas + p.datas;
  runs = suc p.runs;
  made = made ++ p.made;
  fault = p.fault;
}

-- A whole run, and then what `next` makes of the control bytes, the data words and the room that it leaves; a run at
-- fault ends it.
unfoldable pub run_step : Standing → List ℕ → List ℕ → ℕ → (List ℕ → List ℕ → ℕ → Expansion) → Expansion
run_step r controls datas room next =
    cond (eqb r.fault 0)
    (run_before r (words_made r datas)
    (next (drop r.controls controls) (drop r.datas datas) (room - r.count)))
    (no_run r.fault)

-- Each run takes a control byte at least, so their number bounds the recursion.
unfoldable pub expand_within : ℕ → List ℕ → List ℕ → ℕ → Expansion
expand_within zero controls datas room = no_run 0
expand_within (suc bound) [] datas room = no_run 0
expand_within (suc bound) (x ∷ rest) datas room =
    run_step (run_at (x ∷ rest) (length datas) room) (x ∷ rest) datas room (λ c d r. expand_within bound c d r)

-- how far expanding these control bytes and data words comes, with room for `room` words
unfoldable pub expand : List ℕ → List ℕ → ℕ → Expansion
expand controls datas room = expand_within (length controls) controls datas room

-- the same with the data words that lie whole in a section's bytes
abbrev pub expand_section : List ℕ → List ℕ → ℕ → Expansion
expand_section controls section room = expand controls (words_at (length section / 2) section 0) room

-- what the code answers of it: its counts and its fault
pub record Counted (e : Expanded) (p : Expansion) : Type 0 where
  pub fault : number_if e.fault ≡ p.fault
  pub controls : e.controls.0 ≡ p.controls
  pub datas : e.datas.0 ≡ p.datas
  pub runs : e.runs ≡ p.runs
  pub words : e.words ≡ length p.made
