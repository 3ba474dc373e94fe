-- A reading beside one call of another: the legend is a parameter, and its type gives it 16 entries.
use mathlib.Core.Path.{◌≡◌, ap}
use mathlib.Core.List.{List}
use Prim.Native.Nat.{ℕ}
use mir.Val.{Val}
use denote.Laws.{Is}
use denote.Struct.Declared.{row}
use Rattle.legend.specs.declared.Legend.{Legend}
use Rattle.legend.specs.Entries.{WholeLegend}
use Rattle.legend.specs.Setting.{setting, releasing, legend_answer}
use Rattle.legend.specs.contracts.Legend as declared-legend
use Rattle.pond.specs.Reading.{pond_answer}
use Rattle.isolation.specs.declared.Question.{Question}
use Rattle.isolation.specs.Answers.{answer_to}
use Rattle.isolation.specs.Calls.{Request, set_entry, release_entry, outcome_of}
use Rattle.isolation.proofs.Isolation.{others-step}

-- from the relation that a parameter of the type has to its machine value
pub whole : (l : Legend) (vs : List Val) → Is (row declared-legend.the_type) l vs → WholeLegend l
whole l vs s = record {
  owners = s.1.1.0.1.0.1;
  classes = s.1.1.1.0.1.0.1;
  confidences = s.1.1.1.1.0.1.0.1;
}

module _ (l : Legend) (is : WholeLegend l) (s : List ℕ) (q : Question) (other : ℕ) (ne : other ≡ q.party → ⊥) where
  beside : (request : Request)
      → answer_to s q (legend_answer l (outcome_of l other request)).legend ≡ answer_to s q l
  beside request =
      ap pond_answer
      (others-step l is q.party (record { party = other; request = request }) ne s q.resolution q.rectangle
      q.class
      q.floor)

  pub beside-set : (v class confidence : ℕ)
      → answer_to s q (legend_answer l (setting l other v class confidence)).legend ≡ answer_to s q l
  unfolding outcome_of
  beside-set v class confidence = beside (set_entry v class confidence)

  pub beside-release : (v : ℕ) → answer_to s q (legend_answer l (releasing l other v)).legend ≡ answer_to s q l
  unfolding outcome_of
  beside-release v = beside (release_entry v)
