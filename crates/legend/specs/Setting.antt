-- An entry of a legend set and released by a party (document 02, ticket 8).
use Rattle.std.specs.Prelude.{ℕ, Bool, not, ◌&&◌, Ok}
use Rattle.outcome.specs.Outcome.{Outcome, refuse_if, later, refusal_of}
use Rattle.outcome.specs.Refusal.{out_of_range, not_owned}
use Rattle.legend.specs.declared.Legend.{Legend}
use Rattle.legend.specs.declared.LegendAnswer.{LegendAnswer}
use Rattle.legend.specs.Entries.{free, is_party, owns, is_anothers, register_fits, class_fits, confidence_fits}
use Rattle.legend.specs.Entries.{legend_fits, with_entry}

-- a party and a register that are such
abbrev pub call_in_range : ℕ → ℕ → Bool
call_in_range party register = is_party party && register_fits register

-- and a class and a confidence to set
abbrev pub set_in_range : ℕ → ℕ → ℕ → ℕ → Bool
set_in_range party register class confidence =
    class_fits class && (confidence_fits confidence && call_in_range party register)

-- what a release and what a set need, the legend too
abbrev pub call_fits : Legend → ℕ → ℕ → Bool
call_fits l party register = call_in_range party register && legend_fits l

abbrev pub set_fits : Legend → ℕ → ℕ → ℕ → ℕ → Bool
set_fits l party register class confidence = set_in_range party register class confidence && legend_fits l

-- the legend in which a party has set a free entry or its own, which is then its own
unfoldable pub setting : Legend → ℕ → ℕ → ℕ → ℕ → Outcome Legend
setting l party register class confidence =
    refuse_if (not (set_fits l party register class confidence)) out_of_range
    (refuse_if (is_anothers l party register) not_owned
    (Ok (with_entry l register party class confidence)))

-- the legend in which a party has released its own entry, which is then free
unfoldable pub releasing : Legend → ℕ → ℕ → Outcome Legend
releasing l party register =
    refuse_if (not (call_fits l party register)) out_of_range
    (refuse_if (not (owns l party register)) not_owned
    (Ok (with_entry l register free 0 0)))

-- the legend that a call leaves: after a refusal the one that it was given
abbrev pub legend_after : Legend → Outcome Legend → Legend
legend_after l o = later o (λ next. next) l

abbrev pub legend_answer : Legend → Outcome Legend → LegendAnswer
legend_answer l o = record { refusal = refusal_of o; legend = legend_after l o }
