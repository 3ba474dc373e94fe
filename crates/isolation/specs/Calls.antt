-- Calls of the parties that share a legend, each given the legend that the last one left (document 02, ticket 8).
use Rattle.std.specs.Prelude.{ℕ, ◌≡◌, Bool, true, false, cond, ◌&&◌, List, [], ◌∷◌, eqb, Ok, Err}
use Rattle.outcome.specs.Outcome.{Outcome, map}
use Rattle.outcome.specs.Refusal.{out_of_range, not_owned}
use Rattle.tally.specs.declared.Rectangle.{Rectangle}
use Rattle.legend.specs.declared.Legend.{Legend}
use Rattle.legend.specs.Entries.{owner_of, is_party, is_anothers, new_legend}
use Rattle.legend.specs.Setting.{set_in_range, setting, releasing, legend_after}
use Rattle.pond.specs.Reading.{pond_reading}

-- what a call asks for: a register set to a class and a confidence; a register released; a reading of a screen at a
-- resolution in a rectangle, of a class with a floor
pub data Request : Type 0 where
  set_entry : ℕ → ℕ → ℕ → Request
  release_entry : ℕ → Request
  read_pond : List ℕ → ℕ → Rectangle → ℕ → ℕ → Request

-- a call: a request of a party, which may be any number
pub record Call : Type 0 where
  pub party : ℕ
  pub request : Request

-- what a request of a party comes to: accepted, with the legend that it leaves, or refused; a reading leaves the legend
-- that it is given
unfoldable pub outcome_of : Legend → ℕ → Request → Outcome Legend
outcome_of l party (set_entry register class confidence) = setting l party register class confidence
outcome_of l party (release_entry register) = releasing l party register
outcome_of l party (read_pond s resolution a class floor) =
    map (λ counts. l) (pond_reading s resolution a party class floor l)

-- the legend that a call leaves
abbrev pub step : Legend → Call → Legend
step l c = legend_after l (outcome_of l c.party c.request)

-- the legend after calls, each given the legend that the last one left
abbrev pub run : Legend → List Call → Legend
run l [] = l
run l (c ∷ calls) = run (step l c) calls

-- the same from a new legend
abbrev pub reached : List Call → Legend
reached calls = run new_legend calls

-- ---- the successful calls of one party

abbrev pub is_accepted : {A : Type 0} → Outcome A → Bool
is_accepted (Ok a) = true
is_accepted (Err why) = false

-- a call of the party that succeeds
abbrev pub is_own_success : ℕ → Legend → Call → Bool
is_own_success party l c = eqb c.party party && is_accepted (outcome_of l c.party c.request)

abbrev pub cons_if : Bool → Call → List Call → List Call
cons_if b c calls = cond b (c ∷ calls) calls

-- the successful calls of a party among these, in their order
abbrev pub own_successes_from : ℕ → Legend → List Call → List Call
own_successes_from party l [] = []
own_successes_from party l (c ∷ calls) = cons_if (is_own_success party l c) c (own_successes_from party (step l c) calls)

-- the same from a new legend
abbrev pub own_successes : ℕ → List Call → List Call
own_successes party calls = own_successes_from party new_legend calls

-- ---- the number that a set gets

-- on a legend that fits: 10 where a number of the call is out of range, then 19 where the entry is another's
abbrev pub set_number : Legend → ℕ → ℕ → ℕ → ℕ → ℕ
set_number l party register class confidence =
    cond (set_in_range party register class confidence) (cond (is_anothers l party register) not_owned 0) out_of_range

-- the other party owns the entry
abbrev pub OtherOwns : Legend → ℕ → ℕ → Type 0
OtherOwns l party register = (is_party (owner_of l register) ≡ true) × (owner_of l register ≡ party → ⊥)
