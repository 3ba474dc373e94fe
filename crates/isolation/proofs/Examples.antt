-- A short sequence of calls, as the definitions compute it: 19 comes from the other party's entry alone.
use mathlib.Core.Path.{◌≡◌, refl}
use mathlib.Core.List.{List, [], ◌∷◌}
use Prim.Native.Nat.{ℕ}
use Rattle.lists.specs.All.{all_below}
use Rattle.outcome.specs.Outcome.{refusal, refusal_of}
use Rattle.legend.specs.Entries.{is_party, with_entry, entry_fits, legend_fits}
use Rattle.legend.specs.Setting.{setting, releasing}
use Rattle.isolation.specs.Calls.{Request, set_entry, release_entry, Call, outcome_of, reached, own_successes}

abbrev by : ℕ → Request → Call
by party request = record { party = party; request = request }

-- party 1 sets entry 5; party 2 tries to set and to release it, and sets entry 6
abbrev calls : List Call
calls =
    by 1 (set_entry 5 7 90) ∷ by 2 (set_entry 5 8 80) ∷ by 2 (release_entry 5) ∷ by 2 (set_entry 6 7 70) ∷ []

-- the answers of a set of entry 5 and of releases of entries 5 and 6 after these calls
pub example-answers : (refusal_of (setting (reached calls) 2 5 8 80) ≡ refusal 19 0)
    × (refusal_of (setting (reached (own_successes 2 calls)) 2 5 8 80) ≡ refusal 0 0)
    × (refusal_of (releasing (reached calls) 2 5) ≡ refusal 19 0)
    × (refusal_of (releasing (reached calls) 2 6) ≡ refusal 0 0)
    × (refusal_of (releasing (reached calls) 1 6) ≡ refusal 19 0)
    × (own_successes 2 calls ≡ (by 2 (set_entry 6 7 70) ∷ []))
unfolding setting releasing outcome_of with_entry legend_fits all_below entry_fits is_party
example-answers = (refl, refl, refl, refl, refl, refl)
