-- What a refusal of the index gives: zero in all but the refusal itself, or the legend as it was (document 01, "Numbers
-- given back"; document 02, ticket 8). Nothing is lent but a screen that is only read.
use Rattle.outcome.specs.Outcome.{Outcome}
use Rattle.std.specs.Prelude.{ℕ, ◌≡◌, List, replicate}
use Rattle.tally.specs.Counts.{tally_answer}
use Rattle.colour.specs.declared.Rgb.{Rgb}
use Rattle.colour.specs.Shown.{colour_answer}
use Rattle.legend.specs.declared.Legend.{Legend}
use Rattle.legend.specs.Setting.{legend_answer}
use Rattle.pond.specs.declared.PondCounts.{PondCounts}
use Rattle.pond.specs.Reading.{pond_answer}
use Rattle.demands.specs.Refusals.{Refuses}

abbrev pub TallyRefusal : Outcome (List ℕ) → Type 0
TallyRefusal o = Refuses (tally_answer o).refusal → (tally_answer o).counts ≡ replicate 16 0

abbrev pub ColourRefusal : Outcome Rgb → Type 0
ColourRefusal o =
    Refuses (colour_answer o).refusal → ((colour_answer o).red ≡ 0) × ((colour_answer o).green ≡ 0) ×
    ((colour_answer o).blue ≡ 0)

-- "the legend is then unchanged": the answer has the legend that was given
abbrev pub LegendRefusal : Legend → Outcome Legend → Type 0
LegendRefusal l o = Refuses (legend_answer l o).refusal → (legend_answer l o).legend ≡ l

abbrev pub PondRefusal : Outcome PondCounts → Type 0
PondRefusal o =
    Refuses (pond_answer o).refusal → ((pond_answer o).sure ≡ 0) × ((pond_answer o).unsure ≡ 0) × ((pond_answer o).other ≡ 0)
