-- Demand 1 for the index: what any refusal of a tally, a colour, a pond reading and a call on a legend gives.
use Rattle.std.specs.Prelude.{Ok, Err}
use Rattle.outcome.specs.Outcome.{Outcome}
use mathlib.Core.Path.{refl}
use mathlib.Core.List.{List}
use Prim.Native.Nat.{ℕ}
use Rattle.tally.specs.declared.Rectangle.{Rectangle}
use Rattle.tally.specs.Counts.{tallied}
use Rattle.colour.specs.declared.Rgb.{Rgb}
use Rattle.colour.specs.Shown.{shown}
use Rattle.legend.specs.declared.Legend.{Legend}
use Rattle.legend.specs.Setting.{setting, releasing}
use Rattle.pond.specs.declared.PondCounts.{PondCounts}
use Rattle.pond.specs.Reading.{pond_reading}
use Rattle.answers.specs.IndexRefusals.{TallyRefusal, ColourRefusal, LegendRefusal, PondRefusal}

-- ---- any outcome

tally-refusal : (o : Outcome (List ℕ)) → TallyRefusal o
tally-refusal (Ok c) h = absurd (h refl)
tally-refusal (Err why) h = refl

colour-refusal : (o : Outcome Rgb) → ColourRefusal o
colour-refusal (Ok c) h = absurd (h refl)
colour-refusal (Err why) h = (refl, refl, refl)

legend-refusal : (l : Legend) (o : Outcome Legend) → LegendRefusal l o
legend-refusal l (Ok next) h = absurd (h refl)
legend-refusal l (Err why) h = refl

pond-refusal : (o : Outcome PondCounts) → PondRefusal o
pond-refusal (Ok p) h = absurd (h refl)
pond-refusal (Err why) h = (refl, refl, refl)

-- ---- each public function

pub colour-refused : (number machine : ℕ) (palette : List ℕ) (register : ℕ)
    → ColourRefusal (shown number machine palette register)
colour-refused number machine palette register = colour-refusal (shown number machine palette register)

pub tally-refused : (screen : List ℕ) (number : ℕ) (a : Rectangle) → TallyRefusal (tallied screen number a)
tally-refused screen number a = tally-refusal (tallied screen number a)

pub pond-refused : (screen : List ℕ) (number : ℕ) (a : Rectangle) (party class floor : ℕ) (l : Legend)
    → PondRefusal (pond_reading screen number a party class floor l)
pond-refused screen number a party class floor l = pond-refusal (pond_reading screen number a party class floor l)

pub set-refused : (l : Legend) (party register class confidence : ℕ)
    → LegendRefusal l (setting l party register class confidence)
set-refused l party register class confidence = legend-refusal l (setting l party register class confidence)

pub release-refused : (l : Legend) (party register : ℕ) → LegendRefusal l (releasing l party register)
release-refused l party register = legend-refusal l (releasing l party register)
