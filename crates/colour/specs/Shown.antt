-- The colour that a register shows (document 01, "Three resolutions", "Order of judging": colour; document 02, ticket
-- 4).
use Rattle.std.specs.Prelude.{ℕ, cond, List, get_or, leb, eqb, Ok, Err}
use Rattle.outcome.specs.Outcome.{Outcome, none, refuse_if}
use Rattle.outcome.specs.Refusal.{out_of_range}
use Rattle.resolution.specs.declared.Resolution.{Resolution}
use Rattle.resolution.specs.declared.Resolution.TheVariants.{Low, Medium, High}
use Rattle.resolution.specs.Shapes.{registers_of}
use Rattle.resolution.specs.Choice.{with_resolution}
use Rattle.colour.specs.declared.ColourAnswer.{ColourAnswer}
use Rattle.colour.specs.declared.Machine.{Machine}
use Rattle.colour.specs.declared.Rgb.{Rgb}
use Rattle.colour.specs.Machines.{with_machine}
use Rattle.colour.specs.Palette.{word_colour}

abbrev pub white : Rgb
white = record { red = 255; green = 255; blue = 255 }

abbrev pub black : Rgb
black = record { red = 0; green = 0; blue = 0 }

-- the colour of a register with its palette word: at high resolution 0 is white and 1 black, whatever the word
unfoldable pub register_colour : Resolution → Machine → ℕ → ℕ → Rgb
register_colour Low m word register = word_colour m word
register_colour Medium m word register = word_colour m word
register_colour High m word register = cond (eqb register 0) white black

-- a register judged at a known resolution, on a known machine
unfoldable pub judge_register : Resolution → Machine → ℕ → ℕ → Outcome Rgb
judge_register r m word register =
    refuse_if (leb (registers_of r) register) out_of_range (Ok (register_colour r m word register))

-- colour: the resolution's number is judged, then the machine's, then the register; its word is the palette's
unfoldable pub shown : ℕ → ℕ → List ℕ → ℕ → Outcome Rgb
shown resolution machine palette register =
    with_resolution resolution (λ r. with_machine machine (λ m. judge_register r m (get_or palette register 0) register))

-- a refusal gives 0 in all else
abbrev pub colour_answer : Outcome Rgb → ColourAnswer
colour_answer (Ok c) = record { refusal = none; red = c.red; green = c.green; blue = c.blue }
colour_answer (Err why) = record { refusal = why; red = 0; green = 0; blue = 0 }
