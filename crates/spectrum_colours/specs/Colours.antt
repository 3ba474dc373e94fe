-- The colour words of a Spectrum 512 picture, from the areas that reading fills: of a pixel, and of a scan line
-- (document 02, ticket 5; sources 000 and 001).
use Rattle.std.specs.Prelude.{ℕ, ◌+◌, ◌-◌, ◌*◌, Bool, ◌||◌, List, length, get_or, ltb, leb, eqb, Ok, Err}
use Rattle.lists.specs.Tabulate.{tabulate}
use Rattle.outcome.specs.Outcome.{Outcome, none, refuse_if}
use Rattle.outcome.specs.Refusal.{area_too_short, out_of_range}
use Rattle.resolution.specs.declared.Resolution.TheVariants.{Low}
use Rattle.resolution.specs.Shapes.{screen_bytes, height_of}
use Rattle.lines.specs.Registers.{register}
use Rattle.spectrum_positions.specs.Positions.{columns, position_of}
use Rattle.spectrum_colour_map.specs.ColourMap.{palette_words}
use Rattle.spectrum_colours.specs.declared.ColourWordAnswer.{ColourWordAnswer}

-- the palette words of a scan line: three palettes
abbrev pub line_words : ℕ
line_words = 48

-- the word that the pixel in column x of scan line y shows: at the position of its register among its line's words
unfoldable pub shown_word : List ℕ → List ℕ → ℕ → ℕ → ℕ
shown_word screen palettes x y =
    get_or palettes (line_words * (y - 1) + position_of x (register screen Low x y)) 0

-- both areas are there
abbrev pub judge_areas : {A : Type 0} → List ℕ → List ℕ → Outcome A → Outcome A
judge_areas screen palettes further =
    refuse_if (ltb (length screen) screen_bytes || ltb (length palettes) palette_words) area_too_short further

-- line 0 has no palette
abbrev pub without_palette : ℕ → Bool
without_palette y = eqb y 0 || leb (height_of Low) y

-- of a pixel (house: in the order of document 01's line out)
unfoldable pub pixel_word : List ℕ → List ℕ → ℕ → ℕ → Outcome ℕ
pixel_word screen palettes x y =
    judge_areas screen palettes
    (refuse_if (leb columns x || without_palette y) out_of_range
    (Ok (shown_word screen palettes x y)))

-- a refusal gives 0 in all else
abbrev pub word_answer : Outcome ℕ → ColourWordAnswer
word_answer (Ok w) = record { refusal = none; word = w }
word_answer (Err why) = record { refusal = why; word = 0 }

-- of a scan line from the left, into an output of `room` words
unfoldable pub line_of_words : List ℕ → List ℕ → ℕ → ℕ → Outcome (List ℕ)
line_of_words screen palettes y room =
    judge_areas screen palettes
    (refuse_if (without_palette y) out_of_range
    (refuse_if (ltb room columns) area_too_short
    (Ok (tabulate columns (λ x. shown_word screen palettes x y)))))
