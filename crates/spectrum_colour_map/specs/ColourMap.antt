-- The colour map of an SPC file, read whole (document 02, ticket 5).
use Rattle.std.specs.Prelude.{ℕ, List, length, replicate, ltb, Ok}
use Rattle.lists.specs.Over.{over}
use Rattle.outcome.specs.Outcome.{Outcome, refuse_if, map, bind, later}
use Rattle.outcome.specs.Refusal.{area_too_short, size_mismatch}
use Rattle.spectrum_colour_map.specs.Vector.{entries}
use Rattle.spectrum_colour_map.specs.Palettes.{palettes, judge_palettes}

-- three palettes for each of the scan lines 1 to 199
abbrev pub palette_count : ℕ
palette_count = 597

-- the words of all of them
abbrev pub palette_words : ℕ
palette_words = 9552

-- the palette before the first: zeros (house)
abbrev pub no_palette : List ℕ
no_palette = replicate entries 0

-- all palettes judged, and that no byte is left behind the last one: where it ends
unfoldable pub judge_map : List ℕ → ℕ → Outcome ℕ
judge_map file at =
    bind (judge_palettes palette_count file at) (λ end.
    refuse_if (ltb end (length file)) size_mismatch
    (Ok end))

-- the colour map from an offset of a file to its end, into an area of `area` words: the words of its palettes
unfoldable pub read_map : List ℕ → ℕ → ℕ → Outcome (List ℕ)
read_map file at area =
    refuse_if (ltb area palette_words) area_too_short
    (map (λ _. palettes palette_count file at no_palette) (judge_map file at))

-- the area's later content: the palettes over its front; after a refusal as it was
abbrev pub map_area : Outcome (List ℕ) → List ℕ → List ℕ
map_area o area = later o (λ words. over words area) area
