-- The palettes of a colour map, one after the other (document 02, ticket 5). Offsets count from the file's start, and
-- the file's end is the map's.
use Rattle.std.specs.Prelude.{ℕ, zero, suc, ◌+◌, ◌*◌, ◌≡◌, cond, List, [], ◌++◌, length, get_or, ltb, eqb, Ok}
use Rattle.lists.specs.Over.{over}
use Rattle.lists.specs.Tabulate.{tabulate}
use Rattle.outcome.specs.Outcome.{Outcome, refuse_if, refuse_at_if, bind}
use Rattle.outcome.specs.Refusal.{input_ends, bit15_set}
use Rattle.words.specs.Word.{word_at}
use Rattle.spectrum_colour_map.specs.Vector.{entries, bit, named_below, named}

-- a vector's bytes, and those of the words behind it
abbrev pub vector_bytes : ℕ
vector_bytes = 2

abbrev pub words_length : ℕ → ℕ
words_length n = n * 2

-- the bit that no vector may have
abbrev pub unused_entry : ℕ
unused_entry = 15

-- Of the palette whose vector stands at an offset.
module _ (file : List ℕ) (at : ℕ) where
  abbrev pub vector_at : ℕ
  vector_at = word_at file at

  -- where the words begin, and where the palette ends
  abbrev pub words_from : ℕ
  words_from = at + vector_bytes

  unfoldable pub palette_end : ℕ
  palette_end = words_from + words_length (named vector_at)

  -- entry i, after a palette before it: the words stand in the order of the entries that are named; an entry that is
  -- not named keeps the palette before
  unfoldable pub entry : List ℕ → ℕ → ℕ
  entry before i =
      cond (eqb (bit vector_at i) 1) (word_at file (words_from + words_length (named_below vector_at i))) (get_or before i 0)

  unfoldable pub palette : List ℕ → List ℕ
  palette before = tabulate entries (entry before)

  -- judged: where it ends
  unfoldable pub judge_palette : Outcome ℕ
  judge_palette =
      refuse_at_if (ltb (length file) words_from) input_ends at
      (refuse_if (eqb (bit vector_at unused_entry) 1) bit15_set
      (refuse_at_if (ltb (length file) palette_end) input_ends at
      (Ok palette_end)))

-- n palettes from an offset on, after a palette before them
unfoldable pub palettes : ℕ → List ℕ → ℕ → List ℕ → List ℕ
palettes zero file at before = []
palettes (suc n) file at before =
    palette file at before ++ palettes n file (palette_end file at) (palette file at before)

-- judged: where the last one ends
unfoldable pub judge_palettes : ℕ → List ℕ → ℕ → Outcome ℕ
judge_palettes zero file at = Ok at
judge_palettes (suc n) file at = bind (judge_palette file at) (λ next. judge_palettes n file next)

-- what writing a palette promises: `next` is where it ends, `last` is the palette, and `after` is the output with the
-- palette over its front
pub record PaletteWritten (file : List ℕ) (at : ℕ) (before out : List ℕ) (next : ℕ) (last after : List ℕ) : Type 0 where
  pub ends : next ≡ palette_end file at
  pub made : last ≡ palette file at before
  pub all : after ≡ over (palette file at before) out
