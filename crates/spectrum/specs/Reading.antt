-- Reading a Spectrum 512 file: the whole judgement and what an accepted file gives (document 02, ticket 5).
use Rattle.std.specs.Prelude.{ℕ, ◌+◌, ◌≤◌, ◌≡◌, cond, not, ◌||◌, List, length, take, ltb, eqb, Ok, ⊤}
use Rattle.lists.specs.Over.{over}
use Rattle.outcome.specs.Outcome.{Outcome, refuse, refuse_if, map, void, bind, later}
use Rattle.outcome.specs.Refusal.{area_too_short, unknown_kind, wrong_length, size_mismatch, wrong_header}
use Rattle.words.specs.Word.{words_at}
use Rattle.resolution.specs.Shapes.{screen_bytes}
use Rattle.filling.specs.Filling.{Filling}
use Rattle.spectrum_data_map.specs.DataMap.{fill_map}
use Rattle.spectrum_colour_map.specs.ColourMap.{palette_words, read_map}
use Rattle.spectrum.specs.declared.Kind.{Kind}
use Rattle.spectrum.specs.declared.Kind.TheVariants.{Spu, Spc}
use Rattle.spectrum.specs.Layout.{kind_spu, kind_spc, spu_bytes, header_bytes, spc_flag, flag, reserved, colour_start}
use Rattle.spectrum.specs.Layout.{spc_length, before_colours}
use Rattle.spectrum.specs.Screen.{plane_bytes, spc_screen}

-- the kind that a number names
abbrev pub chosen_kind : ℕ → Outcome Kind
chosen_kind kind =
    cond (eqb kind kind_spu) (Ok Spu)
    (cond (eqb kind kind_spc) (Ok Spc)
    (refuse unknown_kind))

-- what an accepted file gives: 32,000 bytes of screen, and 9,552 palette words, three palettes for each of the scan
-- lines 1 to 199
pub record Reading : Type 0 where
  pub screen : List ℕ
  pub palettes : List ℕ

-- an SPU file: the screen, line 0 too, and the palettes as they stand
unfoldable pub read_spu : List ℕ → Outcome Reading
read_spu file =
    refuse_if (not (eqb (length file) spu_bytes)) wrong_length
    (Ok (record { screen = take screen_bytes file; palettes = words_at palette_words file screen_bytes }))

-- how far the data map of an SPC file is unpacked
abbrev pub unpacked_data : List ℕ → Filling
unpacked_data file = fill_map (before_colours file) header_bytes plane_bytes

-- the two maps: of the data map one byte may be left, of the colour map none
unfoldable pub read_maps : List ℕ → Outcome Reading
read_maps file =
    bind (unpacked_data file).ends (λ end.
    refuse_if (ltb (end + 1) (colour_start file)) size_mismatch
    (map (λ words. record { screen = spc_screen (unpacked_data file).made; palettes = words })
    (read_map file (colour_start file) palette_words)))

-- an SPC file: its length by itself and against the lengths that it names, flag word, reserved word, then the maps
unfoldable pub read_spc : List ℕ → Outcome Reading
read_spc file =
    refuse_if (ltb (length file) header_bytes) wrong_length
    (refuse_if (not (eqb (length file) (spc_length file))) wrong_length
    (refuse_if (not (eqb (flag file) spc_flag)) wrong_header
    (refuse_if (not (eqb (reserved file) 0)) wrong_header
    (read_maps file))))

-- a file of a kind, into areas of so many bytes and words
unfoldable pub read_spectrum : ℕ → List ℕ → ℕ → ℕ → Outcome Reading
read_spectrum kind file screen palettes =
    refuse_if (ltb screen screen_bytes || ltb palettes palette_words) area_too_short
    (cond (eqb kind kind_spu) (read_spu file)
    (cond (eqb kind kind_spc) (read_spc file)
    (refuse unknown_kind)))

-- the later content of the areas: screen and palettes over their fronts; after a refusal as they were
abbrev pub screen_area : Outcome Reading → List ℕ → List ℕ
screen_area o area = later o (λ r. over r.screen area) area

abbrev pub palette_area : Outcome Reading → List ℕ → List ℕ
palette_area o area = later o (λ r. over r.palettes area) area

-- both areas have room
abbrev pub AreasFit : List ℕ → List ℕ → Type 0
AreasFit screen palettes = (screen_bytes ≤ length screen) × (palette_words ≤ length palettes)

-- what reading with an outcome promises: the answer, and the later content of both areas
pub record Reads (o : Outcome Reading) (screen palettes : List ℕ) (result : Outcome ⊤)
    (next last : List ℕ) : Type 0 where
  pub answer : result ≡ void o
  pub screen_put : next ≡ screen_area o screen
  pub palettes_put : last ≡ palette_area o palettes
