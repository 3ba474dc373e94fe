-- Laws of reading: each test picks a case.
use Rattle.std.specs.Prelude.{Ok, Err, ⊤}
use mathlib.Core.Path.{◌≡◌, refl, ap, ap₂, ◌∙◌}
use mathlib.Core.Bool.{Bool, true, false}
use mathlib.Core.List.{List}
use Prim.Native.Nat.{ℕ, ◌+◌, ◌*◌, ◌/◌, ◌≤◌, ◌<◌}
use native.Mathlib.Omega.{arith}
use lib.ListN.{length, get_or, take, drop, length-drop}
use lib.Seq.{take_all, get_or-drop}
use lib.Dec.{ltb}
use borrow.Author.Tests.{lt-ltb, le-ltb, eq-eqb, ne_eqb}
use Rattle.lists.specs.Over.{over}
use Rattle.lists.specs.Tabulate.{tabulate}
use Rattle.lists.proofs.Cond.{cond-eqb}
use Rattle.lists.proofs.Tabulate.{tabulate-ext, length-tabulate}
use Rattle.outcome.specs.declared.Refusal.{Refusal}
use Rattle.outcome.specs.Outcome.{Outcome, refusal, refuse, void}
use Rattle.outcome.specs.Refusal.{area_too_short, unknown_kind, wrong_length, size_mismatch, wrong_header}
use Rattle.words.specs.Word.{word_at, words_at}
use Rattle.resolution.specs.Shapes.{screen_bytes}
use Rattle.spectrum_data_map.specs.DataMap.{fill_map}
use Rattle.spectrum_colour_map.specs.ColourMap.{palette_words, read_map}
use Rattle.spectrum.specs.Layout.{kind_spu, kind_spc, spu_bytes, header_bytes, spc_flag, flag, reserved, colour_start}
use Rattle.spectrum.specs.Layout.{spc_length}
use Rattle.spectrum.specs.Screen.{plane_bytes, spc_screen}
use Rattle.spectrum.specs.declared.Kind.{Kind}
use Rattle.spectrum.specs.declared.Kind.TheVariants.{Spu, Spc}
use Rattle.spectrum.specs.Reading.{chosen_kind, Reading, Reads, read_spu, unpacked_data, read_maps, read_spc}
use Rattle.spectrum.specs.Reading.{read_spectrum}

module _ (file : List ℕ) where
  -- ---- SPU

  pub spu-wrong : (length file ≡ spu_bytes → ⊥) → read_spu file ≡ refuse wrong_length
  unfolding read_spu
  spu-wrong h = rw (ne_eqb (length file) spu_bytes h)

  pub spu-right : length file ≡ spu_bytes → read_spu file
      ≡ Ok (record { screen = take screen_bytes file; palettes = words_at palette_words file screen_bytes })
  unfolding read_spu
  spu-right h = rw (eq-eqb (length file) spu_bytes h)

  -- the words behind the screen, as many as there is room for
  pub spu-words : (room : ℕ) → length file ≡ spu_bytes → palette_words ≤ room
      → take room (words_at (length (drop screen_bytes file) / 2) (drop screen_bytes file) 0)
      ≡ words_at palette_words file screen_bytes
  unfolding words_at word_at
  spu-words room h enough =
      let behind : length (drop screen_bytes file) / 2 ≡ palette_words = omega (arith, length-drop screen_bytes file) in
      ap (λ (n : ℕ). take room (tabulate n (λ i. word_at (drop screen_bytes file) (0 + i * 2)))) behind
      ∙ take_all room _
      (omega (arith, length-tabulate palette_words (λ i. word_at (drop screen_bytes file) (0 + i * 2))))
      ∙ tabulate-ext palette_words _ _
      (λ i l.
      ap₂ (λ (high low : ℕ). high * 256 + low)
      (get_or-drop screen_bytes file (0 + i * 2) 0 ∙ ap (λ (k : ℕ). get_or file k 0) (first i))
      (get_or-drop screen_bytes file (0 + i * 2 + 1) 0 ∙ ap (λ (k : ℕ). get_or file k 0) (second i)))
    where
      first : (i : ℕ) → screen_bytes + (0 + i * 2) ≡ screen_bytes + i * 2
      first i = omega arith

      second : (i : ℕ) → screen_bytes + (0 + i * 2 + 1) ≡ screen_bytes + i * 2 + 1
      second i = omega arith

  -- ---- SPC: the maps

  pub data-refused : (why : Refusal) → (unpacked_data file).ends ≡ Err why → read_maps file ≡ Err why
  unfolding read_maps
  data-refused why e = rw e

  module _ (end : ℕ) (is : (unpacked_data file).ends ≡ Ok end) where
    pub data-left : end + 1 < colour_start file → read_maps file ≡ refuse size_mismatch
    unfolding read_maps
    data-left h = rw (is, lt-ltb (end + 1) (colour_start file) h)

    module _ (few : colour_start file ≤ end + 1) where
      pub colours-refused : (why : Refusal) → read_map file (colour_start file) palette_words ≡ Err why
          → read_maps file ≡ Err why
      unfolding read_maps
      colours-refused why e = rw (is, le-ltb (end + 1) (colour_start file) few, e)

      pub maps-read : (words : List ℕ) → read_map file (colour_start file) palette_words ≡ Ok words → read_maps file
          ≡ Ok (record { screen = spc_screen (unpacked_data file).made; palettes = words })
      unfolding read_maps
      maps-read words e = rw (is, le-ltb (end + 1) (colour_start file) few, e)

  -- as the code has them: any area that is long enough is as good
  pub colours-called : (end area : ℕ) → end ≡ colour_start file → palette_words ≤ area
      → read_map file end area ≡ read_map file (colour_start file) palette_words
  unfolding read_map
  colours-called end area e h = rw (e, le-ltb area palette_words h)

  pub data-called : (end room : ℕ) → end ≡ colour_start file → room ≡ plane_bytes
      → fill_map (take end file) header_bytes room ≡ unpacked_data file
  data-called end room e h = rw (e, h)

  -- ---- SPC: the header

  pub file-short : length file < header_bytes → read_spc file ≡ refuse wrong_length
  unfolding read_spc
  file-short h = rw (lt-ltb (length file) header_bytes h)

  module _ (long : header_bytes ≤ length file) where
    pub length-wrong : (length file ≡ spc_length file → ⊥) → read_spc file ≡ refuse wrong_length
    unfolding read_spc
    length-wrong h = rw (le-ltb (length file) header_bytes long, ne_eqb (length file) (spc_length file) h)

    module _ (fits : length file ≡ spc_length file) where
      pub flag-wrong : (flag file ≡ spc_flag → ⊥) → read_spc file ≡ refuse wrong_header
      unfolding read_spc
      flag-wrong h =
          rw (
            le-ltb (length file) header_bytes long,
            eq-eqb (length file) (spc_length file) fits,
            ne_eqb (flag file) spc_flag h,
          )

      pub reserved-wrong : flag file ≡ spc_flag → (reserved file ≡ 0 → ⊥) → read_spc file ≡ refuse wrong_header
      unfolding read_spc
      reserved-wrong f h =
          rw (
            le-ltb (length file) header_bytes long,
            eq-eqb (length file) (spc_length file) fits,
            eq-eqb (flag file) spc_flag f,
            ne_eqb (reserved file) 0 h,
          )

      pub header-right : flag file ≡ spc_flag → reserved file ≡ 0 → read_spc file ≡ read_maps file
      unfolding read_spc
      header-right f r =
          rw (
            le-ltb (length file) header_bytes long,
            eq-eqb (length file) (spc_length file) fits,
            eq-eqb (flag file) spc_flag f,
            eq-eqb (reserved file) 0 r,
          )

  -- ---- the kinds

  module _ (kind screen palettes : ℕ) where
    pub screen-short : screen < screen_bytes → read_spectrum kind file screen palettes ≡ refuse area_too_short
    unfolding read_spectrum
    screen-short h = rw (lt-ltb screen screen_bytes h)

    pub palettes-short : palettes < palette_words → read_spectrum kind file screen palettes ≡ refuse area_too_short
    unfolding read_spectrum
    palettes-short h = go (ltb screen screen_bytes) refl
      where
        go : (b : Bool) → ltb screen screen_bytes ≡ b → read_spectrum kind file screen palettes ≡ refuse area_too_short
        go true e = rw e
        go false e = rw (e, lt-ltb palettes palette_words h)

    module _ (room : screen_bytes ≤ screen) (enough : palette_words ≤ palettes) where
      pub kind-spu : kind ≡ kind_spu → read_spectrum kind file screen palettes ≡ read_spu file
      unfolding read_spectrum
      kind-spu k =
          rw (le-ltb screen screen_bytes room, le-ltb palettes palette_words enough, eq-eqb kind kind_spu k)

      pub kind-spc : kind ≡ kind_spc → read_spectrum kind file screen palettes ≡ read_spc file
      unfolding read_spectrum
      kind-spc k =
          let other : kind ≡ kind_spu → ⊥ = λ e. omega arith in
          rw (
            le-ltb screen screen_bytes room,
            le-ltb palettes palette_words enough,
            ne_eqb kind kind_spu other,
            eq-eqb kind kind_spc k,
          )

      pub kind-other : (kind ≡ kind_spu → ⊥) → (kind ≡ kind_spc → ⊥)
          → read_spectrum kind file screen palettes ≡ refuse unknown_kind
      unfolding read_spectrum
      kind-other u c =
          rw (
            le-ltb screen screen_bytes room,
            le-ltb palettes palette_words enough,
            ne_eqb kind kind_spu u,
            ne_eqb kind kind_spc c,
          )

      pub kind-unknown : (why : Refusal) → chosen_kind kind ≡ Err why
          → read_spectrum kind file screen palettes ≡ Err why
      kind-unknown why =
          cond-eqb (λ (o : Outcome Kind). o ≡ Err why → read_spectrum kind file screen palettes ≡ Err why) kind kind_spu
          (λ k e. let z : ◌≡◌ {A = ℕ} 0 1 = cc in absurd (omega arith))
          (λ u.
          cond-eqb (λ (o : Outcome Kind). o ≡ Err why → read_spectrum kind file screen palettes ≡ Err why) kind kind_spc
          (λ k e. let z : ◌≡◌ {A = ℕ} 0 1 = cc in absurd (omega arith))
          (λ c e. kind-other u c ∙ same_refusal e))
        where
          same_refusal : refuse {A = Kind} unknown_kind ≡ Err why → refuse {A = Reading} unknown_kind ≡ Err why
          same_refusal e = let is : refusal unknown_kind 0 ≡ why = cc in ap Err is

-- the kind that a number names has that number
pub spu-chosen : (kind : ℕ) → chosen_kind kind ≡ Ok Spu → kind ≡ kind_spu
spu-chosen kind =
    cond-eqb (λ (o : Outcome Kind). o ≡ Ok Spu → kind ≡ kind_spu) kind kind_spu
    (λ k e. k)
    (λ u.
    cond-eqb (λ (o : Outcome Kind). o ≡ Ok Spu → kind ≡ kind_spu) kind kind_spc
    (λ k e. let z : ◌≡◌ {A = ℕ} 0 1 = cc in absurd (omega arith))
    (λ c e. let z : ◌≡◌ {A = ℕ} 0 1 = cc in absurd (omega arith)))

pub spc-chosen : (kind : ℕ) → chosen_kind kind ≡ Ok Spc → kind ≡ kind_spc
spc-chosen kind =
    cond-eqb (λ (o : Outcome Kind). o ≡ Ok Spc → kind ≡ kind_spc) kind kind_spu
    (λ k e. let z : ◌≡◌ {A = ℕ} 0 1 = cc in absurd (omega arith))
    (λ u.
    cond-eqb (λ (o : Outcome Kind). o ≡ Ok Spc → kind ≡ kind_spc) kind kind_spc
    (λ k e. k)
    (λ c e. let z : ◌≡◌ {A = ℕ} 0 1 = cc in absurd (omega arith)))

-- ---- what reading promises

-- what is accepted, known by the answer
pub void-accepted : {A : Type 0} (o : Outcome A) (u : ⊤) → void o ≡ Ok u → (a : A) × (o ≡ Ok a)
void-accepted (Ok a) u e = (a, refl)
void-accepted (Err why) u e = let z : ◌≡◌ {A = ℕ} 0 1 = cc in absurd (omega arith)

module _ (o : Outcome Reading) (screen palettes : List ℕ) where
  pub reads-refused : (why : Refusal) → o ≡ Err why → Reads o screen palettes (Err why) screen palettes
  reads-refused why e = rw e (record { answer = refl; screen_put = refl; palettes_put = refl })

  pub reads-accepted : (r : Reading) (next last : List ℕ) → o ≡ Ok r → next ≡ over r.screen screen
      → last ≡ over r.palettes palettes → Reads o screen palettes (Ok tt) next last
  reads-accepted r next last e s p = rw e (record { answer = refl; screen_put = s; palettes_put = p })
