-- A Spectrum 512 file is accepted exactly where `AcceptsSpectrum` holds, and refused, and why, exactly where
-- `RefusesSpectrum` does.
use Rattle.std.specs.Prelude.{Ok, Err}
use mathlib.Core.Path.{◌≡◌, refl, sym, ap, ◌∙◌, subst}
use mathlib.Core.Bool.{Bool, true, false}
use mathlib.Core.Logic.{◌⊎◌, inl, inr}
use mathlib.Core.List.{List, [], ◌++◌, append-nil}
use Prim.Native.Nat.{ℕ, ◌+◌, ◌-◌, ◌≤◌, ◌<◌}
use native.Mathlib.Decide.{dec_lt}
use native.Mathlib.Omega.{arith}
use lib.ListN.{length, take, drop, length-append, length-drop, take-append-drop, drop_of_length-le}
use lib.Seq.{take_at, length-take-le}
use lib.Dec.{eqb}
use borrow.Author.Tests.{eqb-true, eqb-false}
use Rattle.lists.specs.Bytes.{Bytes}
use Rattle.lists.proofs.Bytes.{bytes_take}
use Rattle.lists.proofs.Tabulate.{length-tabulate}
use Rattle.outcome.specs.declared.Refusal.{Refusal}
use Rattle.outcome.specs.Outcome.{Outcome, refusal, refuse}
use Rattle.outcome.specs.Refusal.{wrong_header}
use Rattle.words.specs.Word.{words_at, words_bytes}
use Rattle.words.proofs.Word.{words_back, words-restored, length-words_bytes}
use Rattle.filling.specs.Makes.{Makes}
use Rattle.spectrum_data_map.specs.WholeRecord.{WholeRecord}
use Rattle.spectrum_data_map.proofs.DataMap.{map-all}
use Rattle.spectrum_data_map.proofs.MakesMap.{map-makes, map-stops, map-numbers}
use Rattle.spectrum_colour_map.specs.Palettes.{palettes, judge_palettes}
use Rattle.spectrum_colour_map.specs.ColourMap.{palette_count, palette_words, no_palette, read_map}
use Rattle.spectrum_colour_map.specs.HoldsPalettes.{HoldsPalettes}
use Rattle.spectrum_colour_map.specs.StopsPalettes.{StopsPalettes}
use Rattle.spectrum_colour_map.proofs.HoldsPalettes.{palettes-hold}
use Rattle.spectrum_colour_map.proofs.StopsPalettes.{refusal_at, palettes-stop, stops-number}
use Rattle.spectrum.specs.Layout.{kind_spu, kind_spc, spu_bytes, header_bytes, spc_flag, flag, reserved, colour_start}
use Rattle.spectrum.specs.Layout.{spc_length, before_colours}
use Rattle.spectrum.specs.Screen.{plane_bytes, spc_screen, ScreenOf}
use Rattle.spectrum.specs.Reading.{Reading, read_spu, unpacked_data, read_spc, read_spectrum}
use Rattle.spectrum.specs.Accepts.{spc_words, HoldsMaps, HoldsPlanes, AcceptsSpu, AcceptsSpc, AcceptsSpectrum}
use Rattle.spectrum.specs.Accepts.{spu, spc}
use Rattle.spectrum.specs.Refuses.{RefusesSpc, file_short, length_wrong, header_wrong, in_data, data_left}
use Rattle.spectrum.specs.Refuses.{vector_wrong, palette_cut, colours_left}
use Rattle.spectrum.specs.Refuses.{RefusesSpectrum, screen_short, palettes_short, other_kind, spu_length, spc_refused}
use Rattle.spectrum.proofs.Header.{first_bytes, headed, long-begins, words_right, right-words}
use Rattle.spectrum.proofs.Maps.{MapsAt, maps-at, holds-maps, to-maps, unpacked, data-stops, colours-read}
use Rattle.spectrum.proofs.Maps.{before-length, colours-left, colours-stop}
use Rattle.spectrum.proofs.Reading.{spu-wrong, spu-right, data-refused, data-left, colours-refused, maps-read}
use Rattle.spectrum.proofs.Reading.{file-short, length-wrong, flag-wrong, reserved-wrong, screen-short}
use Rattle.spectrum.proofs.Reading.{palettes-short, kind-spu, kind-spc, kind-other}
use Rattle.spectrum.proofs.Screen.{screen-of, screen-same}

reading-is : (screen words : List ℕ) (r : Reading) → screen ≡ r.screen → words ≡ r.palettes
    → record { screen = screen; palettes = words } ≡ r
reading-is screen words r e f = rw (e, f)

-- ---- the functions from the relations

module _ (file : List ℕ) where
  spu-accepted : (r : Reading) → AcceptsSpu file r → read_spu file ≡ Ok r
  spu-accepted r a =
      let size : length file ≡ spu_bytes =
      ap length a.parts
      ∙ length-append r.screen (words_bytes r.palettes)
      ∙ omega (arith, a.screen_size, a.palette_size, length-words_bytes r.palettes) in
      spu-right file size
      ∙ ap Ok
      (reading-is _ _ r
      (ap (take 32000) a.parts ∙ take_at r.screen (words_bytes r.palettes) 32000 a.screen_size)
      (ap (λ (l : List ℕ). words_at palette_words l 32000)
      (a.parts ∙ ap (λ (l : List ℕ). r.screen ++ l) (sym (append-nil (words_bytes r.palettes))))
      ∙ words_back palette_words r.screen r.palettes [] 32000 a.palette_size a.screen_size))

  -- the header's words
  header-wrong : Bytes file → header_bytes ≤ length file → length file ≡ spc_length file
      → (first_bytes file ≡ spc_words → ⊥) → read_spc file ≡ refuse wrong_header
  header-wrong bytes long fits bad = go (eqb (flag file) spc_flag) refl
    where
      go : (b : Bool) → eqb (flag file) spc_flag ≡ b → read_spc file ≡ refuse wrong_header
      go true e =
          let f : flag file ≡ spc_flag = eqb-true (flag file) spc_flag e in
          reserved-wrong file long fits f (λ z. bad (right-words file bytes f z))
      go false e = flag-wrong file long fits (eqb-false (flag file) spc_flag e)

  -- the maps
  module _ (packed colours planes : List ℕ) (m : MapsAt file packed colours) (h : HoldsPlanes packed planes) where
    maps-accepted : (r : Reading) → ScreenOf planes r.screen
        → HoldsPalettes palette_count no_palette colours [] r.palettes → read_spc file ≡ Ok r
    maps-accepted r s p =
        let u = unpacked file packed colours m h.behind planes h.unpacks in
        let few : colour_start file ≤ u.end + 1 = omega (arith, u.left, h.few) in
        let full : plane_bytes ≤ length planes =
        omega (arith, ap length u.made, map-all (before_colours file) header_bytes plane_bytes u.end u.is) in
        to-maps file packed colours m
        ∙ maps-read file u.end u.is few r.palettes (colours-read file packed colours m r.palettes p)
        ∙ ap Ok
        (reading-is _ _ r
        (ap spc_screen u.made ∙ screen-same planes (spc_screen planes) r.screen (screen-of planes full) s) refl)

    maps-refused : (why : Refusal) → read_map file (colour_start file) palette_words ≡ Err why
        → read_spc file ≡ Err why
    maps-refused why e =
        let u = unpacked file packed colours m h.behind planes h.unpacks in
        let few : colour_start file ≤ u.end + 1 = omega (arith, u.left, h.few) in
        to-maps file packed colours m ∙ colours-refused file u.end u.is few why e

  spc-accepted : (r : Reading) → AcceptsSpc file r → read_spc file ≡ Ok r
  spc-accepted r a =
      maps-accepted a.packed a.colours a.planes (maps-at file a.packed a.colours a.maps) a.unpacks
      r a.screen a.palettes

  spc-refused : Bytes file → (why : Refusal) → RefusesSpc file why → read_spc file ≡ Err why
  spc-refused bytes why (file_short h) = file-short file h
  spc-refused bytes why (length_wrong b bad) =
      let t = headed b in
      length-wrong file (omega (arith, t.size))
      (λ e. bad (omega (arith, t.size, t.data_size, t.colour_size)))
  spc-refused bytes why (header_wrong b e bad) =
      let t = headed b in
      header-wrong bytes (omega (arith, t.size)) (omega (arith, t.size, t.data_size, t.colour_size))
      (λ w. bad (sym t.first ∙ w))
  spc-refused bytes why (in_data {number} {packed} {colours} {rest} h s) =
      let m = maps-at file packed colours h in
      to-maps file packed colours m ∙ data-refused file _ (data-stops file packed colours m number rest s)
  spc-refused bytes why (data_left {packed} {colours} {behind} {planes} h u many) =
      let m = maps-at file packed colours h in
      let t = unpacked file packed colours m behind planes u in
      to-maps file packed colours m ∙ data-left file t.end t.is (omega (arith, t.left))
  spc-refused bytes why (vector_wrong {packed} {colours} {planes} {rest} h u s) =
      let m = maps-at file packed colours h in
      maps-refused packed colours planes m u _ (colours-stop file packed colours m 15 rest s)
  spc-refused bytes why (palette_cut {packed} {colours} {planes} {rest} h u s) =
      let m = maps-at file packed colours h in
      maps-refused packed colours planes m u _ (colours-stop file packed colours m 6 rest s)
  spc-refused bytes why (colours_left {packed} {colours} {planes} {rest} {words} h u p some) =
      let m = maps-at file packed colours h in
      maps-refused packed colours planes m u _ (colours-left file packed colours m rest words p some)

pub spectrum-accepted : (kind : ℕ) (file : List ℕ) (screen palettes : ℕ) (r : Reading)
    → AcceptsSpectrum file screen palettes r kind → read_spectrum kind file screen palettes ≡ Ok r
spectrum-accepted kind file screen palettes r (spu room enough a) =
    kind-spu file kind_spu screen palettes room enough refl ∙ spu-accepted file r a
spectrum-accepted kind file screen palettes r (spc room enough a) =
    kind-spc file kind_spc screen palettes room enough refl ∙ spc-accepted file r a

pub spectrum-refused : (kind : ℕ) (file : List ℕ) (screen palettes : ℕ) (why : Refusal) → Bytes file
    → RefusesSpectrum file screen palettes kind why → read_spectrum kind file screen palettes ≡ Err why
spectrum-refused kind file screen palettes why bytes (screen_short h) = screen-short file kind screen palettes h
spectrum-refused kind file screen palettes why bytes (palettes_short h) = palettes-short file kind screen palettes h
spectrum-refused kind file screen palettes why bytes (other_kind room enough u c) =
    kind-other file kind screen palettes room enough u c
spectrum-refused kind file screen palettes why bytes (spu_length room enough h) =
    kind-spu file kind_spu screen palettes room enough refl ∙ spu-wrong file h
spectrum-refused kind file screen palettes why bytes (spc_refused room enough h) =
    kind-spc file kind_spc screen palettes room enough refl ∙ spc-refused file bytes why h

-- ---- a file of bytes is accepted or refused, by the relations

module _ (file : List ℕ) (bytes : Bytes file) where
  abbrev Spc : Type 0
  Spc = ((r : Reading) × AcceptsSpc file r) ⊎ ((why : Refusal) × RefusesSpc file why)

  abbrev spu_reading : Reading
  spu_reading = record { screen = take 32000 file; palettes = words_at palette_words file 32000 }

  spu-accepts : length file ≡ spu_bytes → AcceptsSpu file spu_reading
  unfolding words_at
  spu-accepts h =
      let words : List ℕ = words_at palette_words file 32000 in
      let all : length file ≤ 51104 = omega arith in
      let behind : drop 32000 file ≡ words_bytes words =
      sym (words-restored file bytes palette_words 32000 (omega arith))
      ∙ ap (λ (l : List ℕ). words_bytes words ++ l) (drop_of_length-le file all)
      ∙ append-nil (words_bytes words) in
      record {
        parts = sym (take-append-drop 32000 file) ∙ ap (λ (l : List ℕ). take 32000 file ++ l) behind;
        screen_size = length-take-le 32000 file (omega arith);
        palette_size = length-tabulate palette_words _;
      }

  abbrev packed : List ℕ
  packed = drop header_bytes (before_colours file)

  abbrev colours : List ℕ
  colours = drop (colour_start file) file

  -- the colour map
  module _ (h : HoldsMaps file packed colours) (planes : List ℕ) (u : HoldsPlanes packed planes)
      (full : plane_bytes ≤ length planes) where
    abbrev start : ℕ
    start = colour_start file

    inside : start ≤ length file
    inside = (maps-at file packed colours h).colours_at.inside

    palettes-refuse : (number place : ℕ) → place ≤ length file
        → StopsPalettes palette_count colours number (drop place file) → (number ≡ 6) ⊎ (number ≡ 15)
        → RefusesSpc file (refusal_at number place)
    palettes-refuse number place l s (inl k) =
        let at : length file - length (drop place file) ≡ place = omega (arith, length-drop place file) in
        rw (k, ← at) (palette_cut h u (rw k at s))
    palettes-refuse number place l s (inr k) = rw k (vector_wrong h u (rw k at s))

    colours-either : (o : Outcome ℕ) → judge_palettes palette_count file start ≡ o → Spc
    colours-either (Err why) e =
        let t = palettes-stop file bytes palette_count start why inside e in
        inr (_, palettes-refuse t.number t.place t.inside t.stops (stops-number t.stops))
    colours-either (Ok end) e = go (dec_lt end (length file))
      where
        words : List ℕ
        words = palettes palette_count file start no_palette

        held : HoldsPalettes palette_count no_palette colours (drop end file) words
        held = palettes-hold file bytes palette_count start end no_palette refl e

        go : Dec (end < length file) → Spc
        go (yes more) = inr (_, colours_left h u held (omega (arith, length-drop end file)))
        go (no less) =
            let all : length file ≤ end = omega arith in
            inl (
              record { screen = spc_screen planes; palettes = words },
              record {
                packed = packed;
                colours = colours;
                planes = planes;
                maps = h;
                unpacks = u;
                screen = screen-of planes full;
                palettes =
                    subst (λ (l : List ℕ). HoldsPalettes palette_count no_palette colours l words)
                    (drop_of_length-le file all) held;
              },
            )

  -- the data map
  module _ (h : HoldsMaps file packed colours) where
    m : MapsAt file packed colours
    m = maps-at file packed colours h

    size : length (before_colours file) ≡ colour_start file
    size = before-length file packed colours m

    data-either : (o : Outcome ℕ) → (unpacked_data file).ends ≡ o → Spc
    data-either (Err why) e =
        let t = map-stops (before_colours file) (bytes_take (colour_start file) file bytes) header_bytes plane_bytes why
        (omega (arith, m.data_at.inside)) e in
        let at : header_bytes + length packed - length (drop t.place (before_colours file)) ≡ t.place =
        omega (arith, size, m.start, length-drop t.place (before_colours file), t.inside) in
        inr (_, subst (λ (k : ℕ). RefusesSpc file (refusal t.number k)) at (in_data h t.stops))
    data-either (Ok end) e = go (dec_lt (end + 1) (colour_start file))
      where
        planes : List ℕ
        planes = (unpacked_data file).made

        made : Makes WholeRecord plane_bytes packed (drop end (before_colours file)) planes
        made =
            map-makes (before_colours file) (bytes_take (colour_start file) file bytes) header_bytes plane_bytes end
            m.data_at.inside e

        go : Dec (end + 1 < colour_start file) → Spc
        go (yes more) = inr (_, data_left h made (omega (arith, length-drop end (before_colours file), size)))
        go (no few) =
            colours-either h planes
            (record {
              behind = drop end (before_colours file);
              unpacks = made;
              few = omega (arith, length-drop end (before_colours file), size);
            })
            (omega (arith, map-all (before_colours file) header_bytes plane_bytes end e))
            (judge_palettes palette_count file (colour_start file)) refl

  -- the header
  spc-either : Spc
  spc-either = by_size (dec_lt (length file) header_bytes)
    where
      by-words : header_bytes ≤ length file → length file ≡ spc_length file → (f r : Bool)
          → eqb (flag file) spc_flag ≡ f → eqb (reserved file) 0 ≡ r → Spc
      by-words long fits true true e z =
          data-either (holds-maps file bytes long fits (eqb-true (flag file) spc_flag e) (eqb-true (reserved file) 0 z))
          (unpacked_data file).ends refl
      by-words long fits false r e z =
          inr (
            _,
            header_wrong (long-begins file long) (omega (arith, length-drop header_bytes file))
                (λ w. eqb-false (flag file) spc_flag e (words_right file w).0),
          )
      by-words long fits true false e z =
          inr (
            _,
            header_wrong (long-begins file long) (omega (arith, length-drop header_bytes file))
                (λ w. eqb-false (reserved file) 0 z (words_right file w).1),
          )

      by_length : header_bytes ≤ length file → (b : Bool) → eqb (length file) (spc_length file) ≡ b → Spc
      by_length long true e =
          by-words long (eqb-true (length file) (spc_length file) e) (eqb (flag file) spc_flag)
          (eqb (reserved file) 0) refl refl
      by_length long false e =
          inr (
            _,
            length_wrong (long-begins file long)
                (λ k. eqb-false (length file) (spc_length file) e (omega (arith, length-drop header_bytes file))),
          )

      by_size : Dec (length file < header_bytes) → Spc
      by_size (yes h) = inr (_, file_short h)
      by_size (no long) = by_length (omega arith) (eqb (length file) (spc_length file)) refl

  module _ (kind screen palettes : ℕ) where
    abbrev Either : Type 0
    Either = ((r : Reading) × AcceptsSpectrum file screen palettes r kind)
        ⊎ ((why : Refusal) × RefusesSpectrum file screen palettes kind why)

    either : Either
    either = by-screen (dec_lt screen 32000)
      where
        by-spc : 32000 ≤ screen → 9552 ≤ palettes → kind ≡ kind_spc → Spc → Either
        by-spc room enough k (inl a) = inl (a.0, rw k (spc room enough a.1))
        by-spc room enough k (inr w) = inr (w.0, rw k (spc_refused room enough w.1))

        by-spu : 32000 ≤ screen → 9552 ≤ palettes → kind ≡ kind_spu → (b : Bool) → eqb (length file) spu_bytes ≡ b
            → Either
        by-spu room enough k true e =
            inl (spu_reading, rw k (spu room enough (spu-accepts (eqb-true (length file) spu_bytes e))))
        by-spu room enough k false e =
            inr (refusal 3 0, rw k (spu_length room enough (eqb-false (length file) spu_bytes e)))

        by_kind : 32000 ≤ screen → 9552 ≤ palettes → (u c : Bool) → eqb kind kind_spu ≡ u → eqb kind kind_spc ≡ c
            → Either
        by_kind room enough true c e f = by-spu room enough (eqb-true kind kind_spu e) (eqb (length file) spu_bytes) refl
        by_kind room enough false true e f = by-spc room enough (eqb-true kind kind_spc f) spc-either
        by_kind room enough false false e f =
            inr (_, other_kind room enough (eqb-false kind kind_spu e) (eqb-false kind kind_spc f))

        by-palettes : 32000 ≤ screen → Dec (palettes < 9552) → Either
        by-palettes room (yes h) = inr (_, palettes_short h)
        by-palettes room (no h) = by_kind room (omega arith) (eqb kind kind_spu) (eqb kind kind_spc) refl refl

        by-screen : Dec (screen < 32000) → Either
        by-screen (yes h) = inr (_, screen_short h)
        by-screen (no h) = by-palettes (omega arith) (dec_lt palettes 9552)

    -- ---- the relations from the function

    pub spectrum-accepts : (r : Reading) → read_spectrum kind file screen palettes ≡ Ok r
        → AcceptsSpectrum file screen palettes r kind
    spectrum-accepts r e = go either
      where
        go : Either → AcceptsSpectrum file screen palettes r kind
        go (inl a) =
            let same = sym (spectrum-accepted kind file screen palettes a.0 a.1) ∙ e in
            let is : a.0 ≡ r = cc in
            rw is at a.1
        go (inr w) =
            let none = sym (spectrum-refused kind file screen palettes w.0 bytes w.1) ∙ e in
            let z : ◌≡◌ {A = ℕ} 0 1 = cc in
            absurd (omega arith)

    pub spectrum-refuses : (why : Refusal) → read_spectrum kind file screen palettes ≡ Err why
        → RefusesSpectrum file screen palettes kind why
    spectrum-refuses why e = go either
      where
        go : Either → RefusesSpectrum file screen palettes kind why
        go (inl a) =
            let none = sym (spectrum-accepted kind file screen palettes a.0 a.1) ∙ e in
            let z : ◌≡◌ {A = ℕ} 0 1 = cc in
            absurd (omega arith)
        go (inr w) =
            let same = sym (spectrum-refused kind file screen palettes w.0 bytes w.1) ∙ e in
            let is : w.0 ≡ why = cc in
            rw is at w.1

-- ---- one reading, and a number

-- a file gives one reading only
pub spectrum-unique : (kind : ℕ) (file : List ℕ) (screen palettes : ℕ) (r s : Reading)
    → AcceptsSpectrum file screen palettes r kind → AcceptsSpectrum file screen palettes s kind → r ≡ s
spectrum-unique kind file screen palettes r s a b =
    let same = sym (spectrum-accepted kind file screen palettes r a)
    ∙ spectrum-accepted kind file screen palettes s b in
    cc

-- a refusal has a number
spc-number : (file : List ℕ) (why : Refusal) → RefusesSpc file why → why.number ≡ 0 → ⊥
spc-number file why (file_short h) e = omega arith
spc-number file why (length_wrong b h) e = omega arith
spc-number file why (header_wrong b h w) e = omega arith
spc-number file why (in_data h s) e = go (map-numbers s)
  where
    go : (why.number ≡ 6) ⊎ (why.number ≡ 7) → ⊥
    go (inl k) = omega arith
    go (inr k) = omega arith
spc-number file why (data_left h u many) e = omega arith
spc-number file why (vector_wrong h u s) e = omega arith
spc-number file why (palette_cut h u s) e = omega arith
spc-number file why (colours_left h u p some) e = omega arith

pub refuses-number : (kind : ℕ) (file : List ℕ) (screen palettes : ℕ) (why : Refusal)
    → RefusesSpectrum file screen palettes kind why → why.number ≡ 0 → ⊥
refuses-number kind file screen palettes why (screen_short h) e = omega arith
refuses-number kind file screen palettes why (palettes_short h) e = omega arith
refuses-number kind file screen palettes why (other_kind room enough u c) e = omega arith
refuses-number kind file screen palettes why (spu_length room enough h) e = omega arith
refuses-number kind file screen palettes why (spc_refused room enough h) e = spc-number file why h e
