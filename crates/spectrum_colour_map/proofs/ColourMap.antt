-- Laws of the colour map, judged and read whole.
use Rattle.std.specs.Prelude.{Ok, Err}
use mathlib.Core.Path.{◌≡◌, refl, sym, ap, ◌∙◌}
use mathlib.Core.Logic.{◌↔◌}
use mathlib.Core.List.{List, []}
use Prim.Native.Nat.{ℕ, ◌≤◌, ◌<◌}
use native.Mathlib.Omega.{arith}
use lib.ListN.{length, drop, length-drop, drop_of_length-le}
use lib.Dec.{ltb}
use borrow.Author.Tests.{lt-ltb, le-ltb, ltb-false}
use Rattle.lists.specs.Bytes.{Bytes}
use Rattle.outcome.specs.declared.Refusal.{Refusal}
use Rattle.outcome.specs.Outcome.{Outcome, refuse, refuse_if, bind}
use Rattle.outcome.specs.Refusal.{area_too_short, size_mismatch}
use Rattle.outcome.proofs.Outcome.{passed}
use Rattle.spectrum_colour_map.specs.Palettes.{palettes, judge_palettes}
use Rattle.spectrum_colour_map.specs.HoldsPalettes.{HoldsPalettes}
use Rattle.spectrum_colour_map.specs.ColourMap.{palette_count, palette_words, no_palette, judge_map, read_map}
use Rattle.spectrum_colour_map.proofs.Palettes.{length-palettes}
use Rattle.spectrum_colour_map.proofs.HoldsPalettes.{palettes-held, palettes-hold}

module _ (file : List ℕ) (at : ℕ) where
  -- ---- all palettes judged

  pub map-refused : (why : Refusal) → judge_palettes palette_count file at ≡ Err why → judge_map file at ≡ Err why
  unfolding judge_map
  map-refused why is = rw is

  module _ (end : ℕ) (is : judge_palettes palette_count file at ≡ Ok end) where
    pub bytes_left : end < length file → judge_map file at ≡ refuse size_mismatch
    unfolding judge_map
    bytes_left h = rw (is, lt-ltb end (length file) h)

    pub map-accepted : length file ≤ end → judge_map file at ≡ Ok end
    unfolding judge_map
    map-accepted h = rw (is, le-ltb end (length file) h)

  -- of a map that is accepted the palettes are, and the last one ends it
  pub map_whole : (end : ℕ) → judge_map file at ≡ Ok end
      → (judge_palettes palette_count file at ≡ Ok end) × (length file ≤ end)
  unfolding judge_map
  map_whole end e = go (judge_palettes palette_count file at) e
    where
      go : (o : Outcome ℕ)
          → bind o (λ next. refuse_if (ltb next (length file)) size_mismatch (Ok next)) ≡ Ok end
          → (o ≡ Ok end) × (length file ≤ end)
      go (Ok next) f =
          let p = passed (ltb next (length file)) size_mismatch (Ok next) end f in
          let same : next ≡ end = let q = p.1 in cc in
          (p.1, omega (arith, ltb-false next (length file) p.0))
      go (Err why) f = let z : ◌≡◌ {A = ℕ} 0 1 = cc in absurd (omega arith)

  -- ---- the map read

  pub area-short : (area : ℕ) → area < palette_words → read_map file at area ≡ refuse area_too_short
  unfolding read_map
  area-short area h = rw (lt-ltb area palette_words h)

  module _ (area : ℕ) (room : palette_words ≤ area) where
    pub read-refused : (why : Refusal) → judge_map file at ≡ Err why → read_map file at area ≡ Err why
    unfolding read_map
    read-refused why e = rw (le-ltb area palette_words room, e)

    pub read-accepted : (end : ℕ) → judge_map file at ≡ Ok end
        → read_map file at area ≡ Ok (palettes palette_count file at no_palette)
    unfolding read_map
    read-accepted end e = rw (le-ltb area palette_words room, e)

  -- ---- exact

  -- 597 palettes have 9,552 words
  pub length-map : length (palettes palette_count file at no_palette) ≡ palette_words
  length-map = length-palettes file palette_count at no_palette

  -- the map read from an offset inside a file, just where the bytes from there on hold its palettes, and no byte more
  pub map-exact : (area : ℕ) (words : List ℕ) → Bytes file → at ≤ length file → palette_words ≤ area
      → (read_map file at area ≡ Ok words) ↔ HoldsPalettes palette_count no_palette (drop at file) [] words
  map-exact area words bytes inside room = (λ e. go (judge_map file at) refl e, back)
    where
      go : (o : Outcome ℕ) → judge_map file at ≡ o → read_map file at area ≡ Ok words
          → HoldsPalettes palette_count no_palette (drop at file) [] words
      go (Ok end) is e =
          let w = map_whole end is in
          let same : Ok (palettes palette_count file at no_palette) ≡ Ok words =
          sym (read-accepted area room end is) ∙ e in
          let made : palettes palette_count file at no_palette ≡ words = cc in
          rw (made, drop_of_length-le file w.1)
          at (palettes-hold file bytes palette_count at end no_palette refl w.0)
      go (Err why) is e =
          let no : Err why ≡ Ok words = sym (read-refused area room why is) ∙ e in
          let z : ◌≡◌ {A = ℕ} 0 1 = cc in
          absurd (omega arith)

      back : HoldsPalettes palette_count no_palette (drop at file) [] words → read_map file at area ≡ Ok words
      back h =
          let r = palettes-held file at (record { bytes = refl; inside = inside }) h in
          let whole : length file ≤ r.end = omega (arith, ap length r.stands.bytes, length-drop r.end file) in
          read-accepted area room r.end (map-accepted r.end r.judged whole) ∙ ap Ok r.makes
