-- Palettes are refused exactly as the relation `StopsPalettes` says.
use Rattle.std.specs.Prelude.{Ok, Err}
use mathlib.Core.Path.{◌≡◌, refl, sym, ap, ◌∙◌, subst}
use mathlib.Core.Logic.{◌⊎◌, inl, inr}
use mathlib.Core.Bool.{Bool, true, false, cond}
use mathlib.Core.List.{List, ◌++◌}
use Prim.Native.Nat.{ℕ, zero, suc, ◌+◌, ◌^◌, ◌≤◌, ◌<◌}
use native.Mathlib.Decide.{dec_lt}
use native.Mathlib.Omega.{arith}
use lib.ListN.{length, drop, length-drop}
use lib.Dec.{ltb, eqb}
use Rattle.lists.specs.Bytes.{Bytes}
use Rattle.lists.proofs.Tabulate.{length-tabulate}
use Rattle.outcome.specs.declared.Refusal.{Refusal}
use Rattle.outcome.specs.Outcome.{Outcome, refusal, refuse_at_if, bind}
use Rattle.outcome.specs.Refusal.{bit15_set}
use Rattle.words.specs.Word.{word_at, words_at, word_bytes}
use Rattle.words.proofs.Word.{word_at-lt, word-restored}
use Rattle.filling.proofs.Makes.{Stands, length-stands}
use Rattle.spectrum_colour_map.specs.Vector.{bit, named}
use Rattle.spectrum_colour_map.specs.Palettes.{palette_end, judge_palette, judge_palettes}
use Rattle.spectrum_colour_map.specs.StopsPalettes.{StopsPalettes, vector_cut, bit15, words_cut, after_palette}
use Rattle.spectrum_colour_map.proofs.Vector.{below-clear, above-set}
use Rattle.spectrum_colour_map.proofs.Palettes.{vector-cut, vector-wrong, words-cut, palette-whole}
use Rattle.spectrum_colour_map.proofs.HoldsPalettes.{stands-behind, word_stands, behind-palette}
use Rattle.spectrum_colour_map.proofs.HoldsPalettes.{palette-accepted, palette-bytes}

-- the refusal of a palette at an offset with this number: 15 has no place
abbrev pub refusal_at : ℕ → ℕ → Refusal
refusal_at number place = refusal number (cond (eqb number bit15_set) 0 place)

-- ---- the first palette decides where it is refused, and else the others

module _ (file : List ℕ) (n at : ℕ) where
  first-refused : (why : Refusal) → judge_palette file at ≡ Err why → judge_palettes (suc n) file at ≡ Err why
  unfolding judge_palettes
  first-refused why e = rw e

  first-accepted : (next : ℕ) → judge_palette file at ≡ Ok next
      → judge_palettes (suc n) file at ≡ judge_palettes n file next
  unfolding judge_palettes
  first-accepted next e = rw e

-- ---- the function from the relation

-- palettes from an offset on are refused with this number, and these bytes stand where the one at fault begins
pub record HaltsAt (file : List ℕ) (at n number : ℕ) (rest : List ℕ) : Type 0 where
  pub place : ℕ
  pub stands : Stands file place rest
  pub judged : judge_palettes n file at ≡ Err (refusal_at number place)

module _ (file : List ℕ) where
  -- how many bytes stand at an offset
  vector-behind : (at v : ℕ) (rest : List ℕ) → Stands file at (word_bytes v ++ rest) → Stands file (at + 2) rest
  unfolding word_bytes
  vector-behind at v rest s = stands-behind file at (word_bytes v) rest s

  pub palettes-halt : (at : ℕ) {n number : ℕ} {input rest : List ℕ} → Stands file at input
      → StopsPalettes n input number rest → HaltsAt file at n number rest
  unfolding palette_end
  palettes-halt at s (vector_cut {n} h) =
      let short : length file < at + 2 = omega (arith, length-stands file at s) in
      record { place = at; stands = s; judged = first-refused file n at _ (vector-cut file at short) }
  palettes-halt at s (bit15 {n} v rest above below) =
      let set : bit (word_at file at) 15 ≡ 1 =
      ap (λ (u : ℕ). bit u 15) (word_stands file at v rest s) ∙ above-set v above below in
      let wrong = vector-wrong file at (vector-behind at v rest s).inside set in
      record { place = at; stands = s; judged = first-refused file n at _ wrong }
  palettes-halt at s (words_cut {n} v rest small h) =
      let vector : word_at file at ≡ v = word_stands file at v rest s in
      let b = vector-behind at v rest s in
      let clear : bit (word_at file at) 15 ≡ 1 → ⊥ =
      λ set. below-clear v small (sym (ap (λ (u : ℕ). bit u 15) vector) ∙ set) in
      let short : length file < palette_end file at = omega (arith, length-stands file (at + 2) b, ap named vector) in
      record { place = at; stands = s; judged = first-refused file n at _ (words-cut file at b.inside clear short) }
  palettes-halt at s (after_palette {n} v words {input} small many further) =
      let t = palettes-halt (palette_end file at) (behind-palette file at v words input many s) further in
      record {
        place = t.place;
        stands = t.stands;
        judged = first-accepted file n at _ (palette-accepted file at v words input many s small) ∙ t.judged;
      }

-- ---- the relation from the function

-- where palettes stopped
pub record StoppedAt (file : List ℕ) (at n : ℕ) (why : Refusal) : Type 0 where
  pub number : ℕ
  pub place : ℕ
  pub inside : place ≤ length file
  pub is : why ≡ refusal_at number place
  pub stops : StopsPalettes n (drop at file) number (drop place file)

module _ (file : List ℕ) (bytes : Bytes file) where
  -- at the first palette
  stopped-here : (n at number : ℕ) (why : Refusal) → at ≤ length file
      → judge_palette file at ≡ Err (refusal_at number at) → judge_palettes (suc n) file at ≡ Err why
      → StopsPalettes (suc n) (drop at file) number (drop at file) → StoppedAt file at (suc n) why
  stopped-here n at number why h fault e stops =
      let same : Err (refusal_at number at) ≡ Err why = sym (first-refused file n at _ fault) ∙ e in
      record { number = number; place = at; inside = h; is = cc; stops = stops }

  -- at a later one
  stopped-later : (n at : ℕ) (why : Refusal) → word_at file at < 2 ^ 15 → palette_end file at ≤ length file
      → StoppedAt file (palette_end file at) n why → StoppedAt file at (suc n) why
  unfolding words_at
  stopped-later n at why small has t =
      let v : ℕ = word_at file at in
      record {
        number = t.number;
        place = t.place;
        inside = t.inside;
        is = t.is;
        stops =
            rw (palette-bytes file bytes at has)
            (after_palette v (words_at (named v) file (at + 2)) small (length-tabulate (named v) _) t.stops);
      }

  stopped-at : (n at : ℕ) (why : Refusal) → at ≤ length file → judge_palettes (suc n) file at ≡ Err why
      → ((next : ℕ) → next ≤ length file → judge_palettes n file next ≡ Err why → StoppedAt file next n why)
      → Dec (length file < at + 2) → Dec (word_at file at < 2 ^ 15) → Dec (length file < palette_end file at)
      → StoppedAt file at (suc n) why
  unfolding palette_end
  stopped-at n at why h e later (yes short) small cut =
      stopped-here n at 6 why h (vector-cut file at short) e (vector_cut (omega (arith, length-drop at file)))
  stopped-at n at why h e later (no long) (no large) cut =
      let v : ℕ = word_at file at in
      let below : v < 2 ^ 16 = word_at-lt file bytes at in
      let above : 2 ^ 15 ≤ v = omega arith in
      let has : at + 2 ≤ length file = omega arith in
      stopped-here n at 15 why h (vector-wrong file at has (above-set v above below)) e
      (subst (λ (l : List ℕ). StopsPalettes (suc n) l 15 l) (word-restored file bytes at has)
      (bit15 v (drop (at + 2) file) above below))
  stopped-at n at why h e later (no long) (yes small) (yes short) =
      let v : ℕ = word_at file at in
      let has : at + 2 ≤ length file = omega arith in
      stopped-here n at 6 why h (words-cut file at has (below-clear v small) short) e
      (subst (λ (l : List ℕ). StopsPalettes (suc n) l 6 l) (word-restored file bytes at has)
      (words_cut v (drop (at + 2) file) small (omega (arith, length-drop (at + 2) file))))
  stopped-at n at why h e later (no long) (yes small) (no short) =
      let has : palette_end file at ≤ length file = omega arith in
      let whole = palette-whole file at (omega arith) (below-clear (word_at file at) small) has in
      stopped-later n at why small has (later (palette_end file at) has (sym (first-accepted file n at _ whole) ∙ e))

  pub palettes-stop : (n at : ℕ) (why : Refusal) → at ≤ length file → judge_palettes n file at ≡ Err why
      → StoppedAt file at n why
  unfolding judge_palettes
  palettes-stop zero at why h e = let z : ◌≡◌ {A = ℕ} 0 1 = cc in absurd (omega arith)
  palettes-stop (suc n) at why h e =
      stopped-at n at why h e (λ next k f. palettes-stop n next why k f) (dec_lt (length file) (at + 2))
      (dec_lt (word_at file at) (2 ^ 15)) (dec_lt (length file) (palette_end file at))

-- ---- the numbers

-- of a palette at fault
abbrev pub PaletteNumber : ℕ → Type 0
PaletteNumber number = (number ≡ 6) ⊎ (number ≡ 15)

pub stops-number : {n number : ℕ} {input rest : List ℕ} → StopsPalettes n input number rest → PaletteNumber number
stops-number (vector_cut h) = inl refl
stops-number (bit15 v rest above below) = inr refl
stops-number (words_cut v rest small h) = inl refl
stops-number (after_palette v words small many further) = stops-number further

-- the same of the function, at every offset
abbrev Numbered : Outcome ℕ → Type 0
Numbered (Ok end) = Unit {0}
Numbered (Err why) = PaletteNumber why.number

numbered-if : (t : Bool) (number place : ℕ) (further : Outcome ℕ) → PaletteNumber number → Numbered further
    → Numbered (refuse_at_if t number place further)
numbered-if true number place further m rest = m
numbered-if false number place further m rest = rest

module _ (file : List ℕ) where
  palette-numbered : (at : ℕ) → Numbered (judge_palette file at)
  unfolding judge_palette
  palette-numbered at =
      numbered-if (ltb (length file) (at + 2)) 6 at _ (inl refl)
      (numbered-if (eqb (bit (word_at file at) 15) 1) 15 0 _ (inr refl)
      (numbered-if (ltb (length file) (palette_end file at)) 6 at (Ok (palette_end file at)) (inl refl) tt))

  palettes-numbered : (n at : ℕ) → Numbered (judge_palettes n file at)
  unfolding judge_palettes
  palettes-numbered zero at = tt
  palettes-numbered (suc n) at =
      go (judge_palette file at) (palette-numbered at) (λ next. palettes-numbered n next)
    where
      go : (o : Outcome ℕ) → Numbered o → ((next : ℕ) → Numbered (judge_palettes n file next))
          → Numbered (bind o (λ next. judge_palettes n file next))
      go (Ok next) m later = later next
      go (Err why) m later = m

  pub palettes-number : (n at : ℕ) (why : Refusal) → judge_palettes n file at ≡ Err why
      → PaletteNumber why.number
  palettes-number n at why e = subst Numbered e (palettes-numbered n at)
