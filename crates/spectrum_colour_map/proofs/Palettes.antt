-- Laws of the palettes of a colour map: judged and written, one after the other.
use Rattle.std.specs.Prelude.{Ok, Err}
use mathlib.Core.Path.{◌≡◌, refl, sym, ap, ◌∙◌, subst}
use mathlib.Core.Bool.{Bool, true, false, cond}
use mathlib.Core.List.{List, [], ◌++◌}
use Prim.Native.Nat.{ℕ, zero, suc, ◌+◌, ◌-◌, ◌*◌, ◌≤◌, ◌<◌}
use native.Mathlib.Omega.{arith}
use lib.ListN.{length, get_or, take, drop, length-append}
use lib.Seq.{length-take-le}
use lib.Dec.{ltb, eqb}
use borrow.Rule.Slice.PartMut.{put_mid}
use borrow.Author.Tests.{ltb-false, lt-ltb, le-ltb, eq-eqb, ne_eqb, eqb-true, eqb-false}
use Rattle.lists.specs.Over.{over}
use Rattle.lists.specs.Sum.{sum}
use Rattle.lists.specs.Tabulate.{tabulate}
use Rattle.lists.proofs.Over.{get_or-over-past}
use Rattle.lists.proofs.Pieces.{PartlyWritten, writing_more}
use Rattle.lists.proofs.Tabulate.{length-tabulate, tabulate-ext, tabulate-get_or}
use Rattle.outcome.specs.Outcome.{Outcome, refusal, refuse, refuse_at_if, bind}
use Rattle.outcome.specs.Refusal.{input_ends, bit15_set}
use Rattle.outcome.proofs.Outcome.{passed}
use Rattle.words.specs.Word.{word_at}
use Rattle.spectrum_colour_map.specs.Vector.{bit, named_below}
use Rattle.spectrum_colour_map.specs.Palettes.{palette_end, entry, palette, judge_palette, palettes, judge_palettes}
use Rattle.spectrum_colour_map.proofs.Vector.{no-bit, named-among}

-- ---- a palette judged

module _ (file : List ℕ) (at : ℕ) where
  pub vector-cut : length file < at + 2 → judge_palette file at ≡ Err (refusal input_ends at)
  unfolding judge_palette
  vector-cut h = rw (lt-ltb (length file) (at + 2) h)

  module _ (has : at + 2 ≤ length file) where
    pub vector-wrong : bit (word_at file at) 15 ≡ 1 → judge_palette file at ≡ refuse bit15_set
    unfolding judge_palette
    vector-wrong b = rw (le-ltb (length file) (at + 2) has, eq-eqb (bit (word_at file at) 15) 1 b)

    module _ (right : bit (word_at file at) 15 ≡ 1 → ⊥) where
      pub words-cut : length file < palette_end file at → judge_palette file at ≡ Err (refusal input_ends at)
      unfolding judge_palette
      words-cut h =
          rw (
            le-ltb (length file) (at + 2) has,
            ne_eqb (bit (word_at file at) 15) 1 right,
            lt-ltb (length file) (palette_end file at) h,
          )

      pub palette-whole : palette_end file at ≤ length file → judge_palette file at ≡ Ok (palette_end file at)
      unfolding judge_palette
      palette-whole h =
          rw (
            le-ltb (length file) (at + 2) has,
            ne_eqb (bit (word_at file at) 15) 1 right,
            le-ltb (length file) (palette_end file at) h,
          )

-- what an accepted palette has
pub record WholeAt (file : List ℕ) (at next : ℕ) : Type 0 where
  pub right : bit (word_at file at) 15 ≡ 1 → ⊥
  pub ends : next ≡ palette_end file at
  pub has : next ≤ length file

pub whole_here : (file : List ℕ) (at next : ℕ) → judge_palette file at ≡ Ok next → WholeAt file at next
unfolding judge_palette
whole_here file at next e =
    let a = passed-at (ltb (length file) (at + 2)) input_ends at _ next e in
    let b = passed (eqb (bit (word_at file at) 15) 1) bit15_set _ next a.1 in
    let d = passed-at (ltb (length file) (palette_end file at)) input_ends at _ next b.1 in
    let ends : next ≡ palette_end file at = let f = d.1 in cc in
    record {
      right = eqb-false (bit (word_at file at) 15) 1 b.0;
      ends = ends;
      has = omega (arith, ltb-false (length file) (palette_end file at) d.0);
    }
  where
    passed-at : (t : Bool) (number place : ℕ) (further : Outcome ℕ) (end : ℕ)
        → refuse_at_if t number place further ≡ Ok end → (t ≡ false) × (further ≡ Ok end)
    passed-at true number place further end e = let z : ◌≡◌ {A = ℕ} 0 1 = cc in absurd (omega arith)
    passed-at false number place further end e = (refl, e)

-- ---- palettes judged one after the other

module _ (file : List ℕ) where
  pub judge-none : (n at : ℕ) → n ≡ 0 → judge_palettes n file at ≡ Ok at
  unfolding judge_palettes
  judge-none n at e = rw e

  pub judge-one : (n at : ℕ) → 0 < n
      → judge_palettes n file at ≡ bind (judge_palette file at) (λ next. judge_palettes (n - 1) file next)
  unfolding judge_palettes
  judge-one zero at h = absurd (omega arith)
  judge-one (suc n) at h = let less : suc n - 1 ≡ n = omega arith in rw less

  -- the first of palettes that are accepted
  pub record FirstAt (n at end : ℕ) : Type 0 where
    pub whole : WholeAt file at (palette_end file at)
    pub rest : judge_palettes (n - 1) file (palette_end file at) ≡ Ok end

  pub first-whole : (n at end : ℕ) → 0 < n → judge_palettes n file at ≡ Ok end → FirstAt n at end
  first-whole n at end h e = go (judge_palette file at) refl
    where
      go : (o : Outcome ℕ) → judge_palette file at ≡ o → FirstAt n at end
      go (Ok next) is =
          let w = whole_here file at next is in
          let rest : judge_palettes (n - 1) file next ≡ Ok end = sym (judge-one n at h ∙ rw is) ∙ e in
          record { whole = rw w.ends at w; rest = rw w.ends at rest }
      go (Err why) is =
          let r : Err why ≡ Ok end = sym (judge-one n at h ∙ rw is) ∙ e in
          let z : ◌≡◌ {A = ℕ} 0 1 = cc in
          absurd (omega arith)

-- ---- a palette's entries

pub length-palette : (file : List ℕ) (at : ℕ) (before : List ℕ) → length (palette file at before) ≡ 16
unfolding palette
length-palette file at before = length-tabulate 16 (entry file at before)

-- one that names no entry is the palette before
module _ (file : List ℕ) (at : ℕ) (none : word_at file at ≡ 0) where
  pub palette-kept : (before : List ℕ) → length before ≡ 16 → palette file at before ≡ before
  unfolding palette entry
  palette-kept before all =
      tabulate-ext 16 (entry file at before) (λ i. get_or before i 0) (λ i h. rw (none, no-bit i))
      ∙ ap (λ (n : ℕ). tabulate n (λ i. get_or before i 0)) (sym all)
      ∙ tabulate-get_or before 0

  pub end_kept : at + 2 ≡ palette_end file at
  unfolding palette_end named_below sum bit
  end_kept = rw none (omega arith)

-- the last word that is named below an entry is inside the palette
pub named-inside : (file : List ℕ) (at v i : ℕ) → v ≡ word_at file at → i ≤ 16
    → at + named_below v i * 2 + 2 ≤ palette_end file at
unfolding palette_end
named-inside file at v i e h = rw e (omega (arith, named-among (word_at file at) i h))

-- an entry as the code makes it: from the last word that is named so far, and from the entries before, of which i are
-- written over
pub entry-is : (file before last : List ℕ) (at i v set from x : ℕ) → v ≡ word_at file at → set ≡ bit v i
    → from ≡ at + named_below v i * 2 → i < 16 → last ≡ over (take i (palette file at before)) before
    → x ≡ cond (eqb set 1) (word_at file (from + set * 2)) (get_or last i 0) → x ≡ entry file at before i
unfolding entry
entry-is file before last at i v set from x vs s f h l e = rw (← vs, ← s) (e ∙ go (eqb set 1) refl)
  where
    kept : get_or last i 0 ≡ get_or before i 0
    kept =
        let p : List ℕ = take i (palette file at before) in
        let size : length p ≡ i =
        length-take-le i (palette file at before) (omega (arith, length-palette file at before)) in
        ap (λ (d : List ℕ). get_or d i 0) l ∙ get_or-over-past p before i 0 (omega arith)

    go : (b : Bool) → eqb set 1 ≡ b → cond b (word_at file (from + set * 2)) (get_or last i 0)
        ≡ cond b (word_at file (at + 2 + named_below v i * 2)) (get_or before i 0)
    go true q =
        let one : set ≡ 1 = eqb-true set 1 q in
        let same : from + set * 2 ≡ at + 2 + named_below v i * 2 = omega arith in
        ap (word_at file) same
    go false q = kept

-- ---- palettes written one after the other

module _ (file : List ℕ) where
  pub length-palettes : (n at : ℕ) (before : List ℕ) → length (palettes n file at before) ≡ n * 16
  unfolding palettes
  length-palettes zero at before = refl
  length-palettes (suc n) at before =
      let p : List ℕ = palette file at before in
      omega (
        arith,
        length-append p (palettes n file (palette_end file at) p),
        length-palette file at before,
        length-palettes n (palette_end file at) p,
      )

  pub palettes-none : (n at : ℕ) (before : List ℕ) → n ≡ 0 → palettes n file at before ≡ []
  unfolding palettes
  palettes-none n at before e = rw e

  palettes-one : (n at : ℕ) (before : List ℕ) → 0 < n → palettes n file at before
      ≡ palette file at before ++ palettes (n - 1) file (palette_end file at) (palette file at before)
  unfolding palettes
  palettes-one zero at before h = absurd (omega arith)
  palettes-one (suc n) at before h = let less : suc n - 1 ≡ n = omega arith in rw less

  -- a turn of the loop that writes them: `left` are still to write, and the part that is lent begins behind the others
  module _ {whole out₀ out : List ℕ} {to : ℕ} (last : List ℕ) (left from : ℕ) (fits : length whole ≤ length out₀)
      (more : 0 < left) (w : PartlyWritten whole (palettes left file from last) out₀ out to) where
    abbrev rest : List ℕ
    rest = palettes (left - 1) file (palette_end file from) (palette file from last)

    begun : PartlyWritten whole (palette file from last ++ rest) out₀ out to
    begun = subst (λ (l : List ℕ). PartlyWritten whole l out₀ out to) (palettes-one left from last more) w

    pub palettes-turn : (next : ℕ) (new part : List ℕ) → next ≡ palette_end file from → new ≡ palette file from last
        → part ≡ over (palette file from last) (take (length out - to) (drop to out))
        → PartlyWritten whole (palettes (left - 1) file next new) out₀ (put_mid to (length out - to) out part) (to + 16)
    palettes-turn next new part e f put =
        rw (e, f, ← length-palette file from last) (writing_more (palette file from last) rest fits begun part put)
