-- The relation `Entries` holds exactly of what a vector and its words make of the palette before.
use mathlib.Core.Path.{◌≡◌, refl, sym, ap, ◌∙◌}
use mathlib.Core.Logic.{◌↔◌}
use mathlib.Core.Bool.{Bool, true, false, cond}
use mathlib.Core.List.{List, ◌∷◌}
use Prim.Native.Nat.{ℕ, zero, suc, ◌+◌, ◌*◌, ◌≤◌, ◌<◌}
use native.Mathlib.Omega.{arith}
use lib.ListN.{length, get_or, drop, drop_of_length-le}
use lib.Seq.{drop-cons}
use lib.Dec.{eqb}
use borrow.Author.Tests.{eqb-true, eqb-false}
use Rattle.lists.specs.Sum.{sum}
use Rattle.lists.specs.Tabulate.{tabulate}
use Rattle.lists.proofs.Tabulate.{length-tabulate, get_or-tabulate, tabulate-ext}
use Rattle.words.specs.Word.{word_at, words_at}
use Rattle.spectrum_colour_map.specs.Vector.{bit, named_below, named}
use Rattle.spectrum_colour_map.specs.Palettes.{entry, palette}
use Rattle.spectrum_colour_map.specs.HoldsPalettes.{Entries, no_entry, included, kept}
use Rattle.spectrum_colour_map.proofs.Vector.{bit-lt, named-suc, named-less}

-- the palette that a vector and its words make of the one before
unfoldable pub palette_of : ℕ → List ℕ → List ℕ → List ℕ
palette_of v words before =
    tabulate 16 (λ i. cond (eqb (bit v i) 1) (get_or words (named_below v i) 0) (get_or before i 0))

-- ---- the relation has a palette for each

module _ (v : ℕ) where
  -- the words and the entries before are as many as are left
  entries-lengths : {i : ℕ} {words before after : List ℕ} → Entries v i words before after
      → (named_below v i + length words ≡ named v) × (i + length before ≡ 16)
  entries-lengths no_entry = (omega arith, refl)
  entries-lengths (included {i} b e) =
      let r = entries-lengths e in
      (omega (arith, named-suc v i), omega arith)
  entries-lengths (kept {i} b e) =
      let r = entries-lengths e in
      (omega (arith, named-suc v i), omega arith)

  -- one palette at most
  entries-same : {i : ℕ} {words before a b : List ℕ} → Entries v i words before a → Entries v i words before b → a ≡ b
  entries-same no_entry no_entry = refl
  entries-same (included {word = word} s e) (included t f) = ap (λ (l : List ℕ). word ∷ l) (entries-same e f)
  entries-same (included s e) (kept t f) = absurd (omega arith)
  entries-same (kept s e) (included t f) = absurd (omega arith)
  entries-same (kept {old = old} s e) (kept t f) = ap (λ (l : List ℕ). old ∷ l) (entries-same e f)

  module _ (words before : List ℕ) (many : length words ≡ named v) (all : length before ≡ 16) where
    abbrev after : List ℕ
    after = palette_of v words before

    length-after : length after ≡ 16
    unfolding palette_of
    length-after = length-tabulate 16 _

    -- entry i, and those behind it
    from-entry : (i : ℕ) (b : Bool) → i < 16 → eqb (bit v i) 1 ≡ b
        → drop i after ≡ cond b (get_or words (named_below v i) 0) (get_or before i 0) ∷ drop (suc i) after
    unfolding palette_of
    from-entry i b h e =
        drop-cons after i 0 (omega (arith, length-after))
        ∙ ap (λ (x : ℕ). x ∷ drop (suc i) after) (get_or-tabulate 16 _ i 0 h)
        ∙ ap (λ (c : Bool). cond c (get_or words (named_below v i) 0) (get_or before i 0) ∷ drop (suc i) after) e

    -- from each entry on one
    entries_from : (d i : ℕ) → i + d ≡ 16 → Entries v i (drop (named_below v i) words) (drop i before) (drop i after)
    entries_from zero i e =
        let same : i ≡ 16 = omega arith in
        let no_word : length words ≤ named_below v i = omega (arith, ap (named_below v) same) in
        let no-before : length before ≤ i = omega arith in
        let no-after : length after ≤ i = omega (arith, length-after) in
        rw (
          drop_of_length-le words no_word,
          drop_of_length-le before no-before,
          drop_of_length-le after no-after,
          same,
        )
        no_entry
    entries_from (suc d) i e = go (eqb (bit v i) 1) refl (entries_from d (suc i) (omega arith))
      where
        less : i < 16
        less = omega arith

        first : drop i before ≡ get_or before i 0 ∷ drop (suc i) before
        first = drop-cons before i 0 (omega arith)

        go : (b : Bool) → eqb (bit v i) 1 ≡ b
            → Entries v (suc i) (drop (named_below v (suc i)) words) (drop (suc i) before) (drop (suc i) after)
            → Entries v i (drop (named_below v i) words) (drop i before) (drop i after)
        go true q rest =
            let one : bit v i ≡ 1 = eqb-true (bit v i) 1 q in
            let next : named_below v (suc i) ≡ suc (named_below v i) = omega (arith, named-suc v i) in
            let word = drop-cons words (named_below v i) 0 (omega (arith, named-less v i less one)) in
            rw (word, first, from-entry i true less q) (included one (rw next at rest))
        go false q rest =
            let none : bit v i ≡ 0 = omega (arith, bit-lt v i, eqb-false (bit v i) 1 q) in
            let next : named_below v (suc i) ≡ named_below v i = omega (arith, named-suc v i) in
            rw (first, from-entry i false less q) (kept none (rw next at rest))

  pub entries-exact : (words before after : List ℕ) → Entries v 0 words before after
      ↔ ((length words ≡ named v) × (length before ≡ 16) × (after ≡ palette_of v words before))
  unfolding named_below sum
  entries-exact words before after = (
    (λ e.
        let l = entries-lengths e in
        let many : length words ≡ named v = omega arith in
        let all : length before ≡ 16 = omega arith in
        (many, all, entries-same e (entries_from words before many all 16 0 refl))),
    (λ s. rw s.2 (entries_from words before s.0 s.1 16 0 refl)),
  )

-- ---- the palette at an offset is the one that its vector and its words make

pub palette-of : (file before words : List ℕ) (at v : ℕ) → word_at file at ≡ v
    → words_at (named v) file (at + 2) ≡ words → palette file at before ≡ palette_of v words before
unfolding palette entry palette_of words_at
palette-of file before words at v e w = tabulate-ext 16 _ _ (λ i h. rw e (go i h (eqb (bit v i) 1) refl))
  where
    go : (i : ℕ) → i < 16 → (b : Bool) → eqb (bit v i) 1 ≡ b
        → cond b (word_at file (at + 2 + named_below v i * 2)) (get_or before i 0)
        ≡ cond b (get_or words (named_below v i) 0) (get_or before i 0)
    go i h true q =
        sym (get_or-tabulate (named v) (λ k. word_at file (at + 2 + k * 2)) (named_below v i) 0
        (named-less v i h (eqb-true (bit v i) 1 q)))
        ∙ ap (λ (l : List ℕ). get_or l (named_below v i) 0) w
    go i h false q = refl
