-- Palettes are judged and written exactly as the relation `HoldsPalettes` says.
use Rattle.std.specs.Prelude.{Ok}
use mathlib.Core.Path.{◌≡◌, refl, sym, ap, ◌∙◌, subst}
use mathlib.Core.List.{List, [], ◌++◌}
use Prim.Native.Nat.{ℕ, zero, suc, ◌+◌, ◌-◌, ◌^◌, ◌≤◌, ◌<◌}
use native.Mathlib.Omega.{arith}
use lib.ListN.{length, take, drop, length-append, length-drop, take-append-drop}
use lib.Seq.{drop-drop, drop_at, length-take-le}
use Rattle.lists.specs.Bytes.{Bytes}
use Rattle.lists.proofs.Tabulate.{length-tabulate}
use Rattle.words.specs.Word.{word_at, words_at, word_bytes, words_bytes}
use Rattle.words.proofs.Word.{word_at-lt, word-restored, words-restored, word_back, words_back, length-words_bytes}
use Rattle.filling.proofs.Makes.{Stands}
use Rattle.spectrum_colour_map.specs.Vector.{bit, named}
use Rattle.spectrum_colour_map.specs.Palettes.{palette_end, palette, judge_palette, palettes, judge_palettes}
use Rattle.spectrum_colour_map.specs.HoldsPalettes.{HoldsPalettes, no_palettes, and_palette}
use Rattle.spectrum_colour_map.proofs.Vector.{below-clear, clear-below}
use Rattle.spectrum_colour_map.proofs.Entries.{palette_of, entries-exact, palette-of}
use Rattle.spectrum_colour_map.proofs.Palettes.{palette-whole, first-whole, length-palette}

-- ---- words that stand at an offset

module _ (file : List ℕ) (at : ℕ) where
  -- the file up to an offset, and the bytes that stand there
  whole : {rest : List ℕ} → Stands file at rest → take at file ++ rest ≡ file
  whole s = ap (λ (l : List ℕ). take at file ++ l) (sym s.bytes) ∙ take-append-drop at file

  pub stands-behind : (a b : List ℕ) → Stands file at (a ++ b) → Stands file (at + length a) b
  stands-behind a b s =
      record {
        bytes = sym (drop-drop (length a) at file) ∙ ap (drop (length a)) s.bytes ∙ drop_at a b (length a) refl;
        inside = omega (arith, ap length s.bytes, length-append a b, length-drop at file, s.inside);
      }

  pub word_stands : (v : ℕ) (rest : List ℕ) → Stands file at (word_bytes v ++ rest) → word_at file at ≡ v
  word_stands v rest s =
      ap (λ (l : List ℕ). word_at l at) (sym (whole s))
      ∙ word_back (take at file) v rest at (length-take-le at file s.inside)

  pub words-stand : (words rest : List ℕ) → Stands file at (words_bytes words ++ rest)
      → words_at (length words) file at ≡ words
  words-stand words rest s =
      ap (λ (l : List ℕ). words_at (length words) l at) (sym (whole s))
      ∙ words_back (length words) (take at file) words rest at refl (length-take-le at file s.inside)

-- ---- a palette that stands at an offset

module _ (file : List ℕ) (at v : ℕ) (words input : List ℕ) (many : length words ≡ named v)
    (s : Stands file at (word_bytes v ++ (words_bytes words ++ input))) where
  vector-is : word_at file at ≡ v
  vector-is = word_stands file at v (words_bytes words ++ input) s

  words-behind : Stands file (at + 2) (words_bytes words ++ input)
  unfolding word_bytes
  words-behind = stands-behind file at (word_bytes v) (words_bytes words ++ input) s

  end_is : palette_end file at ≡ at + 2 + length (words_bytes words)
  unfolding palette_end
  end_is = omega (arith, ap named vector-is, length-words_bytes words)

  pub behind-palette : Stands file (palette_end file at) input
  behind-palette = rw end_is (stands-behind file (at + 2) (words_bytes words) input words-behind)

  pub palette-makes : (before : List ℕ) → palette file at before ≡ palette_of v words before
  palette-makes before =
      palette-of file before words at v vector-is
      (ap (λ (n : ℕ). words_at n file (at + 2)) (sym many) ∙ words-stand file (at + 2) words input words-behind)

  pub palette-accepted : v < 2 ^ 15 → judge_palette file at ≡ Ok (palette_end file at)
  palette-accepted small =
      palette-whole file at words-behind.inside
      (λ b. below-clear v small (sym (ap (λ (u : ℕ). bit u 15) vector-is) ∙ b))
      behind-palette.inside

-- ---- the function from the relation

-- n palettes from an offset on are accepted and are these words, and these bytes stand behind
pub record HeldAt (file : List ℕ) (at n : ℕ) (before rest made : List ℕ) : Type 0 where
  pub end : ℕ
  pub stands : Stands file end rest
  pub judged : judge_palettes n file at ≡ Ok end
  pub makes : palettes n file at before ≡ made

pub palettes-held : (file : List ℕ) (at : ℕ) {n : ℕ} {before input rest made : List ℕ} → Stands file at input
    → HoldsPalettes n before input rest made → HeldAt file at n before rest made
unfolding judge_palettes palettes
palettes-held file at s no_palettes = record { end = at; stands = s; judged = refl; makes = refl }
palettes-held file at {before = before} s (and_palette v words after {input = input} small e further) =
    let x = (entries-exact v words before after).0 e in
    let is : palette file at before ≡ after = palette-makes file at v words input x.0 s before ∙ sym x.2 in
    let r = palettes-held file (palette_end file at) (behind-palette file at v words input x.0 s) further in
    record {
      end = r.end;
      stands = r.stands;
      judged = rw (palette-accepted file at v words input x.0 s small) r.judged;
      makes = rw (is, r.makes);
    }

-- ---- the relation from the function

module _ (file : List ℕ) (bytes : Bytes file) where
  -- the bytes of a whole palette, and those behind it
  pub palette-bytes : (at : ℕ) → palette_end file at ≤ length file → let v = word_at file at in drop at file
      ≡ word_bytes v ++ (words_bytes (words_at (named v) file (at + 2)) ++ drop (palette_end file at) file)
  unfolding palette_end
  palette-bytes at has =
      let v : ℕ = word_at file at in
      sym (
      ap (λ (l : List ℕ). word_bytes v ++ l) (words-restored file bytes (named v) (at + 2) has)
      ∙ word-restored file bytes at (omega arith)
      )

  pub palettes-hold : (n at end : ℕ) (before : List ℕ) → length before ≡ 16
      → judge_palettes n file at ≡ Ok end
      → HoldsPalettes n before (drop at file) (drop end file) (palettes n file at before)
  unfolding judge_palettes palettes words_at
  palettes-hold zero at end before all e =
      let same : at ≡ end = cc in
      subst (λ (k : ℕ). HoldsPalettes 0 before (drop at file) (drop k file) []) same no_palettes
  palettes-hold (suc n) at end before all e =
      let v : ℕ = word_at file at in
      let words : List ℕ = words_at (named v) file (at + 2) in
      let first = first-whole file (suc n) at end (omega arith) e in
      let less : suc n - 1 ≡ n = omega arith in
      let small : v < 2 ^ 15 = clear-below v (word_at-lt file bytes at) first.whole.right in
      let entries = (entries-exact v words before (palette file at before)).1
      (length-tabulate (named v) _, all, palette-of file before words at v refl refl) in
      let further = palettes-hold n (palette_end file at) end (palette file at before) (length-palette file at before)
      (rw less at first.rest) in
      rw (palette-bytes at first.whole.has) (and_palette v words (palette file at before) small entries further)
