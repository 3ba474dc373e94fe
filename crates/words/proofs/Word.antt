-- Laws of words and their bytes: each is made from the other, and words that were written as bytes are read again from
-- where they stand.
use mathlib.Core.Path.{◌≡◌, refl, sym, ap, ap₂, ◌∙◌}
use mathlib.Core.List.{List, ◌∷◌, ◌++◌, flatten, append_assoc}
use Prim.Native.Nat.{ℕ, zero, suc, ◌+◌, ◌*◌, ◌/◌, ◌%◌, ◌≤◌, ◌<◌}
use native.Mathlib.Nat.{add-zero, div-add-mod'}
use native.Mathlib.Numerals.{add-one}
use native.Mathlib.Omega.{arith}
use lib.Arith.{digits_div, digits_mod}
use lib.ListN.{length, get_or, take, drop, get_or-eq_default}
use lib.Seq.{take_all, drop-cons, get_or_at, get_or-append-add}
use Rattle.std.proofs.lemmas.List.{take_min}
use Rattle.lists.specs.Bytes.{Bytes}
use Rattle.lists.specs.Tabulate.{tabulate}
use Rattle.lists.proofs.Loops.{writes}
use Rattle.lists.proofs.Flatten.{length-flatten, piece_back}
use Rattle.lists.proofs.Tabulate.{length-tabulate, tabulate-ext, tabulate-get_or}
use Rattle.words.specs.Word.{word_at, words_at, word_bytes, words_bytes}

pub word_past : (s : List ℕ) (at : ℕ) → length s ≤ at → word_at s at ≡ 0
unfolding word_at
word_past s at h = omega (arith, get_or-eq_default s 0 h, get_or-eq_default s 0 {n = at + 1} (omega arith))

module _ (s : List ℕ) (bytes : Bytes s) where
  pub word_at-lt : (at : ℕ) → word_at s at < 65536
  unfolding word_at
  word_at-lt at = omega (arith, bytes at, bytes (at + 1))

  -- a word's bytes are those from which it was read
  pub word_bytes-word_at : (at h : ℕ) → h < 2 → get_or (word_bytes (word_at s at)) h 0 ≡ get_or s (at + h) 0
  unfolding word_bytes word_at
  word_bytes-word_at at zero l =
      digits_div (get_or s at 0) (bytes (at + 1)) ∙ ap (λ (m : ℕ). get_or s m 0) (sym (add-zero at))
  word_bytes-word_at at (suc zero) l = digits_mod (get_or s at 0) (bytes (at + 1))
  word_bytes-word_at at (suc (suc h)) l = absurd (omega arith)

  -- the bytes of a word that was read, and what follows it
  pub word-restored : (at : ℕ) → at + 2 ≤ length s → word_bytes (word_at s at) ++ drop (at + 2) s ≡ drop at s
  unfolding word_bytes word_at
  word-restored at h =
      let one : at + 1 ≡ suc at = add-one at in
      let two : at + 2 ≡ suc (suc at) = omega arith in
      sym (
      drop-cons s at 0 (omega arith)
      ∙ ap (λ (l : List ℕ). get_or s at 0 ∷ l) (drop-cons s (suc at) 0 (omega arith))
      ∙ rw (two, sym one, digits_div (get_or s at 0) (bytes (at + 1)), digits_mod (get_or s at 0) (bytes (at + 1)))
      )

  -- the same of n words
  pub words-restored : (n at : ℕ) → at + n * 2 ≤ length s
      → words_bytes (words_at n s at) ++ drop (at + n * 2) s ≡ drop at s
  unfolding words_bytes words_at tabulate flatten
  words-restored zero at h = let z : at + zero * 2 ≡ at = omega arith in ap (λ (k : ℕ). drop k s) z
  words-restored (suc n) at h =
      let more : at + suc n * 2 ≡ at + 2 + n * 2 = omega arith in
      let rest : tabulate n (λ k. word_at s (at + suc k * 2)) ≡ words_at n s (at + 2) =
      tabulate-ext n _ _ (λ k l. let e : at + suc k * 2 ≡ at + 2 + k * 2 = omega arith in ap (word_at s) e) in
      let first : at + 0 * 2 ≡ at = omega arith in
      ap₂ (λ (ws : List ℕ) (k : ℕ). (word_bytes (word_at s (at + 0 * 2)) ++ words_bytes ws) ++ drop k s) rest more
      ∙ append_assoc (word_bytes (word_at s (at + 0 * 2))) (words_bytes (words_at n s (at + 2))) (drop (at + 2 + n * 2) s)
      ∙ ap₂ (λ (k : ℕ) (l : List ℕ). word_bytes (word_at s k) ++ l) first (words-restored n (at + 2) (omega arith))
      ∙ word-restored at (omega arith)

-- what `get_words` needs
pub ruleset gets = (writes, take_min, length-tabulate)

pub length-words_bytes : (ws : List ℕ) → length (words_bytes ws) ≡ length ws * 2
unfolding word_bytes words_bytes
length-words_bytes ws = length-flatten word_bytes 2 ws 0 (λ j h. refl)

-- an output of at least their length has room for all words
pub words-room : (ws out : List ℕ) → length ws * 2 ≤ length out → take (length out / 2) ws ≡ ws
words-room ws out h = take_all (length out / 2) ws (omega arith)

pub word_back : (before : List ℕ) (w : ℕ) (rest : List ℕ) (at : ℕ) → length before ≡ at
    → word_at (before ++ (word_bytes w ++ rest)) at ≡ w
unfolding word_at word_bytes
word_back before w rest at l =
    let low : get_or (before ++ (w / 256 ∷ w % 256 ∷ rest)) (at + 1) 0 ≡ w % 256 =
    ap (λ (n : ℕ). get_or (before ++ (w / 256 ∷ w % 256 ∷ rest)) (n + 1) 0) (sym l)
    ∙ get_or-append-add before (w / 256 ∷ w % 256 ∷ rest) 1 0
    in
    rw (get_or_at before (w / 256) (w % 256 ∷ rest) 0 at l, low) (div-add-mod' w 256)

pub words_back : (n : ℕ) (before ws rest : List ℕ) (at : ℕ) → length ws ≡ n → length before ≡ at
    → words_at n (before ++ (words_bytes ws ++ rest)) at ≡ ws
unfolding words_at words_bytes word_bytes
words_back n before ws rest at e l =
    tabulate-ext n _ (λ i. get_or ws i 0)
    (λ i h.
    piece_back (λ w. Unit {0}) word_bytes 2 word_at (λ w t. refl)
    (λ before w rest at t m. word_back before w rest at m) before ws rest at i 0 (λ j m. tt) l (omega arith))
    ∙ ap (λ (m : ℕ). tabulate m (λ i. get_or ws i 0)) (sym e)
    ∙ tabulate-get_or ws 0
