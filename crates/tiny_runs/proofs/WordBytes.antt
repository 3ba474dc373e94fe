-- The bytes of words: of two lists, and of the loops that put them.
use mathlib.Core.Path.{◌≡◌, refl, sym, ap, ◌∙◌}
use mathlib.Core.List.{List, [], ◌∷◌, ◌++◌, flatten, append_assoc}
use Prim.Native.Nat.{ℕ, ◌+◌, ◌-◌, ◌*◌, ◌/◌, ◌%◌, ◌≤◌, ◌<◌}
use native.Mathlib.Numerals.{add-one}
use native.Mathlib.Omega.{arith}
use borrow.Rule.Slice.PartMut.{put_mid}
use lib.ListN.{length, get_or, take, drop, set, length-drop}
use lib.Seq.{sets-eq, take-add, take_all, length-take-le, get_or-drop, drop-drop}
use Rattle.lists.specs.Over.{over, over_at}
use Rattle.lists.specs.Tabulate.{tabulate}
use Rattle.lists.proofs.Parts.{over-append, over-put}
use Rattle.lists.proofs.Tabulate.{length-tabulate, get_or-tabulate, tabulate-ext, tabulate-take}
use Rattle.words.specs.Word.{word_bytes, words_bytes}
use Rattle.words.proofs.Word.{length-words_bytes}

words_bytes-append : (a b : List ℕ) → words_bytes (a ++ b) ≡ words_bytes a ++ words_bytes b
unfolding words_bytes flatten
words_bytes-append [] b = refl
words_bytes-append (w ∷ a) b =
    ap (λ (l : List ℕ). word_bytes w ++ l) (words_bytes-append a b)
    ∙ sym (append_assoc (word_bytes w) (words_bytes a) (words_bytes b))

-- The bytes of the first k words stand over the front of d. The part behind them was lent, and given back as t with the
-- bytes of n further words over its front.
module _ (words d out : List ℕ) (k : ℕ) (h : k ≤ length words) (is : out ≡ over (words_bytes (take k words)) d) where
  put-size : length (words_bytes (take k words)) ≡ k * 2
  put-size = length-words_bytes (take k words) ∙ ap (λ (n : ℕ). n * 2) (length-take-le k words h)

  pub words-piece : (n : ℕ) (v : ℕ → ℕ) (t : List ℕ) → k + n ≤ length words
      → ((i : ℕ) → i < n → v i ≡ get_or words (k + i) 0)
      → t ≡ over (words_bytes (tabulate n v)) (take (length out - k * 2) (drop (k * 2) out))
      → put_mid (k * 2) (length out - k * 2) out t ≡ over (words_bytes (take (k + n) words)) d
  words-piece n v t room e there =
      let next : tabulate n v ≡ take n (drop k words) =
      tabulate-ext n v (λ i. get_or (drop k words) i 0) (λ i l. e i l ∙ sym (get_or-drop k words i 0))
      ∙ tabulate-take n (drop k words) 0 (omega (arith, length-drop k words))
      in
      over-append d (words_bytes (take k words)) (words_bytes (tabulate n v)) out t (k * 2) is put-size there
      ∙ ap (λ (l : List ℕ). over l d) (sym (words_bytes-append (take k words) (tabulate n v)))
      ∙ ap (λ (ws : List ℕ). over (words_bytes (take k words ++ ws)) d) next
      ∙ ap (λ (ws : List ℕ). over (words_bytes ws) d) (sym (take-add k n words))

  pub words-all : length words ≤ k → out ≡ over (words_bytes words) d
  words-all l = is ∙ ap (λ (ws : List ℕ). over (words_bytes ws) d) (take_all k words l)

-- ---- the loops that put the bytes of n words, f 0, f 1, ..

-- i turns of m words each are done
pub record Putting (n m : ℕ) (f : ℕ → ℕ) (d out : List ℕ) (i : ℕ) : Type 0 where
  pub inside : i * m ≤ n
  pub put : out ≡ over (words_bytes (take (i * m) (tabulate n f))) d

pub putting-start : (n m : ℕ) (f : ℕ → ℕ) (d : List ℕ) → Putting n m f d d 0
unfolding words_bytes flatten
putting-start n m f d =
    let none : 0 * m ≡ 0 = omega arith in
    record { inside = omega arith; put = rw none refl }

module _ {n m : ℕ} {f : ℕ → ℕ} {d out : List ℕ} {i : ℕ} (p : Putting n m f d out i) where
  size : length (tabulate n f) ≡ n
  size = length-tabulate n f

  -- a turn, in which the part behind the words put was lent and given back as t
  pub putting-turn : (v : ℕ → ℕ) (t : List ℕ) (at : ℕ) → at ≡ i * m * 2 → i * m + m ≤ n
      → ((j : ℕ) → j < m → v j ≡ f (i * m + j))
      → t ≡ over (words_bytes (tabulate m v)) (take (length out - at) (drop at out))
      → Putting n m f d (put_mid at (length out - at) out t) (i + 1)
  putting-turn v t at place fits e there =
      let next : (i + 1) * m ≡ i * m + m = omega arith in
      record {
        inside = omega arith;
        put =
            rw place
            (words-piece (tabulate n f) d out (i * m) (omega (arith, p.inside, size)) p.put m v t
            (omega (arith, size)) (λ j l. e j l ∙ sym (get_or-tabulate n f (i * m + j) 0 (omega arith)))
            (rw place at there)
            ∙ ap (λ (k : ℕ). over (words_bytes (take k (tabulate n f))) d) (sym next));
      }

  pub putting-done : n ≤ i * m → out ≡ over (words_bytes (tabulate n f)) d
  putting-done h =
      words-all (tabulate n f) d out (i * m) (omega (arith, p.inside, size)) p.put (omega (arith, size))

-- a turn of one word
pub word-turn : {n : ℕ} {f : ℕ → ℕ} {d out : List ℕ} {i : ℕ} → Putting n 1 f d out i → i < n → (w : ℕ) (t : List ℕ)
    → w ≡ f i → t ≡ over (word_bytes w) (take (length out - i * 2) (drop (i * 2) out))
    → Putting n 1 f d (put_mid (i * 2) (length out - i * 2) out t) (i + 1)
unfolding tabulate words_bytes word_bytes flatten
word-turn {f = f} {i = i} p h w t e there =
    putting-turn p (λ j. w) t (i * 2) (omega arith) (omega arith)
    (λ j l.
    let same : i ≡ i * 1 + j = omega arith in
    e ∙ ap f same)
    there

-- a turn of one word, whose two bytes were stored one after the other
pub word-stores : {n : ℕ} {f : ℕ → ℕ} {d out : List ℕ} {i : ℕ} → Putting n 1 f d out i → i < n → i * 2 + 2 ≤ length out
    → (w : ℕ) (bytes : List ℕ) → w ≡ f i → bytes ≡ word_bytes w
    → Putting n 1 f d (set (set out (i * 2) (get_or bytes 0 0)) (i * 2 + 1) (get_or bytes 1 0)) (i + 1)
unfolding word_bytes
word-stores {n = n} {f = f} {d = d} {out = out} {i = i} p h room w bytes e is =
    let at : ℕ = i * 2 in
    let part : List ℕ = over (word_bytes w) (take (length out - at) (drop at out)) in
    let stored : set (set out at (get_or bytes 0 0)) (at + 1) (get_or bytes 1 0) ≡ over_at at (word_bytes w) out =
    ap (λ (b : List ℕ). set (set out at (get_or b 0 0)) (at + 1) (get_or b 1 0)) is
    ∙ ap (λ (k : ℕ). set (set out at (w / 256)) k (w % 256)) (add-one at)
    ∙ sets-eq (word_bytes w) out at room
    ∙ append_assoc (take at out) (word_bytes w) (drop (at + 2) out)
    ∙ ap (λ (l : List ℕ). take at out ++ (word_bytes w ++ l)) (sym (drop-drop 2 at out))
    in
    let lent : put_mid at (length out - at) out part ≡ over_at at (word_bytes w) out =
    over-put out part (word_bytes w) at (omega (arith, room)) refl in
    rw (lent ∙ sym stored) at (word-turn p h w part e refl)
