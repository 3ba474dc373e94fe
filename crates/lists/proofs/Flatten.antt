-- Laws of the pieces that a list's elements give, end to end, `flatten (map f xs)`, of the loop that writes them, and
-- of what is read from where they stand.
use mathlib.Core.Path.{◌≡◌, sym, ap, ap₂, ◌∙◌}
use mathlib.Core.List.{List, [], ◌∷◌, ◌++◌, map, flatten, append_assoc, append-nil}
use Prim.Native.Nat.{ℕ, zero, suc, ◌+◌, ◌-◌, ◌*◌, ◌<◌, suc-le-suc}
use native.Mathlib.Nat.{not-suc-le-zero, le_of_suc-le-suc, zero-lt-suc, suc-mul}
use native.Mathlib.Numerals.{add-one}
use native.Mathlib.Omega.{arith}
use borrow.Rule.Slice.PartMut.{put_mid}
use lib.ListN.{length, get_or, take, drop, length-append}
use lib.Seq.{take-suc}
use Rattle.lists.specs.Over.{over, over_at}
use Rattle.lists.proofs.Over.{over-more}
use Rattle.lists.proofs.Parts.{mid_put, over-append}

module _ {A B : Type 0} (f : A → List B) where
  flatten-snoc : (xs : List A) (x : A) → flatten (map f (xs ++ (x ∷ []))) ≡ flatten (map f xs) ++ f x
  unfolding flatten
  flatten-snoc [] x = append-nil (f x)
  flatten-snoc (y ∷ xs) x =
      ap (λ (l : List B). f y ++ l) (flatten-snoc xs x) ∙ sym (append_assoc (f y) (flatten (map f xs)) (f x))

  -- pieces of k elements each
  pub length-flatten : (k : ℕ) (xs : List A) (z : A) → ((j : ℕ) → j < length xs → length (f (get_or xs j z)) ≡ k)
      → length (flatten (map f xs)) ≡ length xs * k
  unfolding flatten
  length-flatten k [] z h = omega arith
  length-flatten k (x ∷ xs) z h =
      omega (
        arith,
        length-append (f x) (flatten (map f xs)),
        h 0 (zero-lt-suc (length xs)),
        length-flatten k xs z (λ j l. h (suc j) (suc-le-suc l)),
        suc-mul (length xs) k,
      )

  module _ (xs : List A) (z : A) (i : ℕ) (h : i < length xs) where
    -- one piece more
    pub flatten-take : flatten (map f (take (i + 1) xs)) ≡ flatten (map f (take i xs)) ++ f (get_or xs i z)
    flatten-take =
        ap (λ (k : ℕ). flatten (map f (take k xs))) (add-one i)
        ∙ ap (λ (l : List A). flatten (map f l)) (take-suc xs i z h)
        ∙ flatten-snoc (take i xs) (get_or xs i z)

    pub length-flatten-take : length (flatten (map f (take (i + 1) xs)))
        ≡ length (flatten (map f (take i xs))) + length (f (get_or xs i z))
    length-flatten-take = ap length flatten-take ∙ length-append (flatten (map f (take i xs))) (f (get_or xs i z))

    -- a turn of the loop: the part of o from the end of the first i pieces on was lent, and given back as t with the
    -- next piece over its front
    pub flatten-turn : (d o t : List B) (n : ℕ) → o ≡ over (flatten (map f (take i xs))) d
        → length (flatten (map f (take i xs))) ≡ n
        → t ≡ over (f (get_or xs i z)) (take (length o - n) (drop n o))
        → put_mid n (length o - n) o t ≡ over (flatten (map f (take (i + 1) xs))) d
    flatten-turn d o t n is l e =
        over-append d (flatten (map f (take i xs))) (f (get_or xs i z)) o t n is l e
        ∙ ap (λ (l : List B). over l d) (sym flatten-take)

    -- the same where the part of the next piece alone was lent, and given back as that piece
    pub flatten-part : (d o t : List B) (n k : ℕ) → o ≡ over (flatten (map f (take i xs))) d
        → length (flatten (map f (take i xs))) ≡ n → t ≡ f (get_or xs i z) → length t ≡ k
        → put_mid n k o t ≡ over (flatten (map f (take (i + 1) xs))) d
    flatten-part d o t n k is l e s =
        mid_put o t n k s
        ∙ ap₂ (over_at n) e is
        ∙ over-more d (flatten (map f (take i xs))) (f (get_or xs i z)) n l
        ∙ ap (λ (l : List B). over l d) (sym flatten-take)

-- ---- pieces of k elements each, read again

module _ {A B : Type 0} (Fit : A → Type 0) (piece : A → List B) (k : ℕ) (read : List B → ℕ → A)
    (size : (a : A) → Fit a → length (piece a) ≡ k)
    (back : (before : List B) (a : A) (rest : List B) (at : ℕ) → Fit a → length before ≡ at
    → read (before ++ (piece a ++ rest)) at ≡ a) where
  -- where one piece is read from its place, each of several is
  pub piece_back : (before : List B) (xs : List A) (rest : List B) (at i : ℕ) (z : A)
      → ((j : ℕ) → j < length xs → Fit (get_or xs j z)) → length before ≡ at
      → i < length xs → read (before ++ (flatten (map piece xs) ++ rest)) (at + i * k) ≡ get_or xs i z
  unfolding flatten
  piece_back before [] rest at i z fit l h = absurd (not-suc-le-zero h)
  piece_back before (x ∷ xs) rest at zero z fit l h =
      ap (λ (s : List B). read (before ++ s) (at + zero * k)) (append_assoc (piece x) (flatten (map piece xs)) rest)
      ∙ back before x (flatten (map piece xs) ++ rest) (at + zero * k) (fit 0 (zero-lt-suc (length xs))) (omega arith)
  piece_back before (x ∷ xs) rest at (suc i) z fit l h =
      let others : List B = flatten (map piece xs) in
      let e : at + suc i * k ≡ at + k + i * k = omega (arith, suc-mul i k) in
      let n : length (before ++ piece x) ≡ at + k =
      omega (arith, length-append before (piece x), size x (fit 0 (zero-lt-suc (length xs)))) in
      ap (λ (s : List B). read (before ++ s) (at + suc i * k)) (append_assoc (piece x) others rest)
      ∙ ap (λ (s : List B). read s (at + suc i * k)) (sym (append_assoc before (piece x) (others ++ rest)))
      ∙ ap (read (before ++ piece x ++ (others ++ rest))) e
      ∙ piece_back (before ++ piece x) xs rest (at + k) i z (λ j m. fit (suc j) (omega arith)) n (le_of_suc-le-suc h)
