-- Parts of a slice, as `&s[a..]` and `&s[a..e]` lend them.
use Prim.Native.Nat.{ℕ, ◌+◌, ◌-◌, ◌≤◌}
use native.Mathlib.Omega.{arith}
use mathlib.Core.Path.{◌≡◌, sym, ap, ◌∙◌}
use mathlib.Core.List.{List, ◌++◌, append_assoc, append-nil}
use borrow.Rule.Slice.PartMut.{put_mid, Post-is}
use lib.ListN.{length, take, drop, length-append, length-drop, take-append-drop}
use lib.Seq.{take_all, take-length, drop-length, drop-append-le}
use Rattle.lists.specs.Over.{over, over_at}
use Rattle.lists.proofs.Over.{over-more}

module _ {A : Type 0} where
  -- the part from a on
  pub tail-part : (s : List A) (a : ℕ) → take (length s - a) (drop a s) ≡ drop a s
  tail-part s a = take_all (length s - a) (drop a s) (omega (arith, length-drop a s))

  -- the whole, once that part is given back as t
  pub tail-put : (s t : List A) (a : ℕ) → a ≤ length s → put_mid a (length s - a) s t ≡ take a s ++ t
  tail-put s t a h =
      ap (λ (l : List A). take a s ++ (t ++ l)) (Post-is a (length s) s h ∙ drop-length s)
      ∙ ap (λ (l : List A). take a s ++ l) (append-nil t)

  -- the whole, once the part of n elements from a on is given back as t
  pub mid_put : (s t : List A) (a n : ℕ) → length t ≡ n → put_mid a n s t ≡ over_at a t s
  mid_put s t a n l = ap (λ (k : ℕ). take a s ++ (t ++ drop k (drop a s))) (sym l)

  -- the part from a on given back with b over its front
  pub over-put : (o t b : List A) (n : ℕ) → n ≤ length o → t ≡ over b (take (length o - n) (drop n o))
      → put_mid n (length o - n) o t ≡ over_at n b o
  over-put o t b n h e = tail-put o t n h ∙ ap (λ (u : List A). take n o ++ u) (e ∙ ap (over b) (tail-part o n))

  -- and where it begins at the end of a, which stands over the front of d
  pub over-append : (d a b o t : List A) (n : ℕ) → o ≡ over a d → length a ≡ n
      → t ≡ over b (take (length o - n) (drop n o))
      → put_mid n (length o - n) o t ≡ over (a ++ b) d
  over-append d a b o t n is l e =
      over-put o t b n (omega (arith, ap length is, length-append a (drop (length a) d))) e
      ∙ ap (over_at n b) is
      ∙ over-more d a b n l

  -- a part that was given back as it was
  pub kept_put : (o t : List A) (n : ℕ) → n ≤ length o → t ≡ take (length o - n) (drop n o)
      → put_mid n (length o - n) o t ≡ o
  kept_put o t n h e =
      tail-put o t n h ∙ ap (λ (u : List A). take n o ++ u) (e ∙ tail-part o n) ∙ take-append-drop n o

  -- what the kit's `bytes::copy` leaves
  pub copied-over : (s d : List A) → take (length s) s ++ drop (length s) d ≡ over s d
  copied-over s d = ap (λ (l : List A). l ++ drop (length s) d) (take-length s)

  -- the same where it copied n elements from an offset on
  pub copied-part : (s d out : List A) (at n : ℕ) (part : List A) → part ≡ take (at + n - at) (drop at s)
      → out ≡ take (length part) part ++ drop (length part) d → out ≡ over (take n (drop at s)) d
  copied-part s d out at n part is e =
      let more : at + n - at ≡ n = omega arith in
      e ∙ copied-over part d ∙ ap (λ (l : List A). over l d) (is ∙ ap (λ (k : ℕ). take k (drop at s)) more)

  -- ---- the front of a list lent alone, with what is behind it put back

  -- given back with s over it
  pub over-cut : (s d part : List A) (n : ℕ) → length part ≡ length (take n d) → part ≡ over s (take n d)
      → part ++ drop n d ≡ over s d
  over-cut s d part n kept is =
      let first : List A = take n d in
      let fits : length s ≤ length first =
      omega (arith, kept, ap length is, length-append s (drop (length s) first), length-drop (length s) first) in
      ap (λ (l : List A). l ++ drop n d) is
      ∙ append_assoc s (drop (length s) first) (drop n d)
      ∙ ap (λ (l : List A). s ++ l)
      (sym (drop-append-le (length s) first (drop n d) fits) ∙ ap (drop (length s)) (take-append-drop n d))

  -- given back as it was
  pub kept-cut : (d part : List A) (n : ℕ) → part ≡ take n d → part ++ drop n d ≡ d
  kept-cut d part n is = ap (λ (l : List A). l ++ drop n d) is ∙ take-append-drop n d
