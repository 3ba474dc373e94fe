-- The set bits of a list's first elements, below a power of two just where each element is.
use mathlib.Core.Path.{◌≡◌, refl, ap, ◌∙◌}
use mathlib.Core.Bool.{Bool, ◌&&◌}
use mathlib.Core.List.{List}
use Prim.Native.Nat.{ℕ, zero, suc, ◌^◌, ◌≤◌, ◌<◌}
use native.Mathlib.Decide.{dec_lt}
use native.Mathlib.Numerals.{add-one}
use native.Mathlib.Omega.{arith}
use lib.Bits.{bit_or, or_lt, or_add_and, and_le_l, and_le_r}
use lib.Dec.{ltb}
use lib.ListN.{length, get_or, take}
use Rattle.std.specs.List.{fold}
use Rattle.std.proofs.lemmas.List.Sums.{fold_more}
use lib.Pow.{pow_pos}
use borrow.Author.Tests.{lt-ltb, le-ltb}
use Rattle.lists.specs.All.{all_below, all_first}

or-ltb : (a b p : ℕ) → ltb (bit_or a b) (2 ^ p) ≡ (ltb b (2 ^ p) && ltb a (2 ^ p))
or-ltb a b p = go (dec_lt a (2 ^ p)) (dec_lt b (2 ^ p))
  where
    go : Dec (a < 2 ^ p) → Dec (b < 2 ^ p) → ltb (bit_or a b) (2 ^ p) ≡ (ltb b (2 ^ p) && ltb a (2 ^ p))
    go (yes h) (yes k) = rw (lt-ltb a (2 ^ p) h, lt-ltb b (2 ^ p) k, lt-ltb (bit_or a b) (2 ^ p) (or_lt p a b h k)) refl
    go (yes h) (no k) =
        let l : 2 ^ p ≤ bit_or a b = omega (arith, or_add_and a b, and_le_l a b) in
        rw (le-ltb b (2 ^ p) (omega arith), le-ltb (bit_or a b) (2 ^ p) l) refl
    go (no h) (yes k) =
        let l : 2 ^ p ≤ bit_or a b = omega (arith, or_add_and a b, and_le_r a b) in
        rw (lt-ltb b (2 ^ p) k, le-ltb a (2 ^ p) (omega arith), le-ltb (bit_or a b) (2 ^ p) l) refl
    go (no h) (no k) =
        let l : 2 ^ p ≤ bit_or a b = omega (arith, or_add_and a b, and_le_r a b) in
        rw (le-ltb b (2 ^ p) (omega arith), le-ltb (bit_or a b) (2 ^ p) l) refl

-- the set bits of the first n elements
pub or-bits : (l : List ℕ) (p n : ℕ) → n ≤ length l
    → ltb (fold bit_or 0 (take n l)) (2 ^ p) ≡ all_first n (λ x. ltb x (2 ^ p)) l
unfolding all_below
or-bits l p zero h = lt-ltb 0 (2 ^ p) (pow_pos p)
or-bits l p (suc n) h =
    ap (λ (b : ℕ). ltb b (2 ^ p)) (rw add-one at (fold_more bit_or 0 l n 0 h))
    ∙ or-ltb (fold bit_or 0 (take n l)) (get_or l n 0) p
    ∙ ap (λ (b : Bool). ltb (get_or l n 0) (2 ^ p) && b) (or-bits l p n (omega arith))
