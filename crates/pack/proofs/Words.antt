-- Bytes as one number, compared with as many bytes x: the trailing zeros of what differs tell how many come first that
-- are equal to x.
use Prim.Native.Nat.{ℕ, zero, suc, ◌+◌, ◌*◌, ◌/◌, ◌%◌, ◌^◌, ◌<◌, suc-le-suc}
use native.Mathlib.Nat.{zero-add, pow-suc}
use native.Mathlib.Omega.{arith}
use mathlib.Core.Path.{◌≡◌, refl, sym, ap, ap₂, ◌∙◌, subst}
use mathlib.Core.List.{List, [], ◌∷◌}
use lib.Bits.{bit_xor, block_half, block_odd, and_le_l, and_le_r, xor_add_and, xor_self, xor_block, xor_lt}
use lib.Count.{count_trailing_zeros, under}
use lib.ListN.{length, replicate}
use Rattle.lists.specs.Bytes.{Bytes}
use Rattle.lists.proofs.Cond.{cond-eqb}
use Rattle.pack.specs.Runs.{leading, little_endian, FirstOther}

-- ---- trailing zeros of a number whose j lowest digits are those of l

pub trailing-past : (j k h : ℕ) → count_trailing_zeros (j + k) (h * 2 ^ j + 0) ≡ j + count_trailing_zeros k h
unfolding count_trailing_zeros
trailing-past zero k h =
    let n : 0 + k ≡ k = omega arith in
    let m : h * 1 + 0 ≡ h = omega arith in
    ap₂ count_trailing_zeros n m ∙ sym (zero-add (count_trailing_zeros k h))
trailing-past (suc j) k h =
    let n : suc j + k ≡ suc (j + k) = omega arith in
    ap (λ (m : ℕ). count_trailing_zeros m (h * 2 ^ suc j + 0)) n
    ∙ ap₂ under (block_odd h j 0) (ap (count_trailing_zeros (j + k)) (block_half h j 0) ∙ trailing-past j k h)
    ∙ omega arith

trailing-within : (j k h l : ℕ) → l < 2 ^ j → (l ≡ 0 → ⊥) → count_trailing_zeros (j + k) (h * 2 ^ j + l) < j
unfolding count_trailing_zeros
trailing-within zero k h l b n = absurd (n (omega arith))
trailing-within (suc j) k h l b n =
    let m : suc j + k ≡ suc (j + k) = omega arith in
    subst (λ (t : ℕ). t < suc j)
    (sym (ap (λ (m : ℕ). count_trailing_zeros m (h * 2 ^ suc j + l)) m
    ∙ ap₂ under (block_odd h j l) (ap (count_trailing_zeros (j + k)) (block_half h j l))))
    (go (l % 2) refl (trailing-within j k h (l / 2) (omega (arith, pow-suc 2 j))))
  where
    go : (d : ℕ) → l % 2 ≡ d → ((l / 2 ≡ 0 → ⊥) → count_trailing_zeros (j + k) (h * 2 ^ j + l / 2) < j)
        → under d (count_trailing_zeros (j + k) (h * 2 ^ j + l / 2)) < suc j
    go zero e f = suc-le-suc (f (λ q. n (omega arith)))
    go (suc d) e f = omega arith

-- ---- equal bytes differ in nothing, and others in something

xor-other : (a x : ℕ) → (x ≡ a → ⊥) → bit_xor a x ≡ 0 → ⊥
xor-other a x n e = n (omega (arith, xor_add_and a x, and_le_l a x, and_le_r a x))

-- ---- what differs between bytes and as many bytes x

abbrev differing : ℕ → List ℕ → ℕ
differing x s = bit_xor (little_endian s) (little_endian (replicate (length s) x))

differing-cons : (x a : ℕ) (s : List ℕ) → x < 256 → a < 256
    → differing x (a ∷ s) ≡ differing x s * 2 ^ 8 + bit_xor a x
differing-cons x a s h l = xor_block 8 (little_endian s) (little_endian (replicate (length s) x)) a x l h

-- of m bytes the first n are equal to x, and d is what differs
abbrev Told : ℕ → ℕ → ℕ → Type 0
Told m d n = (d ≡ 0 → n ≡ m) × ((d ≡ 0 → ⊥) → n < m) × (count_trailing_zeros (m * 8) d / 8 ≡ n)

told_same : (m d n : ℕ) → Told m d n → Told (suc m) (d * 2 ^ 8 + 0) (suc n)
told_same m d n t =
    let k : suc m * 8 ≡ 8 + m * 8 = omega arith in
    let z = ap (λ (k : ℕ). count_trailing_zeros k (d * 2 ^ 8 + 0)) k ∙ trailing-past 8 (m * 8) d in (
      λ e. ap suc (t.0 (omega arith)),
      λ e. suc-le-suc (t.1 (λ q. e (omega arith))),
      omega (arith, z, t.2),
    )

told-other : (m d e : ℕ) → e < 256 → (e ≡ 0 → ⊥) → Told (suc m) (d * 2 ^ 8 + e) 0
told-other m d e h n =
    let k : suc m * 8 ≡ 8 + m * 8 = omega arith in
    let z = subst (λ (k : ℕ). count_trailing_zeros k (d * 2 ^ 8 + e) < 8) (sym k) (trailing-within 8 (m * 8) d e h n) in
    (λ q. absurd (n (omega arith)), λ q. omega arith, omega (arith, z))

told : (x : ℕ) (s : List ℕ) → x < 256 → Bytes s → Told (length s) (differing x s) (leading x s)
unfolding leading count_trailing_zeros
told x [] h b = (λ e. refl, λ n. absurd (n refl), refl)
told x (a ∷ s) h b =
    rw (differing-cons x a s h (b 0))
    (cond-eqb (Told (suc (length s)) (differing x s * 2 ^ 8 + bit_xor a x)) x a
    (λ e.
    let z : bit_xor a x ≡ 0 = ap (λ (n : ℕ). bit_xor a n) e ∙ xor_self a in
    rw z (told_same (length s) (differing x s) (leading x s) (told x s h (λ i. b (suc i)))))
    (λ n. told-other (length s) (differing x s) (bit_xor a x) (xor_lt 8 a x (b 0) h) (xor-other a x n)))

pub first-other : (x : ℕ) (s : List ℕ) → x < 256 → Bytes s → FirstOther x s (differing x s)
first-other x s h b = let t = told x s h b in record { none = t.0; some = t.1; place = t.2 }
