-- Laws of a palette's vector: its bits, and how many entries they name.
use mathlib.Core.Path.{◌≡◌, refl, ap, ◌∙◌}
use Prim.Native.Nat.{ℕ, zero, suc, ◌+◌, ◌-◌, ◌*◌, ◌/◌, ◌%◌, ◌^◌, ◌≤◌, ◌<◌}
use native.Mathlib.Nat.{pow-suc, div-one, zero-div}
use native.Mathlib.Numerals.{add-one, one-add}
use native.Mathlib.Omega.{arith}
use lib.Count.{ones, ones_step, ones-le}
use Rattle.lists.specs.Sum.{sum}
use Rattle.lists.proofs.Digits.{digit-above, sum-digits}
use Rattle.lists.proofs.Sum.{sum-ext, sum-split}
use Rattle.spectrum_colour_map.specs.Vector.{entries, bit, named_below, named}

-- ---- a bit

pub bit-lt : (v i : ℕ) → bit v i < 2
unfolding bit
bit-lt v i = omega arith

-- the bits, each with its weight, make the vector
pub vector-bits : (v : ℕ) → v < 2 ^ 16 → sum entries (λ i. bit v i * 2 ^ i) ≡ v
unfolding bit
vector-bits v h = let below : v % 2 ^ 16 ≡ v = omega arith in sum-digits 16 v ∙ below

pub no-bit : (i : ℕ) → bit 0 i ≡ 0
unfolding bit
no-bit i = ap (λ (n : ℕ). n % 2) (zero-div (2 ^ i))

-- bit 15 is set just of the words from 2 ^ 15 on
pub below-clear : (v : ℕ) → v < 2 ^ 15 → bit v 15 ≡ 1 → ⊥
unfolding bit
below-clear v h e = omega arith

pub clear-below : (v : ℕ) → v < 2 ^ 16 → (bit v 15 ≡ 1 → ⊥) → v < 2 ^ 15
unfolding bit
clear-below v h clear = omega arith

pub above-set : (v : ℕ) → 2 ^ 15 ≤ v → v < 2 ^ 16 → bit v 15 ≡ 1
unfolding bit
above-set v h k = omega arith

-- ---- the entries that are named

-- one entry more
pub named-suc : (v i : ℕ) → named_below v (suc i) ≡ named_below v i + bit v i
unfolding named_below sum
named-suc v i = refl

pub named-next : (v i : ℕ) → named_below v (i + 1) ≡ named_below v i + bit v i
named-next v i = ap (named_below v) (add-one i) ∙ named-suc v i

-- those below an entry are among all
pub named-among : (v i : ℕ) → i ≤ 16 → named_below v i ≤ named v
unfolding named_below
named-among v i h =
    let all : i + (16 - i) ≡ 16 = omega arith in
    omega (arith, ap (λ (n : ℕ). sum n (bit v)) all, sum-split i (16 - i) (bit v))

-- those below one that is named are fewer than all
pub named-less : (v i : ℕ) → i < 16 → bit v i ≡ 1 → named_below v i < named v
named-less v i h b = omega (arith, named-next v i, named-among v (i + 1) (omega arith))

-- ---- the count of ones

half_lt : (k v : ℕ) → v < 2 ^ suc k → v / 2 < 2 ^ k
half_lt k v h = let e : 2 ^ suc k ≡ 2 ^ k * 2 = pow-suc 2 k in omega arith

-- a number's ones below 2 ^ k are the entries below k that it names
pub ones-named : (k v : ℕ) → v < 2 ^ k → ones v ≡ named_below v k
unfolding named_below sum bit
ones-named zero v h = let l = ones-le 0 v h in omega arith
ones-named (suc k) v h =
    let rest : ones (v / 2) ≡ sum k (λ i. bit v (1 + i)) =
    ones-named k (v / 2) (half_lt k v h)
    ∙ sum-ext k (bit (v / 2)) (λ i. bit v (1 + i)) (λ i l. digit-above v 1 i) in
    let first : bit v 0 ≡ v % 2 = ap (λ (n : ℕ). n % 2) (div-one v) in
    omega (arith, ones_step v, sum-split 1 k (bit v)) ∙ ap (λ (n : ℕ). sum n (bit v)) (one-add k)
