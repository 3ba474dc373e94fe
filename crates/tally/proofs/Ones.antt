-- Laws of set digits: they are counted one by one, and those of `&` and of `!` are products and complements.
use mathlib.Core.Path.{◌≡◌, refl, sym, ap, ◌∙◌}
use Prim.Native.Nat.{ℕ, zero, suc, ◌+◌, ◌-◌, ◌*◌, ◌/◌, ◌%◌, ◌^◌, ◌<◌, ◌≤◌}
use native.Mathlib.Nat.{not-suc-le-zero, pow-suc, add-zero, mod-lt, zero-div, sub-zero}
use native.Mathlib.Omega.{arith}
use lib.Arith.{lt-one}
use lib.Bits.{bit_and, and_shr, and_mod, and_high}
use lib.Count.{ones, ones_step, ones_cat}
use lib.Pow.{shr-shr, pow_pos, ones_split, high_ones, high, ones_lt, shl_exact}
use Rattle.lists.specs.Sum.{sum}
use Rattle.lists.proofs.Digits.{digit-above, digit-below}
use Rattle.lists.proofs.Sum.{sum-ext}
use Rattle.tally.specs.Blocks.{digit}

pub ones-zero : ones 0 ≡ 0
unfolding ones
ones-zero = refl

-- the set digits of a number below 2 ^ n are its n digits, summed from the top
pub ones-digits : (n a : ℕ) → a < 2 ^ n → ones a ≡ sum n (λ k. digit a (n - 1 - k))
unfolding sum
ones-digits zero a h = ap ones (lt-one h) ∙ ones-zero
ones-digits (suc n) a h =
    let last : suc n - 1 - n ≡ 0 = omega arith in
    let end : digit a (suc n - 1 - n) ≡ a % 2 = ap (λ (j : ℕ). digit a j) last ∙ omega arith in
    let rest : ones (a / 2) ≡ sum n (λ k. digit a (suc n - 1 - k)) =
    ones-digits n (a / 2) (omega (arith, pow-suc 2 n))
    ∙ sum-ext n (λ k. digit (a / 2) (n - 1 - k)) (λ k. digit a (suc n - 1 - k))
    (λ k l.
    let z : 1 + (n - 1 - k) ≡ suc n - 1 - k = omega arith in
    ap (λ (m : ℕ). m % 2) (shr-shr a 1 (n - 1 - k)) ∙ ap (λ (j : ℕ). digit a j) z)
    in
    omega (arith, ones_step a, rest, end)

-- the set digits among the m above the lowest t
pub ones-part : (a m t : ℕ) → ones (bit_and a (2 ^ (m + t) - 2 ^ t)) ≡ sum m (λ k. digit a (t + (m - 1 - k)))
ones-part a m t =
    let b : ℕ = a / 2 ^ t % 2 ^ m in
    ap ones (and_high a m t ∙ sym (add-zero (b * 2 ^ t)))
    ∙ ones_cat t b 0 (pow_pos t)
    ∙ ap (λ (i : ℕ). ones b + i) ones-zero
    ∙ add-zero (ones b)
    ∙ ones-digits m b (mod-lt (a / 2 ^ t) (pow_pos m))
    ∙ sum-ext m _ (λ k. digit a (t + (m - 1 - k)))
    (λ k l. digit-below (a / 2 ^ t) m (m - 1 - k) (omega arith) ∙ digit-above a t (m - 1 - k))

-- ---- digits of `&` and `!`

bit-and : (x y : ℕ) → x < 2 → y < 2 → bit_and x y ≡ x * y
bit-and zero zero h l = refl
bit-and zero (suc zero) h l = refl
bit-and (suc zero) zero h l = refl
bit-and (suc zero) (suc zero) h l = refl
bit-and zero (suc (suc y)) h l = absurd (omega arith)
bit-and (suc zero) (suc (suc y)) h l = absurd (omega arith)
bit-and (suc (suc x)) y h l = absurd (omega arith)

pub and-digit : (a b j : ℕ) → digit (bit_and a b) j ≡ digit a j * digit b j
and-digit a b j =
    ap (λ (m : ℕ). m % 2) (and_shr a b j)
    ∙ and_mod (a / 2 ^ j) (b / 2 ^ j) 1
    ∙ bit-and (digit a j) (digit b j) (omega arith) (omega arith)

pub not_digit : (w a j : ℕ) → a < 2 ^ w → j < w → digit (2 ^ w - 1 - a) j ≡ 1 - digit a j
not_digit zero a j h l = absurd (not-suc-le-zero l)
not_digit (suc w) a zero h l = omega (arith, pow-suc 2 w)
not_digit (suc w) a (suc j) h l =
    let z : 1 + j ≡ suc j = omega arith in
    let e : (2 ^ suc w - 1 - a) / 2 ≡ 2 ^ w - 1 - a / 2 = omega (arith, pow-suc 2 w) in
    ap (λ (i : ℕ). digit (2 ^ suc w - 1 - a) i) (sym z)
    ∙ sym (digit-above (2 ^ suc w - 1 - a) 1 j)
    ∙ ap (λ (i : ℕ). digit i j) e
    ∙ not_digit w (a / 2) j (omega (arith, pow-suc 2 w)) (omega arith)
    ∙ ap (λ (i : ℕ). 1 - i) (digit-above a 1 j ∙ ap (λ (i : ℕ). digit a i) z)

-- all digits are set
pub all-digit : (w j : ℕ) → j < w → digit (2 ^ w - 1) j ≡ 1
all-digit w j l =
    ap (λ (i : ℕ). digit i j) (sym (sub-zero (2 ^ w - 1)))
    ∙ not_digit w 0 j (pow_pos w) l
    ∙ ap (λ (i : ℕ). 1 - i % 2) (zero-div (2 ^ j))

-- ---- the digits of a part

-- the m highest of 64 digits that are all set
all-high : (m n : ℕ) → (2 ^ (m + n) - 1) / 2 ^ n ≡ 2 ^ m - 1
all-high m n = ap (λ (i : ℕ). i / 2 ^ n) (ones_split m n) ∙ high (2 ^ m - 1) n (ones_lt n)

-- all digits but the lowest 64 - m, moved up
pub part_digits : (m t : ℕ) → m + t ≤ 64 → ((2 ^ 64 - 1) / 2 ^ (64 - m) * 2 ^ t) % 2 ^ 64 ≡ 2 ^ (m + t) - 2 ^ t
part_digits m t h =
    let e : 64 ≡ m + (64 - m) = omega arith in
    ap (λ (i : ℕ). ((2 ^ i - 1) / 2 ^ (64 - m) * 2 ^ t) % 2 ^ 64) e
    ∙ ap (λ (i : ℕ). (i * 2 ^ t) % 2 ^ 64) (all-high m (64 - m))
    ∙ shl_exact m t 64 (ones_lt m) h
    ∙ sym (high_ones m t)
