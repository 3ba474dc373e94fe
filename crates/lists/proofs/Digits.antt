-- Laws of binary digits: a number's digits, and the number that digits make; and of the number that bytes make.
use mathlib.Core.Path.{◌≡◌, refl, sym, ap, ◌∙◌}
use mathlib.Core.Logic.{◌⊎◌, inl, inr}
use Prim.Native.Nat.{ℕ, zero, suc, ◌+◌, ◌-◌, ◌*◌, ◌/◌, ◌%◌, ◌^◌, ◌<◌}
use native.Mathlib.Nat.{not-suc-le-zero, le_of_suc-le-suc, eq-or-lt_of_le, le_refl, pow-suc, mod-eq_of_lt, mul_assoc}
use native.Mathlib.Nat.{add_comm, add-mul-div_right, add-mul-mod_self_right}
use native.Mathlib.Numerals.{one-add}
use native.Mathlib.Omega.{arith}
use lib.Arith.{digits_lt, digits_div, digits_mod, mod-mul}
use lib.Pow.{shr-shr, field, mod-mod-pow, mod-pow-add, pow_pos, pow-add, high}
use Rattle.lists.specs.Digits.{from_bits, from_bytes}
use Rattle.lists.specs.Sum.{sum}

-- ---- digits from the top

pub from_bits-ext : (n : ℕ) (f g : ℕ → ℕ) → ((k : ℕ) → k < n → f k ≡ g k) → from_bits n f ≡ from_bits n g
unfolding from_bits
from_bits-ext zero f g e = refl
from_bits-ext (suc n) f g e = omega (arith, from_bits-ext n f g (λ k h. e k (omega arith)), e n (le_refl (suc n)))

pub from_bits-lt : (n : ℕ) (f : ℕ → ℕ) → ((k : ℕ) → f k < 2) → from_bits n f < 2 ^ n
unfolding from_bits
from_bits-lt zero f b = omega arith
from_bits-lt (suc n) f b = omega (arith, from_bits-lt n f b, b n, pow-suc 2 n)

-- digit k of n, counted from the top
pub bit-from_bits : (n : ℕ) (f : ℕ → ℕ) → ((k : ℕ) → f k < 2) → (k : ℕ) → k < n
    → from_bits n f / 2 ^ (n - 1 - k) % 2 ≡ f k
unfolding from_bits
bit-from_bits zero f b k h = absurd (not-suc-le-zero h)
bit-from_bits (suc n) f b k h = go (bit-from_bits n f b k) (eq-or-lt_of_le (le_of_suc-le-suc h))
  where
    go : (k < n → from_bits n f / 2 ^ (n - 1 - k) % 2 ≡ f k) → (k ≡ n) ⊎ (k < n)
        → from_bits (suc n) f / 2 ^ (suc n - 1 - k) % 2 ≡ f k
    go ih (inl e) =
        let z : suc n - 1 - k ≡ 0 = omega arith in
        ap (λ (j : ℕ). (from_bits n f * 2 + f n) / 2 ^ j % 2) z ∙ omega (arith, b n) ∙ ap f (sym e)
    go ih (inr l) =
        let z : suc n - 1 - k ≡ 1 + (n - 1 - k) = omega arith in
        ap (λ (j : ℕ). (from_bits n f * 2 + f n) / 2 ^ j % 2) z
        ∙ ap (λ (m : ℕ). m % 2) (sym (shr-shr (from_bits n f * 2 + f n) 1 (n - 1 - k)))
        ∙ ap (λ (m : ℕ). m / 2 ^ (n - 1 - k) % 2) (digits_div (from_bits n f) (b n))
        ∙ ih l

-- a number below 2 ^ n is made of its n digits
pub from_bits-bits : (n w : ℕ) → from_bits n (λ k. w / 2 ^ (n - 1 - k) % 2) ≡ w % 2 ^ n
unfolding from_bits
from_bits-bits zero w = omega arith
from_bits-bits (suc n) w =
    let first : from_bits n (λ k. w / 2 ^ (suc n - 1 - k) % 2) ≡ w / 2 % 2 ^ n =
    from_bits-ext n (λ k. w / 2 ^ (suc n - 1 - k) % 2) (λ k. w / 2 / 2 ^ (n - 1 - k) % 2)
    (λ k h.
    let z : suc n - 1 - k ≡ 1 + (n - 1 - k) = omega arith in
    ap (λ (j : ℕ). w / 2 ^ j % 2) z ∙ ap (λ (m : ℕ). m % 2) (sym (shr-shr w 1 (n - 1 - k))))
    ∙ from_bits-bits n (w / 2)
    in
    let last : suc n - 1 - n ≡ 0 = omega arith in
    let end : w / 2 ^ (suc n - 1 - n) % 2 ≡ w % 2 = ap (λ (j : ℕ). w / 2 ^ j % 2) last ∙ omega arith in
    let all : w % (2 ^ n * 2) ≡ w / 2 % 2 ^ n * 2 + w % 2 = mod-mul w (pow_pos n) (omega arith) in
    omega (arith, first, end, all) ∙ ap (λ (m : ℕ). w % m) (sym (pow-suc 2 n))

-- ---- digits from the bottom

-- the lowest n digits, each with its weight
pub sum-digits : (n v : ℕ) → sum n (λ p. v / 2 ^ p % 2 * 2 ^ p) ≡ v % 2 ^ n
unfolding sum
sum-digits zero v = omega arith
sum-digits (suc n) v =
    let all : v % 2 ^ (1 + n) ≡ v / 2 ^ n % 2 * 2 ^ n + v % 2 ^ n = mod-pow-add v 1 n in
    omega (arith, sum-digits n v, all) ∙ ap (λ (m : ℕ). v % 2 ^ m) (one-add n)

-- n digits with their weights make a number of n digits, whose digit p is the one given
pub sum_lt : (n : ℕ) (d : ℕ → ℕ) → ((p : ℕ) → d p < 2) → sum n (λ p. d p * 2 ^ p) < 2 ^ n
unfolding sum
sum_lt zero d b = omega arith
sum_lt (suc n) d b =
    let l : d n * 2 ^ n + sum n (λ p. d p * 2 ^ p) < 2 * 2 ^ n = digits_lt (b n) (sum_lt n d b) in
    omega (arith, l, pow-suc 2 n)

pub sum-digit : (n : ℕ) (d : ℕ → ℕ) → ((p : ℕ) → d p < 2) → (p : ℕ) → p < n → sum n (λ p. d p * 2 ^ p) / 2 ^ p % 2 ≡ d p
unfolding sum
sum-digit zero d b p h = absurd (not-suc-le-zero h)
sum-digit (suc n) d b p h = go (sum-digit n d b p) (eq-or-lt_of_le (le_of_suc-le-suc h))
  where
    go : (p < n → sum n (λ p. d p * 2 ^ p) / 2 ^ p % 2 ≡ d p) → (p ≡ n) ⊎ (p < n)
        → sum (suc n) (λ p. d p * 2 ^ p) / 2 ^ p % 2 ≡ d p
    go ih (inl e) =
        let S : ℕ = sum n (λ p. d p * 2 ^ p) in
        ap (λ (j : ℕ). (S + d n * 2 ^ n) / 2 ^ j % 2) e
        ∙ ap (λ (m : ℕ). m / 2 ^ n % 2) (add_comm S (d n * 2 ^ n))
        ∙ ap (λ (m : ℕ). m % 2) (high (d n) n (sum_lt n d b))
        ∙ mod-eq_of_lt (b n)
        ∙ ap d (sym e)
    go ih (inr l) =
        let S : ℕ = sum n (λ p. d p * 2 ^ p) in
        let A : ℕ = d n * 2 ^ (n - 1 - p) in
        let z : n ≡ n - 1 - p + (1 + p) = omega arith in
        let w : 2 ^ n ≡ 2 ^ (n - 1 - p) * (2 * 2 ^ p) =
        ap (λ (m : ℕ). 2 ^ m) z ∙ pow-add 2 (n - 1 - p) (1 + p) ∙ ap (λ (m : ℕ). 2 ^ (n - 1 - p) * m) (pow-add 2 1 p)
        in
        let t : d n * 2 ^ n ≡ A * 2 * 2 ^ p =
        ap (λ (m : ℕ). d n * m) w ∙ sym (mul_assoc (d n) (2 ^ (n - 1 - p)) (2 * 2 ^ p)) ∙ sym (mul_assoc A 2 (2 ^ p))
        in
        ap (λ (m : ℕ). (S + m) / 2 ^ p % 2) t
        ∙ ap (λ (m : ℕ). m % 2) (add-mul-div_right S (A * 2) (pow_pos p))
        ∙ add-mul-mod_self_right (S / 2 ^ p) A 2
        ∙ ih l

-- ---- digits of parts

-- digit j of a number
abbrev digit : ℕ → ℕ → ℕ
digit a j = a / 2 ^ j % 2

-- digit j of the number above t digits is digit t + j
pub digit-above : (a t j : ℕ) → digit (a / 2 ^ t) j ≡ digit a (t + j)
digit-above a t j = ap (λ (m : ℕ). m % 2) (shr-shr a t j)

-- a digit below m is one of the remainder by 2 ^ m
pub digit-below : (a m j : ℕ) → j < m → digit (a % 2 ^ m) j ≡ digit a j
digit-below a m j l =
    let i : ℕ = m - 1 - j in
    let e : m ≡ i + 1 + j = omega arith in
    ap (λ (k : ℕ). digit (a % 2 ^ k) j) e
    ∙ ap (λ (k : ℕ). k % 2) (field a (i + 1) j)
    ∙ mod-mod-pow (a / 2 ^ j) i 1

-- digits of a number that ends in n given digits
pub cat-above : (n a b j : ℕ) → b < 2 ^ n → digit (a * 2 ^ n + b) (n + j) ≡ digit a j
cat-above n a b j h = sym (digit-above (a * 2 ^ n + b) n j) ∙ ap (λ (i : ℕ). digit i j) (digits_div a h)

pub cat-below : (n a b j : ℕ) → b < 2 ^ n → j < n → digit (a * 2 ^ n + b) j ≡ digit b j
cat-below n a b j h l = sym (digit-below (a * 2 ^ n + b) n j l) ∙ ap (λ (i : ℕ). digit i j) (digits_mod a h)

-- ---- bytes, the first one lowest

pub from_bytes-ext : (n : ℕ) (r s : ℕ → ℕ) → ((k : ℕ) → k < n → r k ≡ s k) → from_bytes n r ≡ from_bytes n s
unfolding from_bytes
from_bytes-ext zero r s e = refl
from_bytes-ext (suc n) r s e =
    let rest = from_bytes-ext n (λ k. r (suc k)) (λ k. s (suc k)) (λ k h. e (suc k) (omega arith)) in
    omega (arith, rest, e 0 (omega arith))

pub from_bytes-lt : (n : ℕ) (r : ℕ → ℕ) → ((k : ℕ) → k < n → r k < 256) → from_bytes n r < 256 ^ n
unfolding from_bytes
from_bytes-lt zero r b = omega arith
from_bytes-lt (suc n) r b =
    let rest = from_bytes-lt n (λ k. r (suc k)) (λ k h. b (suc k) (omega arith)) in
    omega (arith, pow-suc 256 n, digits_lt rest (b 0 (omega arith)))

-- digit c of byte i
pub from_bytes-digit : (n : ℕ) (r : ℕ → ℕ) → ((k : ℕ) → k < n → r k < 256) → (i c : ℕ) → i < n → c < 8
    → digit (from_bytes n r) (i * 8 + c) ≡ digit (r i) c
unfolding from_bytes
from_bytes-digit zero r b i c l k = absurd (not-suc-le-zero l)
from_bytes-digit (suc n) r b zero c l k =
    let e : zero * 8 + c ≡ c = omega arith in
    ap (λ (j : ℕ). digit (from_bytes (suc n) r) j) e
    ∙ cat-below 8 (from_bytes n (λ k. r (suc k))) (r 0) c (b 0 (omega arith)) k
from_bytes-digit (suc n) r b (suc i) c l k =
    let e : suc i * 8 + c ≡ 8 + (i * 8 + c) = omega arith in
    ap (λ (j : ℕ). digit (from_bytes (suc n) r) j) e
    ∙ cat-above 8 (from_bytes n (λ k. r (suc k))) (r 0) (i * 8 + c) (b 0 (omega arith))
    ∙ from_bytes-digit n (λ k. r (suc k)) (λ k h. b (suc k) (omega arith)) i c (omega arith) k
