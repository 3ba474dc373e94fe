-- Laws of bytes in reverse order: digit for digit, and as many digits are set.
use Rattle.std.specs.Int.{w64, swap_bytes}
use mathlib.Core.Path.{◌≡◌, sym, ap, ap₂, ◌∙◌}
use Prim.Native.Nat.{ℕ, ◌+◌, ◌-◌, ◌*◌, ◌/◌, ◌%◌, ◌^◌, ◌<◌}
use native.Mathlib.Omega.{arith}
use lib.Arith.{digits_div, digits_mod}
use lib.Count.{ones}
use lib.Pow.{shr-shr}
use Rattle.lists.specs.Digits.{from_bytes}
use Rattle.lists.specs.Sum.{sum}
use Rattle.lists.proofs.Digits.{digit-above, digit-below, from_bytes-lt, from_bytes-digit}
use Rattle.lists.proofs.Sum.{sum-ext, sum_rows}
use Rattle.lines.specs.Columns.{byte_of}
use Rattle.tally.specs.Blocks.{digit, reversed, swapped}
use Rattle.tally.proofs.Ones.{ones-digits}

-- where digit j comes from
abbrev pub swapped_digit : ℕ → ℕ
swapped_digit j = (7 - j / 8) * 8 + j % 8

pub reversed-digit : (a j : ℕ) → j < 64 → digit (reversed a) j ≡ digit a (swapped_digit j)
unfolding reversed byte_of
reversed-digit a j h =
    let e : j ≡ j / 8 * 8 + j % 8 = omega arith in
    let b : ℕ = (7 - j / 8) * 8 in
    ap (λ (i : ℕ). digit (reversed a) i) e
    ∙ from_bytes-digit 8 (λ k. byte_of a (7 - k)) (λ k l. omega arith) (j / 8) (j % 8) (omega arith) (omega arith)
    ∙ digit-below (a / 2 ^ b) 8 (j % 8) (omega arith)
    ∙ digit-above a b (j % 8)

pub reversed-lt : (a : ℕ) → reversed a < 2 ^ 64
unfolding reversed byte_of
reversed-lt a = from_bytes-lt 8 (λ k. byte_of a (7 - k)) (λ k l. omega arith)

-- eight from the last
sum_back : (f : ℕ → ℕ) → sum 8 (λ i. f (7 - i)) ≡ sum 8 f
unfolding sum
sum_back f = omega arith

-- all digits, in either order of the bytes
sum-swapped : (f : ℕ → ℕ) → sum 64 (λ k. f (swapped_digit (64 - 1 - k))) ≡ sum 64 (λ k. f (64 - 1 - k))
sum-swapped f =
    let byte : ℕ → ℕ = λ i. sum 8 (λ c. f (i * 8 + (7 - c))) in
    sum_rows 8 8 (λ k. f (swapped_digit (64 - 1 - k)))
    ∙ sum-ext 8 _ byte
    (λ i h.
    sum-ext 8 _ _
    (λ c l.
    let e : swapped_digit (64 - 1 - (i * 8 + c)) ≡ i * 8 + (7 - c) = omega arith in
    ap f e))
    ∙ sym (sum_back byte)
    ∙ sum-ext 8 _ _
    (λ i h.
    sum-ext 8 _ _
    (λ c l.
    let e : (7 - i) * 8 + (7 - c) ≡ 64 - 1 - (i * 8 + c) = omega arith in
    ap f e))
    ∙ sym (sum_rows 8 8 (λ k. f (64 - 1 - k)))

-- numbers whose digits are each other's in reverse order of the bytes
pub ones-swapped : (a b : ℕ) → a < 2 ^ 64 → b < 2 ^ 64 → ((j : ℕ) → j < 64 → digit b j ≡ digit a (swapped_digit j))
    → ones b ≡ ones a
ones-swapped a b ha hb e =
    ones-digits 64 b hb
    ∙ sum-ext 64 _ (λ k. digit a (swapped_digit (64 - 1 - k))) (λ k l. e (64 - 1 - k) (omega arith))
    ∙ sum-swapped (digit a)
    ∙ sym (ones-digits 64 a ha)

-- ---- how the code reverses

pub swapped_bytes : (x : ℕ) → swap_bytes w64 x ≡ reversed x
unfolding reversed from_bytes byte_of
swapped_bytes x = omega arith

-- from words that are made of bytes
pub from_bytes-words : (r : ℕ → ℕ)
    → (((r 0 * 256 + r 1) * 65536 + (r 2 * 256 + r 3)) * 65536 + (r 4 * 256 + r 5)) * 65536 + (r 6 * 256 + r 7)
    ≡ from_bytes 8 (λ k. r (7 - k))
unfolding from_bytes
from_bytes-words r = omega arith

-- the bytes of a number that ends in a word
module _ (a w : ℕ) (h : w < 65536) where
  byte_low : byte_of (a * 65536 + w) 0 ≡ w % 256
  unfolding byte_of
  byte_low = omega arith

  byte_high : byte_of (a * 65536 + w) 1 ≡ w / 256
  unfolding byte_of
  byte_high =
      let e : (a * 65536 + w) / 256 ≡ a * 256 + w / 256 = omega arith in
      let l : w / 256 < 256 = omega arith in
      ap (λ (i : ℕ). i % 256) e ∙ digits_mod a l

  byte_above : (k : ℕ) → byte_of (a * 65536 + w) (2 + k) ≡ byte_of a k
  unfolding byte_of
  byte_above k =
      let e : (2 + k) * 8 ≡ 16 + k * 8 = omega arith in
      ap (λ (i : ℕ). (a * 65536 + w) / 2 ^ i % 256) e
      ∙ ap (λ (i : ℕ). i % 256) (sym (shr-shr (a * 65536 + w) 16 (k * 8)))
      ∙ ap (λ (i : ℕ). i / 2 ^ (k * 8) % 256) (digits_div a h)

-- the bytes of a word
byte-low' : (w : ℕ) → w < 65536 → byte_of w 0 ≡ w % 256
unfolding byte_of
byte-low' w h = omega arith

byte-high' : (w : ℕ) → w < 65536 → byte_of w 1 ≡ w / 256
unfolding byte_of
byte-high' w h = omega arith

-- word by word
pub reversed-words : (w0 w1 w2 w3 : ℕ) → w0 < 65536 → w1 < 65536 → w2 < 65536 → w3 < 65536
    → ((swapped w3 * 65536 + swapped w2) * 65536 + swapped w1) * 65536 + swapped w0
    ≡ reversed (((w0 * 65536 + w1) * 65536 + w2) * 65536 + w3)
unfolding reversed
reversed-words w0 w1 w2 w3 h0 h1 h2 h3 =
    let word : ℕ → ℕ → ℕ = λ h l. h * 256 + l in
    let a1 : ℕ = w0 * 65536 + w1 in
    let a2 : ℕ = a1 * 65536 + w2 in
    let b : ℕ → ℕ = byte_of (a2 * 65536 + w3) in
    let e3 : swapped w3 ≡ b 0 * 256 + b 1 = sym (ap₂ word (byte_low a2 w3 h3) (byte_high a2 w3 h3)) in
    let e2 : swapped w2 ≡ b 2 * 256 + b 3 =
    sym (ap₂ word (byte_above a2 w3 h3 0 ∙ byte_low a1 w2 h2) (byte_above a2 w3 h3 1 ∙ byte_high a1 w2 h2)) in
    let e1 : swapped w1 ≡ b 4 * 256 + b 5 =
    sym
    (ap₂ word (byte_above a2 w3 h3 2 ∙ byte_above a1 w2 h2 0 ∙ byte_low w0 w1 h1)
    (byte_above a2 w3 h3 3 ∙ byte_above a1 w2 h2 1 ∙ byte_high w0 w1 h1)) in
    let e0 : swapped w0 ≡ b 6 * 256 + b 7 =
    sym
    (ap₂ word (byte_above a2 w3 h3 4 ∙ byte_above a1 w2 h2 2 ∙ byte_above w0 w1 h1 0 ∙ byte-low' w0 h0)
    (byte_above a2 w3 h3 5 ∙ byte_above a1 w2 h2 3 ∙ byte_above w0 w1 h1 1 ∙ byte-high' w0 h0)) in
    ap₂ (λ (x y : ℕ). (x * 65536 + swapped w1) * 65536 + y)
    (ap₂ (λ (x y : ℕ). x * 65536 + y) e3 e2) e0
    ∙ ap (λ (x : ℕ). (((b 0 * 256 + b 1) * 65536 + (b 2 * 256 + b 3)) * 65536 + x) * 65536 + (b 6 * 256 + b 7)) e1
    ∙ from_bytes-words b
