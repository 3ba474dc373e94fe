-- Laws of the colours of palette words.
use mathlib.Core.Path.{◌≡◌, sym, ap, ◌∙◌}
use native.Mathlib.Omega.{arith}
use Prim.Native.Nat.{ℕ, ◌+◌, ◌*◌, ◌/◌, ◌%◌, ◌^◌, ◌<◌}
use lib.Pow.{shr-shr}
use Rattle.lists.proofs.Digits.{sum-digits, digit-above}
use Rattle.lists.proofs.Sum.{sum-ext}
use Rattle.colour.specs.declared.Machine.{Machine}
use Rattle.colour.specs.declared.Machine.TheVariants.{St, Ste}
use Rattle.colour.specs.declared.Rgb.{Rgb}
use Rattle.colour.specs.Machines.{nibble_shown, ste_level}
use Rattle.colour.specs.Palette.{nibble, word_colour, SameBut3·7·11}
use Rattle.colour.proofs.Machines.{st-rule, st-injective, ste-injective}

-- ---- the field rule: one law over the bit

-- a nibble's three low bits are the word's from there up, its bit 3 the next one
pub nibble-bits : (word bit : ℕ)
    → (nibble word bit % 8 ≡ word / 2 ^ bit % 8) × (nibble word bit / 8 ≡ word / 2 ^ bit / 2 ^ 3 % 2)
unfolding nibble
nibble-bits word bit = (omega arith, omega arith)

nibble-lt : (word bit : ℕ) → nibble word bit < 16
unfolding nibble
nibble-lt word bit = omega arith

-- ---- each machine's rule, of the word's bits

-- what an ST shows of the bits from one up, document 01's rule
st-part : (word bit : ℕ) → nibble_shown St (nibble word bit) ≡ 255 * (word / 2 ^ bit % 8) / 7
st-part word bit = st-rule (nibble word bit) ∙ ap (λ v. 255 * v / 7) (nibble-bits word bit).0

-- document 01: bits 8 to 10 are red, 4 to 6 green, 0 to 2 blue, level v is 255v/7 rounded down, other bits are ignored
pub st-colour : (word : ℕ) → word_colour St word
    ≡ record {
      red = 255 * (word / 2 ^ 8 % 8) / 7;
      green = 255 * (word / 2 ^ 4 % 8) / 7;
      blue = 255 * (word / 2 ^ 0 % 8) / 7;
    }
unfolding word_colour
st-colour word = rw (st-part word 8, st-part word 4, st-part word 0)

-- what an STE shows of the bits from one up
ste-part : (word bit : ℕ)
    → nibble_shown Ste (nibble word bit) ≡ 17 * (2 * (word / 2 ^ bit % 8) + word / 2 ^ (bit + 3) % 2)
unfolding nibble_shown ste_level
ste-part word bit = omega (arith, (nibble-bits word bit).0, (nibble-bits word bit).1 ∙ digit-above word bit 3)

-- document 02, ticket 4: bits 11, 7 and 3 are the lowest bits of the three levels
pub ste-colour : (word : ℕ) → word_colour Ste word
    ≡ record {
      red = 17 * (2 * (word / 2 ^ 8 % 8) + word / 2 ^ 11 % 2);
      green = 17 * (2 * (word / 2 ^ 4 % 8) + word / 2 ^ 7 % 2);
      blue = 17 * (2 * (word / 2 ^ 0 % 8) + word / 2 ^ 3 % 2);
    }
unfolding word_colour
ste-colour word = rw (ste-part word 8, ste-part word 4, ste-part word 0)

-- ---- which words show the same colour

-- bits 12 to 15 are ignored on both machines
pub high-bits-ignored : (m : Machine) (word : ℕ) → word_colour m (word % 4096) ≡ word_colour m word
unfolding word_colour nibble
high-bits-ignored m word =
    let red : word % 4096 / 2 ^ 8 % 16 ≡ word / 2 ^ 8 % 16 = omega arith in
    let green : word % 4096 / 2 ^ 4 % 16 ≡ word / 2 ^ 4 % 16 = omega arith in
    let blue : word % 4096 / 2 ^ 0 % 16 ≡ word / 2 ^ 0 % 16 = omega arith in
    rw (red, green, blue)

-- n bits that are the same, from one up
bits-same : (n a b bit : ℕ) → ((k : ℕ) → k < n → a / 2 ^ (bit + k) % 2 ≡ b / 2 ^ (bit + k) % 2)
    → a / 2 ^ bit % 2 ^ n ≡ b / 2 ^ bit % 2 ^ n
bits-same n a b bit same =
    sym (sum-digits n (a / 2 ^ bit)) ∙ sum-ext n _ _ (λ k h. ap (λ d. d * 2 ^ k) (at k h)) ∙ sum-digits n (b / 2 ^ bit)
  where
    at : (k : ℕ) → k < n → a / 2 ^ bit / 2 ^ k % 2 ≡ b / 2 ^ bit / 2 ^ k % 2
    at k h = digit-above a bit k ∙ same k h ∙ sym (digit-above b bit k)

-- on an ST words that differ only in bits 3, 7 and 11 show the same colour
pub st-same : (a b : ℕ) → SameBut3·7·11 a b → word_colour St a ≡ word_colour St b
st-same a b same =
    st-colour a
    ∙ rw (
      bits-same 3 a b 8 (λ k h. same (8 + k) (λ e. omega arith) (λ e. omega arith) (λ e. omega arith)),
      bits-same 3 a b 4 (λ k h. same (4 + k) (λ e. omega arith) (λ e. omega arith) (λ e. omega arith)),
      bits-same 3 a b 0 (λ k h. same (0 + k) (λ e. omega arith) (λ e. omega arith) (λ e. omega arith)),
    )
    (sym (st-colour b))

-- and no others do, bits 12 to 15 apart: 512 colours
pub st-differ : (a b : ℕ) → word_colour St a ≡ word_colour St b
    → (a / 2 ^ 8 % 8 ≡ b / 2 ^ 8 % 8) × (a / 2 ^ 4 % 8 ≡ b / 2 ^ 4 % 8) × (a / 2 ^ 0 % 8 ≡ b / 2 ^ 0 % 8)
unfolding word_colour
st-differ a b e =
    (at 8 (ap (λ (c : Rgb). c.red) e), at 4 (ap (λ (c : Rgb). c.green) e), at 0 (ap (λ (c : Rgb). c.blue) e))
  where
    at : (bit : ℕ) → nibble_shown St (nibble a bit) ≡ nibble_shown St (nibble b bit) → a / 2 ^ bit % 8 ≡ b / 2 ^ bit % 8
    at bit same =
        sym (nibble-bits a bit).0 ∙ st-injective (nibble a bit) (nibble b bit) same ∙ (nibble-bits b bit).0

-- a word's three nibbles are its bits 0 to 11
nibbles : (word : ℕ) → word % 4096 ≡ nibble word 8 * 256 + nibble word 4 * 16 + nibble word 0
unfolding nibble
nibbles word = omega (arith, shr-shr word 4 4, shr-shr word 8 4)

-- on an STE different nibbles show different colours, so 4,096 words show 4,096
pub ste-differ : (a b : ℕ) → word_colour Ste a ≡ word_colour Ste b → a % 4096 ≡ b % 4096
unfolding word_colour
ste-differ a b e =
    nibbles a
    ∙ rw (at 8 (ap (λ (c : Rgb). c.red) e), at 4 (ap (λ (c : Rgb). c.green) e), at 0 (ap (λ (c : Rgb). c.blue) e))
    (sym (nibbles b))
  where
    at : (bit : ℕ) → nibble_shown Ste (nibble a bit) ≡ nibble_shown Ste (nibble b bit) → nibble a bit ≡ nibble b bit
    at bit = ste-injective (nibble a bit) (nibble b bit) (nibble-lt a bit) (nibble-lt b bit)

-- so two words that differ only in bits 3, 7 and 11 show different colours
pub ste-never-same : (a b : ℕ) → a < 65536 → b < 65536 → SameBut3·7·11 a b → (a ≡ b → ⊥)
    → word_colour Ste a ≡ word_colour Ste b → ⊥
ste-never-same a b ha hb same differ e =
    let low : a % 4096 ≡ b % 4096 = ste-differ a b e in
    let high : a / 2 ^ 12 % 2 ^ 4 ≡ b / 2 ^ 12 % 2 ^ 4 = bits-same 4 a b 12 (λ k h. at (12 + k) (omega arith)) in
    differ (omega arith)
  where
    at : (k : ℕ) → 11 < k → a / 2 ^ k % 2 ≡ b / 2 ^ k % 2
    at k h = same k (λ e. omega arith) (λ e. omega arith) (λ e. omega arith)
