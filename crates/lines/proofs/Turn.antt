-- Laws of a word turned over: where each of its bits comes from.
use mathlib.Core.Path.{◌≡◌, refl, sym, ap, ap₂, ◌∙◌}
use mathlib.Core.Bool.{Bool, true, false, cond}
use mathlib.Core.List.{List}
use Prim.Native.Nat.{ℕ, zero, suc, ◌+◌, ◌-◌, ◌*◌, ◌/◌, ◌%◌, ◌^◌, ◌≤◌, ◌<◌}
use native.Mathlib.Decide.{dec_le}
use native.Mathlib.Nat.{mul_assoc, mod-eq_of_lt}
use native.Mathlib.Omega.{arith}
use lib.Bits.{bit_and, bit_xor, and_shr, xor_shr, and_mod, xor_mod, and_mask, and_zero_r, xor_zero_r, xor_comm, xor_lt}
use lib.Bits.{shifted_even}
use lib.Dec.{eqb, leb}
use lib.ListN.{get_or}
use lib.Pow.{shl-shr, pow-add}
use borrow.Author.Tests.{le-leb, lt-leb}
use Rattle.lists.specs.Digits.{from_bits}
use Rattle.lists.specs.Tabulate.{tabulate}
use Rattle.lists.proofs.Digits.{from_bits-ext, from_bits-bits, digit-above, digit-below}
use Rattle.lists.proofs.Tabulate.{get_or-tabulate}
use Rattle.lines.specs.Blocks.{exchange, fours, twos, ones, turn}
use Rattle.lines.specs.Columns.{byte_of}

-- ---- bits

-- bit n of a number, the lowest first
abbrev pub bit : ℕ → ℕ → ℕ
bit x n = x / 2 ^ n % 2

bit-and : (a b n : ℕ) → bit (bit_and a b) n ≡ bit_and (bit a n) (bit b n)
bit-and a b n = ap (λ (m : ℕ). m % 2) (and_shr a b n) ∙ and_mod (a / 2 ^ n) (b / 2 ^ n) 1

bit-xor : (a b n : ℕ) → bit (bit_xor a b) n ≡ bit_xor (bit a n) (bit b n)
bit-xor a b n = ap (λ (m : ℕ). m % 2) (xor_shr a b n) ∙ xor_mod (a / 2 ^ n) (b / 2 ^ n) 1

bit-shl-above : (x s n : ℕ) → s ≤ n → bit (x * 2 ^ s) n ≡ bit x (n - s)
bit-shl-above x s n h =
    let e : n ≡ s + (n - s) = omega arith in
    ap (bit (x * 2 ^ s)) e
    ∙ sym (digit-above (x * 2 ^ s) s (n - s))
    ∙ ap (λ (m : ℕ). bit m (n - s)) (shl-shr x s)

bit-shl-below : (x s n : ℕ) → n < s → bit (x * 2 ^ s) n ≡ 0
bit-shl-below x s n h =
    let d : ℕ = s - 1 - n in
    let e : s ≡ suc d + n = omega arith in
    let p : x * 2 ^ s ≡ x * 2 ^ suc d * 2 ^ n =
    ap (λ (m : ℕ). x * 2 ^ m) e ∙ ap (λ (m : ℕ). x * m) (pow-add 2 (suc d) n) ∙ sym (mul_assoc x (2 ^ suc d) (2 ^ n)) in
    ap (λ (m : ℕ). bit m n) p
    ∙ ap (λ (m : ℕ). m % 2) (shl-shr (x * 2 ^ suc d) n)
    ∙ shifted_even x d

-- ---- an exchange

module _ (s mask : ℕ) where
  -- the mask at n, and s below n
  abbrev here : ℕ → ℕ
  here n = bit mask n

  abbrev under : ℕ → ℕ
  under n = cond (leb s n) (bit mask (n - s)) 0

  -- where bit n comes from
  abbrev source : ℕ → ℕ
  source n = cond (eqb (here n) 1) (s + n) (cond (eqb (under n) 1) (n - s) n)

  -- 0 where the mask has not both n and s below it, and bit n comes from one of the 64
  abbrev fault : ℕ → ℕ
  fault n = here n * under n + source n / 64

-- a bit taken twice from a bit
xor-back : (x y : ℕ) → x < 2 → y < 2 → bit_xor x (bit_xor x y) ≡ y
xor-back zero zero _ _ = refl
xor-back zero (suc zero) _ _ = refl
xor-back (suc zero) zero _ _ = refl
xor-back (suc zero) (suc zero) _ _ = refl
xor-back (suc (suc x)) y h _ = absurd (omega arith)
xor-back zero (suc (suc y)) _ h = absurd (omega arith)
xor-back (suc zero) (suc (suc y)) _ h = absurd (omega arith)

and_one : (x y : ℕ) → x < 2 → y < 2 → bit_and (bit_xor x y) 1 ≡ bit_xor x y
and_one x y h l = and_mask (bit_xor x y) 1 ∙ mod-eq_of_lt (xor_lt 1 x y h l)

-- an exchanged bit is one of three
chosen : (x above below m u : ℕ) → x < 2 → above < 2 → below < 2 → m < 2 → u < 2 → m * u ≡ 0
    → bit_xor (bit_xor x (bit_and (bit_xor x above) m)) (bit_and (bit_xor below x) u)
    ≡ cond (eqb m 1) above (cond (eqb u 1) below x)
chosen x above below zero zero hx ha hb _ _ _ =
    ap₂ (λ (i j : ℕ). bit_xor (bit_xor x i) j) (and_zero_r (bit_xor x above)) (and_zero_r (bit_xor below x))
    ∙ xor_zero_r (bit_xor x 0)
    ∙ xor_zero_r x
chosen x above below (suc zero) zero hx ha hb _ _ _ =
    ap₂ (λ (i j : ℕ). bit_xor (bit_xor x i) j) (and_one x above hx ha) (and_zero_r (bit_xor below x))
    ∙ xor_zero_r (bit_xor x (bit_xor x above))
    ∙ xor-back x above hx ha
chosen x above below zero (suc zero) hx ha hb _ _ _ =
    ap₂ (λ (i j : ℕ). bit_xor (bit_xor x i) j) (and_zero_r (bit_xor x above)) (and_one below x hb hx ∙ xor_comm below x)
    ∙ ap (λ (i : ℕ). bit_xor i (bit_xor x below)) (xor_zero_r x)
    ∙ xor-back x below hx hb
chosen x above below (suc zero) (suc zero) _ _ _ _ _ e = absurd (omega arith)
chosen x above below (suc (suc m)) u _ _ _ h _ _ = absurd (omega arith)
chosen x above below zero (suc (suc u)) _ _ _ _ h _ = absurd (omega arith)
chosen x above below (suc zero) (suc (suc u)) _ _ _ _ h _ = absurd (omega arith)

module _ (s mask x : ℕ) where
  -- the bits that are exchanged and differ
  abbrev differing : ℕ
  differing = bit_and (bit_xor x (x / 2 ^ s)) mask

  bit-differing : (n : ℕ) → bit differing n ≡ bit_and (bit_xor (bit x n) (bit x (s + n))) (bit mask n)
  bit-differing n =
      bit-and (bit_xor x (x / 2 ^ s)) mask n
      ∙ ap (λ (m : ℕ). bit_and m (bit mask n))
      (bit-xor x (x / 2 ^ s) n ∙ ap (bit_xor (bit x n)) (digit-above x s n))

  bit_moved : (n : ℕ) → n < 64
      → bit (differing * 2 ^ s % 2 ^ 64) n ≡ bit_and (bit_xor (bit x (n - s)) (bit x n)) (under s mask n)
  bit_moved n h = digit-below (differing * 2 ^ s) 64 n h ∙ go (dec_le s n)
    where
      go : Dec (s ≤ n) → bit (differing * 2 ^ s) n ≡ bit_and (bit_xor (bit x (n - s)) (bit x n)) (under s mask n)
      go (yes l) =
          let e : s + (n - s) ≡ n = omega arith in
          bit-shl-above differing s n l
          ∙ bit-differing (n - s)
          ∙ ap₂ (λ (i j : ℕ). bit_and (bit_xor (bit x (n - s)) (bit x i)) j) e
          (sym (ap (λ (b : Bool). cond b (bit mask (n - s)) 0) (le-leb s n l)))
      go (no l) =
          let g : n < s = omega (arith, l) in
          bit-shl-below differing s n g
          ∙ sym (and_zero_r (bit_xor (bit x (n - s)) (bit x n)))
          ∙ ap (bit_and (bit_xor (bit x (n - s)) (bit x n)))
          (sym (ap (λ (b : Bool). cond b (bit mask (n - s)) 0) (lt-leb s n g)))

  under-lt : (n : ℕ) → under s mask n < 2
  under-lt n = go (leb s n)
    where
      go : (b : Bool) → cond b (bit mask (n - s)) 0 < 2
      go true = omega arith
      go false = omega arith

  bit-exchange : (n : ℕ) → n < 64 → fault s mask n ≡ 0 → bit (exchange s mask x) n ≡ bit x (source s mask n)
  unfolding exchange
  bit-exchange n h f =
      bit-xor (bit_xor x differing) (differing * 2 ^ s % 2 ^ 64) n
      ∙ ap₂ bit_xor (bit-xor x differing n ∙ ap (bit_xor (bit x n)) (bit-differing n)) (bit_moved n h)
      ∙ chosen (bit x n) (bit x (s + n)) (bit x (n - s)) (bit mask n) (under s mask n) (omega arith) (omega arith)
      (omega arith) (omega arith) (under-lt n) (omega (arith, f))
      ∙ sym (cond-bit (eqb (bit mask n) 1) (eqb (under s mask n) 1))
    where
      cond-bit : (a b : Bool) → bit x (cond a (s + n) (cond b (n - s) n))
          ≡ cond a (bit x (s + n)) (cond b (bit x (n - s)) (bit x n))
      cond-bit true b = refl
      cond-bit false true = refl
      cond-bit false false = refl

-- ---- a word turned over

-- where an exchange with no fault takes each of 64 bits from
module _ (s mask : ℕ) (sound : tabulate 64 (fault s mask) ≡ tabulate 64 (λ n. 0)) where
  no-fault : (n : ℕ) → n < 64 → fault s mask n ≡ 0
  no-fault n h =
      sym (get_or-tabulate 64 (fault s mask) n 0 h)
      ∙ ap (λ (l : List ℕ). get_or l n 0) sound
      ∙ get_or-tabulate 64 (λ (k : ℕ). 0) n 0 h

  source-lt : (n : ℕ) → n < 64 → source s mask n < 64
  source-lt n h = omega (arith, no-fault n h)

  taken : (x n : ℕ) → n < 64 → bit (exchange s mask x) n ≡ bit x (source s mask n)
  taken x n h = bit-exchange s mask x n h (no-fault n h)

sound-36 : tabulate 64 (fault 36 fours) ≡ tabulate 64 (λ n. 0)
unfolding tabulate
sound-36 = refl

sound-18 : tabulate 64 (fault 18 twos) ≡ tabulate 64 (λ n. 0)
unfolding tabulate
sound-18 = refl

sound-9 : tabulate 64 (fault 9 ones) ≡ tabulate 64 (λ n. 0)
unfolding tabulate
sound-9 = refl

-- where bit n of a word turned over comes from
abbrev origin : ℕ → ℕ
origin n = source 36 fours (source 18 twos (source 9 ones n))

abbrev mirrored : ℕ → ℕ
mirrored n = (7 - n % 8) * 8 + (7 - n / 8)

origins : tabulate 64 origin ≡ tabulate 64 mirrored
unfolding tabulate
origins = refl

origin-mirrored : (n : ℕ) → n < 64 → origin n ≡ mirrored n
origin-mirrored n h =
    sym (get_or-tabulate 64 origin n 0 h) ∙ ap (λ (l : List ℕ). get_or l n 0) origins ∙ get_or-tabulate 64 mirrored n 0 h

bit-turn : (x n : ℕ) → n < 64 → bit (turn x) n ≡ bit x (mirrored n)
unfolding turn
bit-turn x n h =
    let i : ℕ = source 9 ones n in
    let hi : i < 64 = source-lt 9 ones sound-9 n h in
    let j : ℕ = source 18 twos i in
    let hj : j < 64 = source-lt 18 twos sound-18 i hi in
    taken 9 ones sound-9 (exchange 18 twos (exchange 36 fours x)) n h
    ∙ taken 18 twos sound-18 (exchange 36 fours x) i hi
    ∙ taken 36 fours sound-36 x j hj
    ∙ ap (bit x) (origin-mirrored n h)

-- byte 7 - q of a word turned over has the bits q of its bytes, the first one highest
pub byte-turn : (x q : ℕ) → q < 8 → byte_of (turn x) (7 - q) ≡ from_bits 8 (λ k. bit x (k * 8 + q))
unfolding byte_of
byte-turn x q h =
    let o : ℕ = (7 - q) * 8 in
    sym (from_bits-bits 8 (turn x / 2 ^ o))
    ∙ from_bits-ext 8 (λ k. bit (turn x / 2 ^ o) (8 - 1 - k)) (λ k. bit x (k * 8 + q))
    (λ k l.
    let e : mirrored (o + (8 - 1 - k)) ≡ k * 8 + q = omega arith in
    digit-above (turn x) o (8 - 1 - k) ∙ bit-turn x (o + (8 - 1 - k)) (omega arith) ∙ ap (bit x) e)
