-- Laws of palette positions: a register passes through its three palettes from the left to the right.
use Rattle.std.specs.Prelude.{Ok}
use mathlib.Core.Path.{◌≡◌}
use mathlib.Core.Bool.{or-true}
use mathlib.Core.Logic.{◌⊎◌, inl, inr, ⊎_elim, ◌↔◌}
use Prim.Native.Nat.{ℕ, ◌+◌, ◌-◌, ◌*◌, ◌%◌, ◌≤◌, ◌<◌}
use native.Mathlib.Decide.{dec_lt}
use native.Mathlib.Omega.{arith}
use lib.Dec.{leb}
use borrow.Author.Tests.{lt-ltb, le-ltb, le-leb, lt-leb}
use Rattle.lists.proofs.Cond.{cond-ltb, cond-eqb}
use Rattle.outcome.specs.Outcome.{refuse}
use Rattle.outcome.specs.Refusal.{out_of_range}
use Rattle.spectrum_positions.specs.Positions.{columns, registers, second_from, palette_columns, position_of}
use Rattle.spectrum_positions.specs.Positions.{judge_position}

-- a register has its first palette at column 0, and its third one at the last column
pub second-within : (c : ℕ) → c < registers → (0 < second_from c) × (second_from c + palette_columns < columns)
unfolding second_from
second-within c h =
    cond-eqb (λ t. (0 < t) × (t + palette_columns < columns)) {a = 10 * c - 5} {b = 10 * c + 1} (c % 2) 1
    (λ e. omega arith)
    (λ e. omega arith)

module _ (c : ℕ) where
  -- what holds of each palette where it is in force holds of the position
  pub by-palette : (P : ℕ → Type 0) (x : ℕ) → (x < second_from c → P c)
      → (second_from c ≤ x → x < second_from c + palette_columns → P (c + registers))
      → (second_from c + palette_columns ≤ x → P (c + 2 * registers))
      → P (position_of x c)
  unfolding position_of
  by-palette P x first second third =
      cond-ltb P x (second_from c) first
      (λ h. cond-ltb P x (second_from c + palette_columns) (λ k. second h k) third)

  -- the three palettes from the left
  pub first-palette : (x : ℕ) → x < second_from c → position_of x c ≡ c
  unfolding position_of
  first-palette x h = rw (lt-ltb x (second_from c) h)

  pub second-palette : (x : ℕ) → second_from c ≤ x → x < second_from c + palette_columns → position_of x c ≡ c + registers
  unfolding position_of
  second-palette x h k = rw (le-ltb x (second_from c) h, lt-ltb x (second_from c + palette_columns) k)

  pub third-palette : (x : ℕ) → second_from c + palette_columns ≤ x → position_of x c ≡ c + 2 * registers
  unfolding position_of
  third-palette x h =
      let k : second_from c ≤ x = omega arith in
      rw (le-ltb x (second_from c) k, le-ltb x (second_from c + palette_columns) h)

  -- no palette comes again: a position is at most that of a later column
  pub position-monotone : (x y : ℕ) → x ≤ y → position_of x c ≤ position_of y c
  position-monotone x y h =
      by-palette (λ p. position_of x c ≤ p) y (λ a. omega (arith, first-palette x (omega arith)))
      (λ a b. by-palette (λ p. p ≤ c + registers) x (λ d. omega arith) (λ d e. omega arith) (λ d. absurd (omega arith)))
      (λ a. by-palette (λ p. p ≤ c + 2 * registers) x (λ d. omega arith) (λ d e. omega arith) (λ d. omega arith))

  -- it changes exactly at the first column of the second palette and at that of the third
  pub position-changes : (x : ℕ) → (position_of (x + 1) c ≡ position_of x c → ⊥)
      ↔ ((x + 1 ≡ second_from c) ⊎ (x + 1 ≡ second_from c + palette_columns))
  position-changes x = (
    by-palette (λ p. (position_of (x + 1) c ≡ p → ⊥) → Begins) x (λ a d. from_first a d (dec_lt (x + 1) second))
        (λ a b d. from_second a b d (dec_lt (x + 1) (second + palette_columns)))
        (λ a d. absurd (d (third-palette (x + 1) (omega arith)))),
    ⊎_elim
        (λ e same. omega (arith, first-palette x (omega arith), second-palette (x + 1) (omega arith) (omega arith)))
        (λ e same. omega (
          arith,
          second-palette x (omega arith) (omega arith),
          third-palette (x + 1) (omega arith),
        )),
  )
    where
      second : ℕ
      second = second_from c

      Begins : Type 0
      Begins = (x + 1 ≡ second) ⊎ (x + 1 ≡ second + palette_columns)

      from_first : x < second → (position_of (x + 1) c ≡ c → ⊥) → Dec (x + 1 < second) → Begins
      from_first a d (yes h) = absurd (d (first-palette (x + 1) h))
      from_first a d (no h) = inl (omega arith)

      from_second : second ≤ x → x < second + palette_columns → (position_of (x + 1) c ≡ c + registers → ⊥)
          → Dec (x + 1 < second + palette_columns) → Begins
      from_second a b d (yes h) = absurd (d (second-palette (x + 1) (omega arith) h))
      from_second a b d (no h) = inr (omega arith)

-- one of 48
pub position-below : (x c : ℕ) → c < registers → position_of x c < 3 * registers
position-below x c h =
    by-palette c (λ p. p < 3 * registers) x (λ a. omega arith) (λ a b. omega arith) (λ a. omega arith)

-- a question is accepted, with the position, exactly within 320 columns and 16 registers
pub within-accepted : (x c : ℕ) → x < columns → c < registers → judge_position x c ≡ Ok (position_of x c)
unfolding judge_position
within-accepted x c h k = rw (lt-leb columns x h, lt-leb registers c k)

pub outside-refused : (x c : ℕ) → (columns ≤ x) ⊎ (registers ≤ c) → judge_position x c ≡ refuse out_of_range
unfolding judge_position
outside-refused x c (inl h) = rw (le-leb columns x h)
outside-refused x c (inr h) = rw (le-leb registers c h, or-true (leb columns x))
