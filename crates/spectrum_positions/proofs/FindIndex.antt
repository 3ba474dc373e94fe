-- The ticket's rule gives what source 000's function gives.
use mathlib.Core.Path.{◌≡◌, refl, sym}
use Prim.Native.Nat.{ℕ, ◌+◌, ◌≤◌, ◌<◌}
use native.Mathlib.Omega.{arith}
use borrow.Author.Tests.{le-leb, lt-leb, lt-ltb, le-ltb}
use Rattle.lists.proofs.Cond.{cond-ltb}
use Rattle.spectrum_positions.specs.Positions.{second_from, position_of}
use Rattle.spectrum_positions.specs.FindIndex.{change_column, find_index}

module _ (x c : ℕ) where
  same-column : change_column c ≡ second_from c
  unfolding change_column second_from
  same-column = refl

  -- before the second palette, in it, and from the third on
  index-first : x < second_from c → find_index x c ≡ c
  unfolding find_index
  index-first h =
      rw (
        same-column,
        lt-leb (second_from c) x h,
        lt-leb (second_from c + 160) x (omega arith),
      )

  index-second : second_from c ≤ x → x < second_from c + 160 → find_index x c ≡ c + 16
  unfolding find_index
  index-second h k = rw (same-column, le-leb (second_from c) x h, lt-ltb x (second_from c + 160) k)

  index-third : second_from c + 160 ≤ x → find_index x c ≡ c + 32
  unfolding find_index
  index-third h =
      rw (
        same-column,
        le-leb (second_from c) x (omega arith),
        le-ltb x (second_from c + 160) h,
        le-leb (second_from c + 160) x h,
      )

  pub position-as-found : position_of x c ≡ find_index x c
  unfolding position_of
  position-as-found =
      cond-ltb (λ (n : ℕ). n ≡ find_index x c) x (second_from c)
      (λ h. sym (index-first h))
      (λ h.
      cond-ltb (λ (n : ℕ). n ≡ find_index x c) x (second_from c + 160)
      (λ k. sym (index-second h k))
      (λ k. sym (index-third k)))
