-- Laws of a test of the first numbers, and the loop that makes it.
use mathlib.Core.Path.{◌≡◌, refl}
use mathlib.Core.Bool.{Bool, true, false}
use mathlib.Core.Logic.{⊎_elim}
use Prim.Native.Nat.{ℕ, zero, suc, ◌+◌, ◌<◌}
use native.Mathlib.Nat.{le_refl, not-suc-le-zero, le_of_suc-le-suc, eq-or-lt_of_le}
use native.Mathlib.Numerals.{add-one}
use native.Mathlib.Omega.{arith}
use Rattle.lists.specs.All.{all_below}
use Rattle.lists.proofs.Cond.{and-true}

module _ (test : ℕ → Bool) where
  -- each of them passes the test
  pub all_below-each : (n : ℕ) → all_below n test ≡ true → (k : ℕ) → k < n → test k ≡ true
  unfolding all_below
  all_below-each zero e k h = absurd (not-suc-le-zero h)
  all_below-each (suc n) e k h =
      let p = and-true (test n) (all_below n test) e in
      ⊎_elim (λ q. rw q p.0) (λ q. all_below-each n p.1 k q) (eq-or-lt_of_le (le_of_suc-le-suc h))

  pub each-all_below : (n : ℕ) → ((k : ℕ) → k < n → test k ≡ true) → all_below n test ≡ true
  unfolding all_below
  each-all_below zero h = refl
  each-all_below (suc n) h = rw (h n (le_refl (suc n))) (each-all_below n (λ k b. h k (omega arith)))

  -- before the loop's first turn
  pub all_below-start : true ≡ all_below 0 test
  unfolding all_below
  all_below-start = refl

  -- a turn of the loop, at a number that fails the test and at one that passes
  pub all_below-fails : (n : ℕ) → test n ≡ false → false ≡ all_below (n + 1) test
  unfolding all_below
  all_below-fails n e = rw (add-one n, e)

  pub all_below-passes : (n : ℕ) (all : Bool) → test n ≡ true → all ≡ all_below n test → all ≡ all_below (n + 1) test
  unfolding all_below
  all_below-passes n all e is = rw (add-one n, e) is

-- two tests that agree on each of them
pub all_below-ext : (f g : ℕ → Bool) (n : ℕ) → ((k : ℕ) → f k ≡ g k) → all_below n f ≡ all_below n g
unfolding all_below
all_below-ext f g zero h = refl
all_below-ext f g (suc n) h = rw (h n, all_below-ext f g n h)
