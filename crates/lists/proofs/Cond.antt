-- A choice by a test: what holds on both sides of the test holds of what is chosen; two tests that both hold, or both
-- fail.
use mathlib.Core.Path.{◌≡◌, refl}
use mathlib.Core.Bool.{Bool, true, false, cond, ◌&&◌, ◌||◌}
use Prim.Native.Nat.{ℕ, ◌≤◌, ◌<◌}
use native.Mathlib.Omega.{arith}
use lib.Dec.{ltb, leb, eqb}
use borrow.Author.Tests.{ltb-true, ltb-false, leb-true, leb-false, eqb-true, eqb-false}

module _ {A : Type 0} (P : A → Type 0) {a b : A} where
  pub cond-elim : (t : Bool) → (t ≡ true → P a) → (t ≡ false → P b) → P (cond t a b)
  cond-elim true f g = f refl
  cond-elim false f g = g refl

  pub cond-leb : (m n : ℕ) → (m ≤ n → P a) → (n < m → P b) → P (cond (leb m n) a b)
  cond-leb m n f g = cond-elim (leb m n) (λ e. f (leb-true m n e)) (λ e. g (leb-false m n e))

  pub cond-ltb : (m n : ℕ) → (m < n → P a) → (n ≤ m → P b) → P (cond (ltb m n) a b)
  cond-ltb m n f g = cond-elim (ltb m n) (λ e. f (ltb-true m n e)) (λ e. g (ltb-false m n e))

  pub cond-eqb : (m n : ℕ) → (m ≡ n → P a) → ((m ≡ n → ⊥) → P b) → P (cond (eqb m n) a b)
  cond-eqb m n f g = cond-elim (eqb m n) (λ e. f (eqb-true m n e)) (λ e. g (eqb-false m n e))

pub and-true : (s t : Bool) → s && t ≡ true → (s ≡ true) × (t ≡ true)
and-true true t e = (refl, e)
and-true false t e = let z : ◌≡◌ {A = ℕ} 0 1 = cc in absurd (omega arith)

pub or-false : (s t : Bool) → s || t ≡ false → (s ≡ false) × (t ≡ false)
or-false true t e = let z : ◌≡◌ {A = ℕ} 0 1 = cc in absurd (omega arith)
or-false false t e = (refl, e)
