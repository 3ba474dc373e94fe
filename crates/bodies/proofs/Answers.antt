-- What was accepted, where the value given of it is known.
use Rattle.std.specs.Prelude.{Ok, Err}
use mathlib.Core.Path.{◌≡◌, refl, ap}
use Prim.Native.Nat.{ℕ}
use native.Mathlib.Omega.{arith}
use Rattle.outcome.specs.Outcome.{Outcome, map, later, Judged}

-- a value that was accepted, what holds of it, and what is given of it
pub record Given {A B : Type 0} (f : A → B) (P : A → Type 0) (o : Outcome A) (given : B) : Type 0 where
  pub value : A
  pub is : o ≡ Ok value
  pub holds : P value
  pub same : f value ≡ given

pub given-known : {A B : Type 0} (f : A → B) (P : A → Type 0) (o : Outcome A) (given : B) → Judged P o
    → map f o ≡ Ok given → Given f P o given
given-known f P (Ok v) given p e = record { value = v; is = refl; holds = p; same = ap (λ (o : Outcome _). later o (λ b. b) given) e }
given-known f P (Err why) given p e = let z : ◌≡◌ {A = ℕ} 0 1 = cc in absurd (omega arith)
