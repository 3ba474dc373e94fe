-- Laws of outcomes.
use Rattle.std.specs.Prelude.{Ok, Err}
use mathlib.Core.Path.{◌≡◌, refl, subst}
use mathlib.Core.Bool.{Bool, true, false}
use Prim.Native.Nat.{ℕ}
use native.Mathlib.Omega.{arith}
use Rattle.outcome.specs.declared.Refusal.{Refusal}
use Rattle.outcome.specs.Outcome.{Outcome, refuse_if, map, bind, later, refusal_of, Judged}

-- what is accepted was not refused by the first test
pub passed : {A : Type 0} (t : Bool) (n : ℕ) (further : Outcome A) (a : A) → refuse_if t n further ≡ Ok a
    → (t ≡ false) × (further ≡ Ok a)
passed true n further a e = let z : ◌≡◌ {A = ℕ} 0 1 = cc in absurd (omega arith)
passed false n further a e = (refl, e)

-- what is made of an outcome is refused where the outcome is
pub map-refused : {A B : Type 0} (f : A → B) (o : Outcome A) (why : Refusal) → map f o ≡ Err why → o ≡ Err why
map-refused f (Ok a) why e = let z : ◌≡◌ {A = ℕ} 0 1 = cc in absurd (omega arith)
map-refused f (Err w) why e = cc

-- a function of what is accepted leaves the refusal
pub refusal_of-map : {A B : Type 0} (f : A → B) (o : Outcome A) → refusal_of (map f o) ≡ refusal_of o
refusal_of-map f (Ok a) = refl
refusal_of-map f (Err why) = refl

-- a refusal leaves a lent area as it was
pub kept : {A B : Type 0} (o : Outcome A) (gives : A → B) (was : B) → ((refusal_of o).number ≡ 0 → ⊥)
    → later o gives was ≡ was
kept (Ok a) gives was h = absurd (h refl)
kept (Err why) gives was h = refl

-- where the number is not 0, why it was refused
pub refused-known : {A : Type 0} (o : Outcome A) → ((refusal_of o).number ≡ 0 → ⊥) → o ≡ Err (refusal_of o)
refused-known (Ok a) h = absurd (h refl)
refused-known (Err why) h = refl

-- where the number is 0, what was accepted, with what holds of it
pub judged-accepted : {A : Type 0} (P : A → Type 0) (o : Outcome A) → Judged P o → (refusal_of o).number ≡ 0
    → (a : A) × (o ≡ Ok a) × P a
judged-accepted P (Ok a) p e = (a, refl, p)
judged-accepted P (Err why) p e = absurd (p e)

-- the same from the outcome
pub judged-value : {A : Type 0} (P : A → Type 0) (o : Outcome A) (a : A) → Judged P o → o ≡ Ok a → P a
judged-value P o a p e = subst (Judged P) e p

-- what is accepted, with what holds of it
pub judged-known : {A : Type 0} (P : A → Type 0) (o : Outcome A) → Judged P o → Judged (λ a. (o ≡ Ok a) × P a) o
judged-known P (Ok a) p = (refl, p)
judged-known P (Err why) p = p

-- what holds of what is accepted, said of it otherwise, and of what is judged further
pub judged-map : {A : Type 0} (P Q : A → Type 0) (o : Outcome A) → Judged P o → ((a : A) → P a → Q a) → Judged Q o
judged-map P Q (Ok a) p f = f a p
judged-map P Q (Err why) p f = p

pub judged-bind : {A B : Type 0} (P : A → Type 0) (Q : B → Type 0) (o : Outcome A) (further : A → Outcome B)
    → Judged P o → ((a : A) → P a → Judged Q (further a)) → Judged Q (bind o further)
judged-bind P Q (Ok a) further p f = f a p
judged-bind P Q (Err why) further p f = p
