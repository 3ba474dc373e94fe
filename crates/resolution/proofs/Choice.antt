-- Laws of what is judged with the resolution that a number names.
use Rattle.std.specs.Prelude.{Ok, None, Option, Some}
use mathlib.Core.Path.{◌≡◌, refl, sym, ap, ◌∙◌}
use mathlib.Core.Bool.{Bool, true, false}
use Prim.Native.Nat.{ℕ, ◌≤◌}
use native.Mathlib.Omega.{arith}
use lib.Dec.{ltb}
use borrow.Author.Tests.{ltb-false}
use Rattle.lists.proofs.Cond.{cond-ltb, cond-eqb}
use Rattle.outcome.specs.Outcome.{Outcome, refuse, refuse_if, bind}
use Rattle.outcome.specs.Refusal.{area_too_short, unknown_resolution}
use Rattle.outcome.proofs.Outcome.{passed}
use Rattle.resolution.specs.declared.Resolution.{Resolution}
use Rattle.resolution.specs.declared.Resolution.TheVariants.{Low, Medium, High}
use Rattle.resolution.specs.Choice.{chosen, number_of, judge_with, with_resolution, judge_screen}
use Rattle.resolution.specs.Shapes.{screen_bytes}

-- ---- a resolution and its number

pub chosen-number : (r : Resolution) → chosen (number_of r) ≡ Some r
chosen-number Low = refl
chosen-number Medium = refl
chosen-number High = refl

pub number-chosen : (number : ℕ) (r : Resolution) → chosen number ≡ Some r → number_of r ≡ number
number-chosen number r =
    cond-eqb Named number 0 (named Low) (λ not0.
    cond-eqb Named number 1 (named Medium) (λ not1.
    cond-eqb Named number 2 (named High) (λ not2 q.
    let z : ◌≡◌ {A = ℕ} 0 1 = cc in absurd (omega arith))))
  where
    Named : Option Resolution → Type 0
    Named c = c ≡ Some r → number_of r ≡ number

    named : (k : Resolution) → number ≡ number_of k → Some k ≡ Some r → number_of r ≡ number
    named k e q = let same : k ≡ r = cc in ap number_of (sym same) ∙ sym e

number-le : (r : Resolution) → number_of r ≤ 2
number-le Low = omega arith
number-le Medium = omega arith
number-le High = omega arith

-- a number that names a resolution is at most 2
pub known-le : (number : ℕ) (r : Resolution) → chosen number ≡ Some r → number ≤ 2
known-le number r e = omega (arith, number-chosen number r e, number-le r)

-- ---- what is judged with a resolution

-- what holds at every resolution and of the refusal holds of what is judged with a number
pub with_resolution-elim : {A : Type 0} (P : Outcome A → Type 0) (number : ℕ) (further : Resolution → Outcome A)
    → P (refuse unknown_resolution) → ((r : Resolution) → chosen number ≡ Some r → P (further r))
    → P (with_resolution number further)
with_resolution-elim P number further unknown known = go (chosen number) refl
  where
    go : (c : Option Resolution) → chosen number ≡ c → P (judge_with c further)
    go (Some r) e = known r e
    go None e = unknown

-- what is accepted has a whole screen and a resolution
pub judge_screen-fits : {A P : Type 0} (screen_len number : ℕ) (further : Resolution → Outcome A) (a : A)
    → judge_screen screen_len number further ≡ Ok a
    → ((r : Resolution) → chosen number ≡ Some r → screen_bytes ≤ screen_len → further r ≡ Ok a → P) → P
judge_screen-fits {A = A} {P = P} screen_len number further a e f =
    let p = passed (ltb screen_len screen_bytes) area_too_short (with_resolution number further) a e in
    with_resolution-elim (λ (o : Outcome A). o ≡ Ok a → P) number further
    (λ q. let z : ◌≡◌ {A = ℕ} 0 1 = cc in absurd (omega arith))
    (λ r known. f r known (ltb-false screen_len screen_bytes p.0))
    p.1

-- ---- a screen judged before the rest

-- what is judged further with a screen is what follows its judgement
pub judge_screen-bind : {A : Type 0} (screen_len number : ℕ) (further : Resolution → Outcome A)
    → judge_screen screen_len number further ≡ bind (judge_screen screen_len number (λ r. Ok r)) further
judge_screen-bind screen_len number further = go (ltb screen_len screen_bytes) (chosen number)
  where
    go : (t : Bool) (c : Option Resolution)
        → refuse_if t area_too_short (judge_with c further)
        ≡ bind (refuse_if t area_too_short (judge_with c (λ r. Ok r))) further
    go true c = refl
    go false (Some r) = refl
    go false None = refl

-- a screen that has a resolution is whole
pub judge_screen-whole : (screen_len number : ℕ) (r : Resolution)
    → judge_screen screen_len number (λ r. Ok r) ≡ Ok r → screen_bytes ≤ screen_len
judge_screen-whole screen_len number r =
    cond-ltb (λ (o : Outcome Resolution). o ≡ Ok r → screen_bytes ≤ screen_len) screen_len screen_bytes
    (λ _ e. let z : ◌≡◌ {A = ℕ} 0 1 = cc in absurd (omega arith))
    (λ h _. h)
