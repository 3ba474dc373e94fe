-- Laws of filling over any step that makes a measure less, and of a size that each step fills a part of.
use Rattle.std.specs.Prelude.{Ok, Err}
use Rattle.outcome.specs.Outcome.{Outcome}
use mathlib.Core.Path.{◌≡◌, refl, sym, ap, ◌∙◌}
use Prim.Native.Nat.{ℕ, zero, suc, ◌+◌, ◌-◌, ◌*◌, ◌≤◌, ◌<◌}
use native.Mathlib.Omega.{arith}
use native.Mathlib.Nat.{add-mul, zero-mul}
use lib.ListN.{length, length-append}
use Rattle.outcome.specs.declared.Refusal.{Refusal}
use Rattle.filling.specs.Filling.{Step, Filling, stopped, after, proceed, fill_within, fill}

-- what follows a step, where it agrees on the accepted one
proceed-same : (o : Outcome Step) (f g : Step → Filling) → ((s : Step) → o ≡ Ok s → f s ≡ g s)
    → proceed o f ≡ proceed o g
proceed-same (Ok s) f g e = ap (after s.made) (e s refl)
proceed-same (Err why) f g e = refl

module _ (judge : ℕ → ℕ → Outcome Step) (measure : ℕ → ℕ → ℕ)
    (less : (at left : ℕ) (s : Step) → 0 < left → judge at left ≡ Ok s
    → measure s.next (left - s.filled) < measure at left) where
  -- the bound does not matter where it is enough
  enough : (b d at left : ℕ) → measure at left < b → measure at left < d
      → fill_within judge b at left ≡ fill_within judge d at left
  unfolding fill_within
  enough zero d at left h k = absurd (omega arith)
  enough (suc b) zero at left h k = absurd (omega arith)
  enough (suc b) (suc d) at zero h k = refl
  enough (suc b) (suc d) at (suc left) h k =
      proceed-same (judge at (suc left)) _ _
      (λ s ok.
      let fewer = less at (suc left) s (omega arith) ok in
      enough b d s.next (suc left - s.filled) (omega (arith, fewer)) (omega (arith, fewer)))

  -- ---- the first step

  pub fill-full : (at left : ℕ) → left ≡ 0 → fill judge measure at left ≡ stopped (Ok at)
  unfolding fill fill_within
  fill-full at left e = rw e

  fill_one : (at left : ℕ) → 0 < left → fill judge measure at left
      ≡ proceed (judge at left) (λ s. fill judge measure s.next (left - s.filled))
  unfolding fill fill_within
  fill_one at zero h = absurd (omega arith)
  fill_one at (suc left) h =
      proceed-same (judge at (suc left)) _ _
      (λ s ok.
      let fewer = less at (suc left) s (omega arith) ok in
      enough (measure at (suc left)) (suc (measure s.next (suc left - s.filled))) s.next
      (suc left - s.filled) fewer (omega arith))

  pub fill_step : (at left : ℕ) (s : Step) → 0 < left → judge at left ≡ Ok s
      → fill judge measure at left ≡ after s.made (fill judge measure s.next (left - s.filled))
  fill_step at left s h ok = fill_one at left h ∙ rw ok

  pub fill-fault : (at left : ℕ) (why : Refusal) → 0 < left → judge at left ≡ Err why
      → fill judge measure at left ≡ stopped (Err why)
  fill-fault at left why h e = fill_one at left h ∙ rw e

  -- ---- induction over the steps

  module _ (P : ℕ → ℕ → Filling → Type 0) (full : (at : ℕ) → P at 0 (stopped (Ok at)))
      (fault : (at left : ℕ) (why : Refusal) → 0 < left → judge at left ≡ Err why
      → P at left (stopped (Err why)))
      (step : (at left : ℕ) (s : Step) (f : Filling) → 0 < left → judge at left ≡ Ok s
      → P s.next (left - s.filled) f → P at left (after s.made f)) where
    turn : (b at left : ℕ) (o : Outcome Step) → judge at (suc left) ≡ o
        → ((s : Step) → o ≡ Ok s
        → P s.next (suc left - s.filled) (fill_within judge b s.next (suc left - s.filled)))
        → P at (suc left) (proceed o (λ s. fill_within judge b s.next (suc left - s.filled)))
    turn b at left (Ok s) e further = step at (suc left) s _ (omega arith) e (further s refl)
    turn b at left (Err why) e further = fault at (suc left) why (omega arith) e

    within : (b at left : ℕ) → measure at left < b → P at left (fill_within judge b at left)
    unfolding fill_within
    within zero at left h = absurd (omega arith)
    within (suc b) at zero h = full at
    within (suc b) at (suc left) h =
        turn b at left (judge at (suc left)) refl
        (λ s ok.
        within b s.next (suc left - s.filled) (omega (arith, less at (suc left) s (omega arith) ok)))

    pub by-steps : (at left : ℕ) → P at left (fill judge measure at left)
    unfolding fill
    by-steps at left = within (suc (measure at left)) at left (omega arith)

  -- ---- sizes: each step fills no more than is left, with `unit` bytes for each

  module _ (unit : ℕ)
      (sized : (at left : ℕ) (s : Step) → 0 < left → judge at left ≡ Ok s
      → (s.filled ≤ left) × (length s.made ≡ s.filled * unit)) where
    split : (filled left : ℕ) → filled ≤ left → left * unit ≡ filled * unit + (left - filled) * unit
    split filled left h =
        let all : left ≡ filled + (left - filled) = omega arith in
        ap (λ (k : ℕ). k * unit) all ∙ add-mul filled (left - filled) unit

    -- the bytes made are no more than there is to fill
    pub made-most : (at left : ℕ) → length (fill judge measure at left).made ≤ left * unit
    made-most =
        by-steps (λ at left f. length f.made ≤ left * unit)
        (λ at. omega arith)
        (λ at left why h e. omega arith)
        (λ at left s f h ok rest.
        let z = sized at left s h ok in
        omega (arith, length-append s.made f.made, z.1, rest, split s.filled left z.0))

    -- and where all is filled as many
    pub made_all : (at left end : ℕ) → (fill judge measure at left).ends ≡ Ok end
        → length (fill judge measure at left).made ≡ left * unit
    made_all at left end =
        by-steps (λ at left f. f.ends ≡ Ok end → length f.made ≡ left * unit)
        (λ at e. sym (zero-mul unit))
        (λ at left why h no e. let z : ◌≡◌ {A = ℕ} 0 1 = cc in absurd (omega arith))
        (λ at left s f h ok rest e.
        let z = sized at left s h ok in
        omega (arith, length-append s.made f.made, z.1, rest e, split s.filled left z.0))
        at left
