-- Laws of `expand`: equations, induction run by run, bounds.
use mathlib.Core.Path.{◌≡◌, refl, sym, ap, ◌∙◌, subst}
use Prim.Native.Nat.{ℕ, zero, suc, ◌-◌, ◌≤◌, ◌<◌}
use native.Mathlib.Omega.{arith}
use mathlib.Core.Bool.{Bool, true, false, cond}
use mathlib.Core.List.{List, [], ◌∷◌}
use lib.ListN.{length, drop, length-drop, length-append}
use lib.Dec.{eqb}
use borrow.Author.Tests.{eq-eqb, ne_eqb, eqb-true, eqb-false}
use Rattle.tiny_runs.specs.Runs.{Standing, run_at, words_made}
use Rattle.tiny_runs.specs.Expansion.{Expansion, no_run, run_before, run_step, expand_within, expand}
use Rattle.tiny_runs.proofs.Runs.{RunFits, sound-fits}

-- ---- the equations of `expand`, in which no bound on the recursion stands

-- what a run leaves, expanded by `next`; and a property of it
abbrev handed : Standing → List ℕ → List ℕ → ℕ → (List ℕ → List ℕ → ℕ → Expansion) → Expansion
handed r controls datas room next = next (drop r.controls controls) (drop r.datas datas) (room - r.count)

abbrev Handed : Standing → List ℕ → List ℕ → ℕ → (List ℕ → List ℕ → ℕ → Expansion → Type 0) → Expansion → Type 0
Handed r controls datas room P = P (drop r.controls controls) (drop r.datas datas) (room - r.count)

run_step-ext : (r : Standing) (controls datas : List ℕ) (room : ℕ) (next next' : List ℕ → List ℕ → ℕ → Expansion)
    → (r.fault ≡ 0 → handed r controls datas room next ≡ handed r controls datas room next')
    → run_step r controls datas room next ≡ run_step r controls datas room next'
unfolding run_step
run_step-ext r controls datas room next next' e = go (eqb r.fault 0) refl
  where
    go : (b : Bool) → eqb r.fault 0 ≡ b
        → cond b (run_before r (words_made r datas) (handed r controls datas room next)) (no_run r.fault)
        ≡ cond b (run_before r (words_made r datas) (handed r controls datas room next')) (no_run r.fault)
    go true p = ap (run_before r (words_made r datas)) (e (eqb-true _ _ p))
    go false p = refl

-- what a whole run leaves of the control bytes is shorter
rest-shorter : (controls datas : List ℕ) (room : ℕ) → (run_at controls (length datas) room).fault ≡ 0
    → length (drop (run_at controls (length datas) room).controls controls) < length controls
rest-shorter controls datas room e =
    let w = sound-fits controls datas room e in
    omega (arith, length-drop (run_at controls (length datas) room).controls controls, w.takes, w.has)

-- any bound that is large enough gives the same
same-bound : (f g : ℕ) (controls datas : List ℕ) (room : ℕ) → length controls ≤ f → length controls ≤ g
    → expand_within f controls datas room ≡ expand_within g controls datas room
unfolding expand_within
same-bound zero zero controls datas room hf hg = refl
same-bound zero (suc g) [] datas room hf hg = refl
same-bound (suc f) zero [] datas room hf hg = refl
same-bound zero (suc g) (x ∷ rest) datas room hf hg = absurd (omega arith)
same-bound (suc f) zero (x ∷ rest) datas room hf hg = absurd (omega arith)
same-bound (suc f) (suc g) [] datas room hf hg = refl
same-bound (suc f) (suc g) (x ∷ rest) datas room hf hg =
    run_step-ext (run_at (x ∷ rest) (length datas) room) (x ∷ rest) datas room _ _
    (λ e.
    let l = rest-shorter (x ∷ rest) datas room e in
    same-bound f g _ _ _ (omega (arith, l)) (omega (arith, l)))

pub expand-none : (datas : List ℕ) (room : ℕ) → expand [] datas room ≡ no_run 0
unfolding expand expand_within
expand-none datas room = refl

expand-step : (controls datas : List ℕ) (room : ℕ) → 0 < length controls
    → expand controls datas room ≡ run_step (run_at controls (length datas) room) controls datas room expand
unfolding expand expand_within
expand-step [] datas room h = absurd (omega arith)
expand-step (x ∷ rest) datas room h =
    let r : Standing = run_at (x ∷ rest) (length datas) room in
    run_step-ext (run_at (x ∷ rest) (length datas) room) (x ∷ rest) datas room _ expand
    (λ e. same-bound (length rest) (length (drop r.controls (x ∷ rest))) _ _ _
    (omega (arith, rest-shorter (x ∷ rest) datas room e)) (omega arith))

module _ (controls datas : List ℕ) (room : ℕ) (r : Standing) (is : r ≡ run_at controls (length datas) room)
    (h : 0 < length controls) where
  pub expand-whole : r.fault ≡ 0
      → expand controls datas room ≡ run_before r (words_made r datas) (handed r controls datas room expand)
  unfolding run_step
  expand-whole e = expand-step controls datas room h ∙ rw (← is) (simp (eq-eqb r.fault 0 e))

  pub expand-fault : (r.fault ≡ 0 → ⊥) → expand controls datas room ≡ no_run r.fault
  unfolding run_step
  expand-fault e = expand-step controls datas room h ∙ rw (← is) (simp (ne_eqb r.fault 0 e))

-- ---- induction run by run

-- a run is at fault or not
by-fault : {X : Type 0} (r : Standing) → (r.fault ≡ 0 → X) → ((r.fault ≡ 0 → ⊥) → X) → X
by-fault {X} r whole faulty = go (eqb r.fault 0) refl
  where
    go : (b : Bool) → eqb r.fault 0 ≡ b → X
    go true p = whole (eqb-true _ _ p)
    go false p = faulty (eqb-false _ _ p)

-- What holds where no control byte is left, of a run at fault, and of a whole run before further expansion of which it
-- holds, holds of `expand`.
module _ (P : List ℕ → List ℕ → ℕ → Expansion → Type 0)
    (at-end : (datas : List ℕ) (room : ℕ) → P [] datas room (no_run 0))
    (at-fault : (x : ℕ) (rest datas : List ℕ) (room : ℕ) → ((run_at (x ∷ rest) (length datas) room).fault ≡ 0 → ⊥)
    → P (x ∷ rest) datas room (no_run (run_at (x ∷ rest) (length datas) room).fault))
    (at-whole : (x : ℕ) (rest datas : List ℕ) (room : ℕ) → (run_at (x ∷ rest) (length datas) room).fault ≡ 0
    → (p : Expansion) → Handed (run_at (x ∷ rest) (length datas) room) (x ∷ rest) datas room P p
    → P (x ∷ rest) datas room
    (run_before (run_at (x ∷ rest) (length datas) room) (words_made (run_at (x ∷ rest) (length datas) room) datas) p)) where
  within : (f : ℕ) (controls datas : List ℕ) (room : ℕ) → length controls < f
      → P controls datas room (expand controls datas room)
  within zero controls datas room h = absurd (omega arith)
  within (suc f) [] datas room h = subst (P [] datas room) (sym (expand-none datas room)) (at-end datas room)
  within (suc f) (x ∷ rest) datas room h =
      by-fault (run_at (x ∷ rest) (length datas) room)
      (λ e. subst (P (x ∷ rest) datas room) (sym (expand-whole (x ∷ rest) datas room _ refl (omega arith) e))
      (at-whole x rest datas room e _ (within f _ _ _ (omega (arith, rest-shorter (x ∷ rest) datas room e)))))
      (λ e. subst (P (x ∷ rest) datas room) (sym (expand-fault (x ∷ rest) datas room _ refl (omega arith) e))
      (at-fault x rest datas room e))

  pub by_runs : (controls datas : List ℕ) (room : ℕ) → P controls datas room (expand controls datas room)
  by_runs controls datas room = within (suc (length controls)) controls datas room (omega arith)

-- ---- bounds

-- no more runs than control bytes; neither section is overrun, nor the room
pub record Bounded (controls datas : List ℕ) (room : ℕ) (p : Expansion) : Type 0 where
  pub used : p.controls ≤ length controls
  pub taken : p.datas ≤ length datas
  pub fits : length p.made ≤ room

bounded-after : {controls datas : List ℕ} {room : ℕ} (r : Standing) → RunFits r controls datas room → (p : Expansion)
    → Handed r controls datas room Bounded p → Bounded controls datas room (run_before r (words_made r datas) p)
bounded-after {controls} {datas} {room} r w p b =
    let lc : length (drop r.controls controls) ≡ length controls - r.controls =
    length-drop r.controls controls in
    let ld : length (drop r.datas datas) ≡ length datas - r.datas = length-drop r.datas datas in
    record {
      used = omega (arith, lc, w.has, b.used);
      taken = omega (arith, ld, w.given, b.taken);
      fits = omega (arith, length-append (words_made r datas) p.made, w.makes, w.fits, b.fits);
    }

pub bounded : (controls datas : List ℕ) (room : ℕ) → Bounded controls datas room (expand controls datas room)
bounded =
    by_runs Bounded
    (λ datas room. record { used = omega arith; taken = omega arith; fits = omega arith })
    (λ x rest datas room e. record { used = omega arith; taken = omega arith; fits = omega arith })
    (λ x rest datas room e p b. bounded-after _ (sound-fits (x ∷ rest) datas room e) p b)
