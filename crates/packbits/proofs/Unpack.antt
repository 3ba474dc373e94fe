-- Laws of `progress`: equations, induction record by record, bounds.
use mathlib.Core.Path.{◌≡◌, refl, sym, ap, ◌∙◌, subst}
use Prim.Native.Nat.{ℕ, zero, suc, ◌-◌, ◌≤◌, ◌<◌}
use native.Mathlib.Omega.{arith}
use mathlib.Core.Bool.{Bool, true, false, cond}
use mathlib.Core.List.{List}
use lib.ListN.{length, drop, length-drop, length-append}
use lib.Dec.{eqb}
use borrow.Author.Tests.{eq-eqb, ne_eqb, eqb-true, eqb-false}
use Rattle.outcome.specs.Refusal.{input_ends, record_crosses}
use Rattle.packbits.specs.declared.Record.{Record}
use Rattle.packbits.specs.declared.Record.TheVariants.{Literal, Repeat, Nothing, Truncated, Crossing}
use Rattle.packbits.specs.Records.{packed_len, row_len, row_bytes, fault, record_at}
use Rattle.packbits.specs.Unpack.{Progress, stopped, after, step, progress_within, progress}
use Rattle.packbits.proofs.Records.{Whole, is_whole}

-- ---- the equations of `progress`, in which no bound on the recursion stands

step-cong : (r : Record) (input : List ℕ) (room : ℕ) (next next' : List ℕ → ℕ → Progress)
    → (fault r ≡ 0 → next (drop (packed_len r) input) (room - row_len r)
    ≡ next' (drop (packed_len r) input) (room - row_len r))
    → step r input room next ≡ step r input room next'
unfolding step
step-cong r input room next next' e = go (eqb (fault r) 0) refl
  where
    go : (b : Bool) → eqb (fault r) 0 ≡ b
        → cond b (after (packed_len r) (row_bytes r input) (next (drop (packed_len r) input) (room - row_len r)))
        (stopped (fault r))
        ≡ cond b (after (packed_len r) (row_bytes r input) (next' (drop (packed_len r) input) (room - row_len r)))
        (stopped (fault r))
    go true p = ap (after (packed_len r) (row_bytes r input)) (e (eqb-true _ _ p))
    go false p = refl

-- what a whole record leaves is shorter
rest-shorter : (input : List ℕ) (room : ℕ) → fault (record_at input room) ≡ 0
    → length (drop (packed_len (record_at input room)) input) < length input
rest-shorter input room e =
    let w = is_whole input room e in
    omega (arith, length-drop (packed_len (record_at input room)) input, w.takes, w.has)

-- any bound that is large enough gives the same
same-bound : (f g : ℕ) (input : List ℕ) (room : ℕ) → length input < f → length input < g
    → progress_within f input room ≡ progress_within g input room
unfolding progress_within
same-bound zero g input room hf hg = absurd (omega arith)
same-bound (suc f) zero input room hf hg = absurd (omega arith)
same-bound (suc f) (suc g) input zero hf hg = refl
same-bound (suc f) (suc g) input (suc room) hf hg =
    step-cong (record_at input (suc room)) input (suc room) (λ i r. progress_within f i r) (λ i r. progress_within g i r)
    (λ e. same-bound f g _ _ (omega (arith, rest-shorter input (suc room) e))
    (omega (arith, rest-shorter input (suc room) e)))

pub progress-full : (input : List ℕ) → progress input 0 ≡ stopped 0
unfolding progress progress_within
progress-full input = refl

progress_step : (input : List ℕ) (room : ℕ) → 0 < room
    → progress input room ≡ step (record_at input room) input room progress
unfolding progress progress_within
progress_step input zero h = absurd (omega arith)
progress_step input (suc room) h =
    step-cong (record_at input (suc room)) input (suc room) (λ i r. progress_within (length input) i r) progress
    (λ e. same-bound (length input) (suc (length (drop (packed_len (record_at input (suc room))) input))) _ _
    (rest-shorter input (suc room) e) (omega arith))

module _ (input : List ℕ) (room : ℕ) (r : Record) (is : r ≡ record_at input room) (h : 0 < room) where
  pub progress-whole : fault r ≡ 0
      → progress input room
      ≡ after (packed_len r) (row_bytes r input) (progress (drop (packed_len r) input) (room - row_len r))
  unfolding step
  progress-whole e = progress_step input room h ∙ rw (← is) (simp (eq-eqb (fault r) 0 e))

  pub progress-fault : (fault r ≡ 0 → ⊥) → progress input room ≡ stopped (fault r)
  unfolding step
  progress-fault e = progress_step input room h ∙ rw (← is) (simp (ne_eqb (fault r) 0 e))

-- ---- induction record by record

-- a record is at fault or not
by-fault : {X : Type 0} (r : Record) → (fault r ≡ 0 → X) → ((fault r ≡ 0 → ⊥) → X) → X
by-fault {X} r yes-case no-case = go (eqb (fault r) 0) refl
  where
    go : (b : Bool) → eqb (fault r) 0 ≡ b → X
    go true p = yes-case (eqb-true _ _ p)
    go false p = no-case (eqb-false _ _ p)

-- What holds of a full row, of a record at fault, and of a whole record before progress of which it holds, holds of
-- `progress`.
module _ (P : List ℕ → ℕ → Progress → Type 0) (at-full : (input : List ℕ) → P input 0 (stopped 0))
    (at-fault : (input : List ℕ) (room : ℕ) → 0 < room → (fault (record_at input room) ≡ 0 → ⊥)
    → P input room (stopped (fault (record_at input room))))
    (at-whole : (input : List ℕ) (room : ℕ) → 0 < room → fault (record_at input room) ≡ 0 → (p : Progress)
    → P (drop (packed_len (record_at input room)) input) (room - row_len (record_at input room)) p
    → P input room (after (packed_len (record_at input room)) (row_bytes (record_at input room) input) p)) where
  within : (f : ℕ) (input : List ℕ) (room : ℕ) → length input < f → P input room (progress input room)
  within zero input room h = absurd (omega arith)
  within (suc f) input zero h = subst (P input 0) (sym (progress-full input)) (at-full input)
  within (suc f) input (suc room) h =
      by-fault (record_at input (suc room))
      (λ e. subst (P input (suc room)) (sym (progress-whole input (suc room) _ refl (omega arith) e))
      (at-whole input (suc room) (omega arith) e _ (within f _ _ (omega (arith, rest-shorter input (suc room) e)))))
      (λ e. subst (P input (suc room)) (sym (progress-fault input (suc room) _ refl (omega arith) e))
      (at-fault input (suc room) (omega arith) e))

  pub by-records : (input : List ℕ) (room : ℕ) → P input room (progress input room)
  by-records input room = within (suc (length input)) input room (omega arith)

-- ---- bounds

-- a fault is 6 or 7
fault-number : (r : Record) → (fault r ≡ input_ends → ⊥) → (fault r ≡ record_crosses → ⊥) → fault r ≡ 0
fault-number (Literal n) six seven = refl
fault-number (Repeat n) six seven = refl
fault-number Nothing six seven = refl
fault-number Truncated six seven = absurd (six refl)
fault-number Crossing six seven = absurd (seven refl)

-- no more records than packed bytes, all of these in the input; a row that is full has the width asked, another less; a
-- fault is 6 or 7
pub record Bounded (input : List ℕ) (width : ℕ) (p : Progress) : Type 0 where
  pub used : p.bytes ≤ length input
  pub counted : p.records ≤ p.bytes
  pub fits : length p.made ≤ width
  pub full : p.fault ≡ 0 → length p.made ≡ width
  pub numbers : (p.fault ≡ input_ends → ⊥) → (p.fault ≡ record_crosses → ⊥) → p.fault ≡ 0

bounded-after : (input : List ℕ) (room : ℕ) (r : Record) → Whole r input room → (p : Progress)
    → Bounded (drop (packed_len r) input) (room - row_len r) p
    → Bounded input room (after (packed_len r) (row_bytes r input) p)
bounded-after input room r w p b = record {
  used = omega (arith, length-drop (packed_len r) input, w.has, b.used);
  counted = omega (arith, w.takes, b.counted);
  fits = omega (arith, length-append (row_bytes r input) p.made, w.makes, w.fits, b.fits);
  full = λ e. omega (arith, length-append (row_bytes r input) p.made, w.makes, w.fits, b.full e);
  numbers = b.numbers;
}

pub bounded : (input : List ℕ) (width : ℕ) → Bounded input width (progress input width)
bounded =
    by-records Bounded
    (λ input. record {
      used = omega arith;
      counted = omega arith;
      fits = omega arith;
      full = λ e. refl;
      numbers = λ six seven. refl;
    })
    (λ input room h e. record {
      used = omega arith;
      counted = omega arith;
      fits = omega arith;
      full = λ f. absurd (e f);
      numbers = fault-number (record_at input room);
    })
    (λ input room h e p b. bounded-after input room (record_at input room) (is_whole input room e) p b)
