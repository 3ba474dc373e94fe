-- Laws of a line's records as steps that fill it.
use Rattle.std.specs.Prelude.{Ok, Err}
use Rattle.outcome.specs.Outcome.{Outcome}
use mathlib.Core.Path.{◌≡◌, sym, ap, ◌∙◌}
use mathlib.Core.List.{List}
use Prim.Native.Nat.{ℕ, ◌+◌, ◌-◌, ◌*◌, ◌≤◌, ◌<◌}
use native.Mathlib.Omega.{arith}
use native.Mathlib.Nat.{mul-one}
use lib.ListN.{length}
use borrow.Author.Tests.{eq-eqb, ne_eqb}
use Rattle.lists.proofs.Cond.{cond-eqb}
use Rattle.filling.specs.Filling.{Step, stopped, after}
use Rattle.filling.proofs.Filling.{fill-full, fill_step, fill-fault, by-steps, made-most, made_all}
use Rattle.gem_img_records.specs.Records.{record_at, packed_len, line_len, line_bytes, fault_at}
use Rattle.gem_img_records.specs.Line.{refusal_at, unless_fault, record_step, bytes_ahead, fill_line}
use Rattle.gem_img_records.proofs.Records.{Whole, whole}

-- ---- what a fault does to a step

module _ {A : Type 0} (number at : ℕ) (further : Outcome A) where
  pub without-fault : number ≡ 0 → unless_fault number at further ≡ further
  without-fault e = rw (eq-eqb number 0 e)

  pub with-fault : (number ≡ 0 → ⊥) → unless_fault number at further ≡ Err (refusal_at number at)
  with-fault e = rw (ne_eqb number 0 e)

  pub accepted-fault : (a : A) → unless_fault number at further ≡ Ok a → (number ≡ 0) × (further ≡ Ok a)
  accepted-fault a =
      cond-eqb (λ o. o ≡ Ok a → (number ≡ 0) × (further ≡ Ok a)) number 0 (λ h e. (h, e))
      (λ h e. let z : ◌≡◌ {A = ℕ} 0 1 = cc in absurd (omega arith))

-- ---- a record as a step

module _ (pattern : ℕ) (file : List ℕ) where
  -- the step of the record at an offset
  abbrev pub step_of : ℕ → Step
  step_of at = record {
    next = at + packed_len pattern (record_at file at);
    filled = line_len pattern (record_at file at);
    made = line_bytes pattern (record_at file at) file at;
  }

  pub step-whole : (at room : ℕ) → fault_at pattern file at room ≡ 0
      → record_step pattern file at room ≡ Ok (step_of at)
  unfolding record_step
  step-whole at room e = without-fault (fault_at pattern file at room) at (Ok (step_of at)) e

  pub step-fault : (at room : ℕ) → (fault_at pattern file at room ≡ 0 → ⊥)
      → record_step pattern file at room ≡ Err (refusal_at (fault_at pattern file at room) at)
  unfolding record_step
  step-fault at room e = with-fault (fault_at pattern file at room) at (Ok (step_of at)) e

  pub step-accepted : (at room : ℕ) (s : Step) → record_step pattern file at room ≡ Ok s
      → (fault_at pattern file at room ≡ 0) × (s ≡ step_of at)
  unfolding record_step
  step-accepted at room s e =
      let f = accepted-fault (fault_at pattern file at room) at (Ok (step_of at)) s e in
      let same : Ok (step_of at) ≡ Ok s = f.1 in
      (f.0, cc)

  pub whole_here : (at room : ℕ) → fault_at pattern file at room ≡ 0 → Whole pattern file at room (record_at file at)
  unfolding fault_at
  whole_here at room e = whole pattern file at room (record_at file at) e

  pub step_less : (at room : ℕ) (s : Step) → 0 < room → record_step pattern file at room ≡ Ok s
      → bytes_ahead pattern file s.next (room - s.filled) < bytes_ahead pattern file at room
  step_less at room s h ok =
      let f = step-accepted at room s ok in
      let w = whole_here at room f.0 in
      omega (arith, w.has, w.takes, ap (λ (t : Step). t.next) f.1)

  sized : (at room : ℕ) (s : Step) → 0 < room → record_step pattern file at room ≡ Ok s
      → (s.filled ≤ room) × (length s.made ≡ s.filled * 1)
  sized at room s h ok =
      let f = step-accepted at room s ok in
      let w = whole_here at room f.0 in
      rw f.1 (w.fits, w.makes ∙ sym (mul-one (line_len pattern (record_at file at))))

  -- ---- a line

  pub line-full : (at room : ℕ) → room ≡ 0 → fill_line pattern file at room ≡ stopped (Ok at)
  unfolding fill_line
  line-full = fill-full (record_step pattern file) (bytes_ahead pattern file) step_less

  pub line_step : (at room : ℕ) → 0 < room → fault_at pattern file at room ≡ 0
      → fill_line pattern file at room
      ≡ after (line_bytes pattern (record_at file at) file at)
      (fill_line pattern file (at + packed_len pattern (record_at file at)) (room - line_len pattern (record_at file at)))
  unfolding fill_line
  line_step at room h e =
      fill_step (record_step pattern file) (bytes_ahead pattern file) step_less at room (step_of at) h
      (step-whole at room e)

  pub line-fault : (at room : ℕ) → 0 < room → (fault_at pattern file at room ≡ 0 → ⊥)
      → fill_line pattern file at room ≡ stopped (Err (refusal_at (fault_at pattern file at room) at))
  unfolding fill_line
  line-fault at room h e =
      fill-fault (record_step pattern file) (bytes_ahead pattern file) step_less at room _ h (step-fault at room e)

  -- its bytes are no more than there is room for, and as many where it is full
  pub line-most : (at room : ℕ) → length (fill_line pattern file at room).made ≤ room
  unfolding fill_line
  line-most at room =
      omega (
        arith,
        made-most (record_step pattern file) (bytes_ahead pattern file) step_less 1 sized at room,
        mul-one room,
      )

  pub line-all : (at room end : ℕ) → (fill_line pattern file at room).ends ≡ Ok end
      → length (fill_line pattern file at room).made ≡ room
  unfolding fill_line
  line-all at room end e =
      made_all (record_step pattern file) (bytes_ahead pattern file) step_less 1 sized at room end e ∙ mul-one room

  -- and it ends in the file
  pub line-inside : (at room end : ℕ) → at ≤ length file → (fill_line pattern file at room).ends ≡ Ok end
      → end ≤ length file
  unfolding fill_line
  line-inside at room end =
      by-steps (record_step pattern file) (bytes_ahead pattern file) step_less
      (λ at room f. at ≤ length file → f.ends ≡ Ok end → end ≤ length file)
      (λ at h e. let same : at ≡ end = cc in omega arith)
      (λ at room why h bad k e. let z : ◌≡◌ {A = ℕ} 0 1 = cc in absurd (omega arith))
      (λ at room s f h ok rest k e.
      let g = step-accepted at room s ok in
      let w = whole_here at room g.0 in
      rest (omega (arith, w.has, ap (λ (t : Step). t.next) g.1)) e)
      at room
