-- Records at the offsets of a file, each judged by a refusal number, as steps that fill.
use Rattle.std.specs.Prelude.{Ok, Err}
use Rattle.outcome.specs.Outcome.{Outcome}
use mathlib.Core.Path.{◌≡◌, sym, ◌∙◌}
use mathlib.Core.Bool.{cond}
use mathlib.Core.List.{List}
use Prim.Native.Nat.{ℕ, ◌-◌, ◌*◌, ◌≤◌, ◌<◌}
use native.Mathlib.Omega.{arith}
use native.Mathlib.Nat.{mul-one}
use lib.ListN.{length}
use lib.Dec.{eqb}
use borrow.Author.Tests.{eq-eqb, ne_eqb}
use Rattle.lists.proofs.Cond.{cond-eqb}
use Rattle.outcome.specs.declared.Refusal.{Refusal}
use Rattle.filling.specs.Filling.{Step, Filling, stopped, after, fill}
use Rattle.filling.proofs.Filling.{fill-full, fill_step, fill-fault, by-steps, made-most, made_all}

-- ---- a judgement by a refusal number, or by what follows where that is 0

module _ (number : ℕ) (why : Refusal) (further : Outcome Step) where
  pub without-fault : number ≡ 0 → cond (eqb number 0) further (Err why) ≡ further
  without-fault e = rw (eq-eqb number 0 e)

  pub with-fault : (number ≡ 0 → ⊥) → cond (eqb number 0) further (Err why) ≡ Err why
  with-fault e = rw (ne_eqb number 0 e)

  pub accepted-fault : (s : Step) → cond (eqb number 0) further (Err why) ≡ Ok s
      → (number ≡ 0) × (further ≡ Ok s)
  accepted-fault s =
      cond-eqb (λ o. o ≡ Ok s → (number ≡ 0) × (further ≡ Ok s)) number 0 (λ h e. (h, e))
      (λ h e. let z : ◌≡◌ {A = ℕ} 0 1 = cc in absurd (omega arith))

-- ---- records

-- a step that ends in the file, fills no more than there is room for and makes as many bytes
pub record WholeStep (file : List ℕ) (room : ℕ) (s : Step) : Type 0 where
  pub has : s.next ≤ length file
  pub fits : s.filled ≤ room
  pub makes : length s.made ≡ s.filled

-- how the records at the offsets of a file are judged, and what each is as a step
pub record Records (file : List ℕ) : Type 0 where
  -- the refusal number of the record at an offset, or 0, with so much room
  pub fault : ℕ → ℕ → ℕ
  -- its refusal, by that number and its offset
  pub refusal_at : ℕ → ℕ → Refusal
  -- the step that it is where it is whole
  pub step : ℕ → Step
  pub whole : (at room : ℕ) → fault at room ≡ 0 → WholeStep file room (step at)
  -- what each whole record makes less
  pub measure : ℕ → ℕ → ℕ
  pub less : (at room : ℕ) → 0 < room → fault at room ≡ 0
      → measure (step at).next (room - (step at).filled) < measure at room

module _ {file : List ℕ} (r : Records file) where
  -- the record at an offset, judged
  abbrev pub judge : ℕ → ℕ → Outcome Step
  judge at room =
      cond (eqb (r.fault at room) 0) (Ok (r.step at)) (Err (r.refusal_at (r.fault at room) at))

  -- the records from an offset on
  abbrev pub fill_records : ℕ → ℕ → Filling
  fill_records at room = fill judge r.measure at room

  -- ---- one record

  judge-accepted : (at room : ℕ) (s : Step) → judge at room ≡ Ok s
      → (r.fault at room ≡ 0) × (s ≡ r.step at)
  judge-accepted at room s ok =
      let f = accepted-fault (r.fault at room) _ (Ok (r.step at)) s ok in
      let same : Ok (r.step at) ≡ Ok s = f.1 in
      (f.0, cc)

  judge-refused : (at room : ℕ) (why : Refusal) → judge at room ≡ Err why
      → (r.fault at room ≡ 0 → ⊥) × (why ≡ r.refusal_at (r.fault at room) at)
  judge-refused at room why =
      cond-eqb (λ o. o ≡ Err why → (r.fault at room ≡ 0 → ⊥) × (why ≡ r.refusal_at (r.fault at room) at))
      (r.fault at room) 0
      (λ h e. let z : ◌≡◌ {A = ℕ} 0 1 = cc in absurd (omega arith))
      (λ h e. (h, cc))

  judge-less : (at room : ℕ) (s : Step) → 0 < room → judge at room ≡ Ok s
      → r.measure s.next (room - s.filled) < r.measure at room
  judge-less at room s h ok = let e = judge-accepted at room s ok in rw e.1 (r.less at room h e.0)

  sized : (at room : ℕ) (s : Step) → 0 < room → judge at room ≡ Ok s
      → (s.filled ≤ room) × (length s.made ≡ s.filled * 1)
  sized at room s h ok =
      let e = judge-accepted at room s ok in
      let w = r.whole at room e.0 in
      rw e.1 (w.fits, w.makes ∙ sym (mul-one (r.step at).filled))

  -- ---- all of them

  pub records-full : (at room : ℕ) → room ≡ 0 → fill_records at room ≡ stopped (Ok at)
  records-full = fill-full judge r.measure judge-less

  pub records-step : (at room : ℕ) → 0 < room → r.fault at room ≡ 0 → fill_records at room
      ≡ after (r.step at).made (fill_records (r.step at).next (room - (r.step at).filled))
  records-step at room h e =
      fill_step judge r.measure judge-less at room (r.step at) h (without-fault (r.fault at room) _ _ e)

  pub records-fault : (at room : ℕ) → 0 < room → (r.fault at room ≡ 0 → ⊥)
      → fill_records at room ≡ stopped (Err (r.refusal_at (r.fault at room) at))
  records-fault at room h e =
      fill-fault judge r.measure judge-less at room _ h (with-fault (r.fault at room) _ _ e)

  -- induction over them
  module _ (P : ℕ → ℕ → Filling → Type 0) (full : (at : ℕ) → P at 0 (stopped (Ok at)))
      (fault : (at room : ℕ) → 0 < room → (r.fault at room ≡ 0 → ⊥)
      → P at room (stopped (Err (r.refusal_at (r.fault at room) at))))
      (step : (at room : ℕ) (f : Filling) → 0 < room → r.fault at room ≡ 0
      → P (r.step at).next (room - (r.step at).filled) f → P at room (after (r.step at).made f)) where
    pub by-records : (at room : ℕ) → P at room (fill_records at room)
    by-records =
        by-steps judge r.measure judge-less P full
        (λ at room why h no. let e = judge-refused at room why no in rw e.1 (fault at room h e.0))
        (λ at room s f h ok. let e = judge-accepted at room s ok in rw e.1 (step at room f h e.0))

  -- the bytes made are no more than there is room for, and as many where all is filled
  pub records-most : (at room : ℕ) → length (fill_records at room).made ≤ room
  records-most at room = omega (arith, made-most judge r.measure judge-less 1 sized at room, mul-one room)

  pub records-all : (at room end : ℕ) → (fill_records at room).ends ≡ Ok end
      → length (fill_records at room).made ≡ room
  records-all at room end e = made_all judge r.measure judge-less 1 sized at room end e ∙ mul-one room

  -- and the last record ends in the file
  pub records-inside : (at room end : ℕ) → at ≤ length file → (fill_records at room).ends ≡ Ok end
      → end ≤ length file
  records-inside at room end =
      by-records (λ at room f. at ≤ length file → f.ends ≡ Ok end → end ≤ length file)
      (λ at h e. let same : at ≡ end = cc in omega arith)
      (λ at room h bad k e. let z : ◌≡◌ {A = ℕ} 0 1 = cc in absurd (omega arith))
      (λ at room f h ok rest k e. rest (r.whole at room ok).has e)
      at room
