-- Laws of a map's records as steps that fill an output.
use Rattle.std.specs.Prelude.{Ok, Err, ⊤}
use mathlib.Core.Path.{◌≡◌, sym, ap, ◌∙◌}
use mathlib.Core.List.{List}
use Prim.Native.Nat.{ℕ, ◌+◌, ◌-◌, ◌≤◌, ◌<◌}
use native.Mathlib.Omega.{arith}
use lib.ListN.{length}
use borrow.Author.Tests.{ne_eqb}
use Rattle.lists.proofs.Cond.{cond-eqb}
use Rattle.outcome.specs.declared.Refusal.{Refusal}
use Rattle.outcome.specs.Outcome.{Outcome, refusal, void}
use Rattle.filling.specs.Filling.{Step, stopped, after}
use Rattle.filling.proofs.Records.{Records, records-full, records-step, records-fault, records-most, records-all}
use Rattle.spectrum_data_map.specs.Records.{makes, takes, control, record_bytes, fault_at}
use Rattle.spectrum_data_map.specs.DataMap.{record_step, bytes_left, fill_map}
use Rattle.spectrum_data_map.proofs.Records.{Whole, makes-some, length-bytes, whole_here, fault-whole}

module _ (map : List ℕ) where
  abbrev pub map_records : Records map
  map_records = record {
    fault = fault_at map;
    refusal_at = refusal;
    step = λ at.
        record {
          next = at + takes (control map at);
          filled = makes (control map at);
          made = record_bytes map at;
        };
    whole = λ at room e.
        let w = whole_here map at room e in
        record { has = w.has; fits = w.fits; makes = length-bytes map at w.has };
    measure = bytes_left map;
    less = λ at room h e. omega (arith, makes-some (control map at), (whole_here map at room e).fits);
  }

  pub map-full : (at room : ℕ) → room ≡ 0 → fill_map map at room ≡ stopped (Ok at)
  unfolding fill_map record_step
  map-full = records-full map_records

  pub map-step : (at room : ℕ) → 0 < room → fault_at map at room ≡ 0
      → fill_map map at room
      ≡ after (record_bytes map at) (fill_map map (at + takes (control map at)) (room - makes (control map at)))
  unfolding fill_map record_step
  map-step = records-step map_records

  pub whole-step : (at room : ℕ) → 0 < room → Whole map at room
      → fill_map map at room
      ≡ after (record_bytes map at) (fill_map map (at + takes (control map at)) (room - makes (control map at)))
  whole-step at room some w = map-step at room some (fault-whole map at room w)

  pub map-fault : (at room : ℕ) → 0 < room → (fault_at map at room ≡ 0 → ⊥)
      → fill_map map at room ≡ stopped (Err (refusal (fault_at map at room) at))
  unfolding fill_map record_step
  map-fault = records-fault map_records

  -- ---- the record at an offset, judged

  pub judged_refused : (at room number : ℕ) → fault_at map at room ≡ number → (number ≡ 0 → ⊥)
      → void (record_step map at room) ≡ Err (refusal number at)
  unfolding record_step
  judged_refused at room number e h = rw (e, ne_eqb number 0 h)

  pub judged_accepted : (at room : ℕ) → fault_at map at room ≡ 0 → void (record_step map at room) ≡ Ok tt
  unfolding record_step
  judged_accepted at room e = rw e

  -- what the judgement says of a record
  module _ (at room : ℕ) (o : Outcome ⊤) (is : o ≡ void (record_step map at room)) where
    pub whole_judged : (u : ⊤) → o ≡ Ok u → Whole map at room
    unfolding record_step
    whole_judged u ok = whole_here map at room (zero_judged (sym is ∙ ok))
      where
        zero_judged : void (record_step map at room) ≡ Ok u → fault_at map at room ≡ 0
        zero_judged =
            cond-eqb (λ (r : Outcome Step). void r ≡ Ok u → fault_at map at room ≡ 0) (fault_at map at room) 0
            (λ h e. h)
            (λ h e. let z : ◌≡◌ {A = ℕ} 0 1 = cc in absurd (omega arith))

    pub fault_judged : (why : Refusal) → 0 < room → o ≡ Err why → fill_map map at room ≡ stopped (Err why)
    unfolding record_step
    fault_judged why some err = stops_judged (sym is ∙ err)
      where
        stops_judged : void (record_step map at room) ≡ Err why → fill_map map at room ≡ stopped (Err why)
        stops_judged =
            cond-eqb (λ (r : Outcome Step). void r ≡ Err why → fill_map map at room ≡ stopped (Err why))
            (fault_at map at room) 0
            (λ h e. let z : ◌≡◌ {A = ℕ} 0 1 = cc in absurd (omega arith))
            (λ h e.
            let told : refusal (fault_at map at room) at ≡ why = cc in
            map-fault at room some h ∙ ap (λ (w : Refusal). stopped (Err w)) told)

  -- the bytes made are no more than there is room for, and as many where all is filled
  pub map-most : (at room : ℕ) → length (fill_map map at room).made ≤ room
  unfolding fill_map record_step
  map-most = records-most map_records

  pub map-all : (at room end : ℕ) → (fill_map map at room).ends ≡ Ok end
      → length (fill_map map at room).made ≡ room
  unfolding fill_map record_step
  map-all = records-all map_records
