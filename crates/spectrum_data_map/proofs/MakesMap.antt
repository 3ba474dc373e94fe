-- A map is unpacked exactly as the relations say: all is made where `Makes` holds, and it stops where `Stops` does.
use Rattle.std.specs.Prelude.{Ok, Err}
use mathlib.Core.Path.{◌≡◌}
use mathlib.Core.Logic.{◌⊎◌}
use mathlib.Core.List.{List}
use Prim.Native.Nat.{ℕ, ◌≤◌}
use lib.ListN.{length, drop}
use Rattle.lists.specs.Bytes.{Bytes}
use Rattle.outcome.specs.declared.Refusal.{Refusal}
use Rattle.outcome.specs.Outcome.{refusal}
use Rattle.outcome.specs.Refusal.{input_ends, record_crosses}
use Rattle.filling.specs.Makes.{Makes, Stops}
use Rattle.filling.proofs.Makes.{Stands, FullAt, HaltsAt, StoppedAt, fill-makes, fill_stops, makes-fill, stops-fill}
use Rattle.filling.proofs.Makes.{stops-fault}
use Rattle.spectrum_data_map.specs.DataMap.{record_step, fill_map}
use Rattle.spectrum_data_map.specs.WholeRecord.{WholeRecord}
use Rattle.spectrum_data_map.specs.FaultyRecord.{FaultyRecord}
use Rattle.spectrum_data_map.proofs.DataMap.{map_records}
use Rattle.spectrum_data_map.proofs.WholeRecord.{map-sound, map-complete, faulty-numbers}

module _ (map : List ℕ) where
  -- the relations from the function
  pub map-makes : Bytes map → (at room end : ℕ) → at ≤ length map → (fill_map map at room).ends ≡ Ok end
      → Makes WholeRecord room (drop at map) (drop end map) (fill_map map at room).made
  unfolding fill_map record_step
  map-makes bytes = fill-makes (map_records map) WholeRecord FaultyRecord (map-sound map bytes)

  pub map-stops : Bytes map → (at room : ℕ) (why : Refusal) → at ≤ length map
      → (fill_map map at room).ends ≡ Err why
      → StoppedAt (map_records map) WholeRecord FaultyRecord at room why
  unfolding fill_map record_step
  map-stops bytes = fill_stops (map_records map) WholeRecord FaultyRecord (map-sound map bytes)

  -- and the function from the relations
  pub makes-map : (at : ℕ) {room : ℕ} {input rest made : List ℕ} → Stands map at input
      → Makes WholeRecord room input rest made → FullAt map (fill_map map at room) rest made
  unfolding fill_map record_step
  makes-map at a m = makes-fill (map_records map) WholeRecord FaultyRecord (map-complete map) at a m

  pub stops-map : (at : ℕ) {room number : ℕ} {input rest : List ℕ} → Stands map at input
      → Stops WholeRecord FaultyRecord room input number rest
      → HaltsAt map refusal (fill_map map at room) number rest
  unfolding fill_map record_step
  stops-map at a s = stops-fill (map_records map) WholeRecord FaultyRecord (map-complete map) at a s

-- the numbers at which a map stops
pub map-numbers : {room number : ℕ} {input rest : List ℕ} → Stops WholeRecord FaultyRecord room input number rest
    → (number ≡ input_ends) ⊎ (number ≡ record_crosses)
map-numbers = stops-fault (λ k. (k ≡ input_ends) ⊎ (k ≡ record_crosses)) (λ room input number f. faulty-numbers f)
