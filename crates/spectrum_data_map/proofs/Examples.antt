-- Maps unpacked, computed.
use Rattle.std.specs.Prelude.{Ok, Err}
use mathlib.Core.Path.{◌≡◌, refl}
use mathlib.Core.List.{List, [], ◌∷◌}
use Prim.Native.Nat.{ℕ}
use lib.ListN.{replicate}
use Rattle.outcome.specs.Outcome.{refusal}
use Rattle.filling.specs.Filling.{Filling, fill_within, fill}
use Rattle.spectrum_data_map.specs.Records.{makes, takes, record_bytes, fault_at}
use Rattle.spectrum_data_map.specs.DataMap.{record_step, fill_map}

-- all is made, up to this offset
abbrev full : ℕ → List ℕ → Filling
full end made = record { made = made; ends = Ok end }

-- stopped behind these bytes, with this number at this place
abbrev halted : ℕ → ℕ → List ℕ → Filling
halted number place made = record { made = made; ends = Err (refusal number place) }

-- a literal of 1 byte and of 128
pub literals : (fill_map (0 ∷ 5 ∷ []) 0 1 ≡ full 2 (5 ∷ []))
    × (fill_map (127 ∷ replicate 128 5) 0 128 ≡ full 129 (replicate 128 5))
unfolding fill_map record_step fill fill_within fault_at makes takes record_bytes
literals = (refl, refl)

-- -1 and -128 repeat a byte 3 and 130 times
pub repeats : (fill_map (255 ∷ 9 ∷ []) 0 3 ≡ full 2 (9 ∷ 9 ∷ 9 ∷ []))
    × (fill_map (128 ∷ 9 ∷ []) 0 130 ≡ full 2 (replicate 130 9))
unfolding fill_map record_step fill fill_within fault_at makes takes record_bytes
repeats = (refl, refl)

-- records one after another from an offset on, and bytes left behind the last
pub together : fill_map (12 ∷ 34 ∷ 1 ∷ 5 ∷ 6 ∷ 254 ∷ 7 ∷ 0 ∷ []) 2 6 ≡ full 7 (5 ∷ 6 ∷ 7 ∷ 7 ∷ 7 ∷ 7 ∷ [])
unfolding fill_map record_step fill fill_within fault_at makes takes record_bytes
together = refl

-- the end of what is made is judged before missing input
pub crosses-first : (fill_map (128 ∷ []) 0 129 ≡ halted 7 0 [])
    × (fill_map (128 ∷ []) 0 130 ≡ halted 6 0 [])
    × (fill_map (0 ∷ 5 ∷ 3 ∷ 6 ∷ []) 0 4 ≡ halted 7 2 (5 ∷ []))
    × (fill_map (0 ∷ 5 ∷ 3 ∷ 6 ∷ []) 0 5 ≡ halted 6 2 (5 ∷ []))
unfolding fill_map record_step fill fill_within fault_at makes takes record_bytes
crosses-first = (refl, refl, refl, refl)

-- no byte left: 6 at the map's end
pub no-byte-left : fill_map (0 ∷ 5 ∷ []) 0 2 ≡ halted 6 2 (5 ∷ [])
unfolding fill_map record_step fill fill_within fault_at makes takes record_bytes
no-byte-left = refl
