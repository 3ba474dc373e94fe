-- Records fill exactly as the relations say, where a record is judged as they say: all is filled where `Makes` holds,
-- and filling stops where `Stops` does.
use Rattle.std.specs.Prelude.{Ok, Err}
use mathlib.Core.Path.{◌≡◌, refl, sym, ap, ap₂, ◌∙◌, subst}
use mathlib.Core.List.{List, []}
use Prim.Native.Nat.{ℕ, ◌+◌, ◌-◌, ◌≤◌, ◌<◌}
use native.Mathlib.Omega.{arith}
use lib.ListN.{length, drop, length-drop}
use Rattle.outcome.specs.declared.Refusal.{Refusal}
use Rattle.filling.specs.Filling.{Filling, stopped, after}
use Rattle.filling.specs.Makes.{Makes, Stops}
use Rattle.filling.proofs.Records.{Records, fill_records, by-records, records-full, records-step, records-fault}

-- `Stands file at rest`: these are the bytes of a file from an offset on
pub record Stands (file : List ℕ) (at : ℕ) (rest : List ℕ) : Type 0 where
  pub bytes : drop at file ≡ rest
  pub inside : at ≤ length file

-- the length of those bytes gives the offset
pub length-stands : (file : List ℕ) (at : ℕ) {rest : List ℕ} → Stands file at rest → at + length rest ≡ length file
length-stands file at s = omega (arith, ap length s.bytes, length-drop at file, s.inside)

-- all is filled with these bytes, and these stand behind
pub record FullAt (file : List ℕ) (f : Filling) (rest made : List ℕ) : Type 0 where
  pub end : ℕ
  pub stands : Stands file end rest
  pub fills : f ≡ record { made = made; ends = Ok end }

-- filling stops with this number, and these bytes stand there
pub record HaltsAt (file : List ℕ) (refusal_at : ℕ → ℕ → Refusal) (f : Filling) (number : ℕ) (rest : List ℕ)
    : Type 0 where
  pub place : ℕ
  pub stands : Stands file place rest
  pub ends : f.ends ≡ Err (refusal_at number place)

-- the number at which filling stops is that of a record at fault
pub stops-fault : {Whole : List ℕ → List ℕ → List ℕ → Type 0} {Faulty : ℕ → List ℕ → ℕ → Type 0} {room number : ℕ}
    {input rest : List ℕ} (P : ℕ → Type 0)
    → ((room : ℕ) (input : List ℕ) (number : ℕ) → Faulty room input number → P number)
    → Stops Whole Faulty room input number rest → P number
stops-fault P numbers (Stops.here h f) = numbers _ _ _ f
stops-fault P numbers (Stops.and_record bytes h w fits further) = stops-fault P numbers further

-- the record at an offset is judged whole and makes these bytes, and these stand behind it
pub record JudgedWhole {file : List ℕ} (r : Records file) (at room : ℕ) (next bytes : List ℕ) : Type 0 where
  pub ok : r.fault at room ≡ 0
  pub makes : (r.step at).made ≡ bytes
  pub behind : drop (r.step at).next file ≡ next

module _ {file : List ℕ} (r : Records file) (Whole : List ℕ → List ℕ → List ℕ → Type 0)
    (Faulty : ℕ → List ℕ → ℕ → Type 0) where
  -- ---- the relations from the function

  -- what is judged whole, and at fault, is that by the relations
  pub record Sound : Type 0 where
    pub whole : (at room : ℕ) → r.fault at room ≡ 0
        → Whole (drop at file) (drop (r.step at).next file) (r.step at).made
    pub faulty : (at room : ℕ) → (r.fault at room ≡ 0 → ⊥) → Faulty room (drop at file) (r.fault at room)

  -- where filling stopped
  pub record StoppedAt (at room : ℕ) (why : Refusal) : Type 0 where
    pub number : ℕ
    pub place : ℕ
    pub inside : place ≤ length file
    pub is : why ≡ r.refusal_at number place
    pub stops : Stops Whole Faulty room (drop at file) number (drop place file)

  abbrev Exact : ℕ → ℕ → Filling → Type 0
  Exact at room f =
      at ≤ length file
      → ((end : ℕ) → f.ends ≡ Ok end → Makes Whole room (drop at file) (drop end file) f.made)
      × ((why : Refusal) → f.ends ≡ Err why → StoppedAt at room why)

  exact-full : (at : ℕ) → Exact at 0 (stopped (Ok at))
  exact-full at h = (
    (λ end e.
        let same : at ≡ end = cc in
        subst (λ (k : ℕ). Makes Whole 0 (drop at file) (drop k file) []) same Makes.full),
    (λ why e. let z : ◌≡◌ {A = ℕ} 0 1 = cc in absurd (omega arith)),
  )

  module _ (sound : Sound) where
    exact-fault : (at room : ℕ) → 0 < room → (r.fault at room ≡ 0 → ⊥)
        → Exact at room (stopped (Err (r.refusal_at (r.fault at room) at)))
    exact-fault at room h bad k = (
      (λ end e. let z : ◌≡◌ {A = ℕ} 0 1 = cc in absurd (omega arith)),
      (λ why e.
          record {
            number = r.fault at room;
            place = at;
            inside = k;
            is = cc;
            stops = Stops.here h (sound.faulty at room bad);
          }),
    )

    exact-step : (at room : ℕ) (f : Filling) → 0 < room → r.fault at room ≡ 0
        → Exact (r.step at).next (room - (r.step at).filled) f → Exact at room (after (r.step at).made f)
    exact-step at room f h ok rest k =
        let w = r.whole at room ok in
        let s = r.step at in
        let fits : length s.made ≤ room = omega (arith, w.makes, w.fits) in
        let t = rest w.has in (
          (λ end e.
              let further : Makes Whole (room - length s.made) (drop s.next file) (drop end file) f.made =
              rw w.makes (t.0 end e) in
              Makes.and_record s.made h (sound.whole at room ok) fits further),
          (λ why e.
              let u = t.1 why e in
              let further : Stops Whole Faulty (room - length s.made) (drop s.next file) u.number
              (drop u.place file) = rw w.makes u.stops in
              record {
                number = u.number;
                place = u.place;
                inside = u.inside;
                is = u.is;
                stops = Stops.and_record s.made h (sound.whole at room ok) fits further;
              }),
        )

    exact : (at room : ℕ) → Exact at room (fill_records r at room)
    exact = by-records r Exact exact-full exact-fault exact-step

    -- where all is filled
    pub fill-makes : (at room end : ℕ) → at ≤ length file → (fill_records r at room).ends ≡ Ok end
        → Makes Whole room (drop at file) (drop end file) (fill_records r at room).made
    fill-makes at room end h = (exact at room h).0 end

    -- and where it stops
    pub fill_stops : (at room : ℕ) (why : Refusal) → at ≤ length file → (fill_records r at room).ends ≡ Err why
        → StoppedAt at room why
    fill_stops at room why h = (exact at room h).1 why

  -- ---- the function from the relations

  -- a whole record of the relations, and one at fault, is judged to be that
  pub record Complete : Type 0 where
    pub whole : (at room : ℕ) {input next bytes : List ℕ} → Stands file at input → Whole input next bytes
        → length bytes ≤ room → JudgedWhole r at room next bytes
    pub faulty : (at room : ℕ) {input : List ℕ} {number : ℕ} → Stands file at input → Faulty room input number
        → (r.fault at room ≡ number) × (number ≡ 0 → ⊥)

  module _ (complete : Complete) where
    -- a record of the relation, at an offset
    record StepsTo (at room : ℕ) (next bytes : List ℕ) : Type 0 where
      to : ℕ
      stands : Stands file to next
      fills : fill_records r at room ≡ after bytes (fill_records r to (room - length bytes))

    steps-to : (at room : ℕ) {input next bytes : List ℕ} → Stands file at input → 0 < room → Whole input next bytes
        → length bytes ≤ room → StepsTo at room next bytes
    steps-to at room {bytes = bytes} a h w fits =
        let j = complete.whole at room a w fits in
        let s = r.whole at room j.ok in
        let size : (r.step at).filled ≡ length bytes = sym s.makes ∙ ap length j.makes in
        record {
          to = (r.step at).next;
          stands = record { bytes = j.behind; inside = s.has };
          fills =
              records-step r at room h j.ok
              ∙ ap₂ (λ (l : List ℕ) (k : ℕ). after l (fill_records r (r.step at).next (room - k))) j.makes size;
        }

    pub makes-fill : (at : ℕ) {room : ℕ} {input rest made : List ℕ} → Stands file at input
        → Makes Whole room input rest made → FullAt file (fill_records r at room) rest made
    makes-fill at a Makes.full = record { end = at; stands = a; fills = records-full r at 0 refl }
    makes-fill at {room} a (Makes.and_record bytes h w fits further) =
        let s = steps-to at room a h w fits in
        let t = makes-fill s.to s.stands further in
        record { end = t.end; stands = t.stands; fills = s.fills ∙ ap (after bytes) t.fills }

    pub stops-fill : (at : ℕ) {room number : ℕ} {input rest : List ℕ} → Stands file at input
        → Stops Whole Faulty room input number rest → HaltsAt file r.refusal_at (fill_records r at room) number rest
    stops-fill at {room} a (Stops.here h f) =
        let j = complete.faulty at room a f in
        let bad : r.fault at room ≡ 0 → ⊥ = λ z. j.1 (sym j.0 ∙ z) in
        record {
          place = at;
          stands = a;
          ends =
              ap (λ (g : Filling). g.ends) (records-fault r at room h bad)
              ∙ ap (λ (k : ℕ). Err (r.refusal_at k at)) j.0;
        }
    stops-fill at {room} a (Stops.and_record bytes h w fits further) =
        let s = steps-to at room a h w fits in
        let t = stops-fill s.to s.stands further in
        record {
          place = t.place;
          stands = t.stands;
          ends = ap (λ (g : Filling). g.ends) s.fills ∙ t.ends;
        }
