-- A line is unpacked exactly as the relations say: full where `MakesLine` holds, and stopped where `StopsLine` does.
use Rattle.std.specs.Prelude.{Ok, Err}
use Rattle.outcome.specs.Outcome.{Outcome}
use mathlib.Core.Path.{◌≡◌, refl, sym, ap, ap₂, ◌∙◌, subst}
use mathlib.Core.List.{List, []}
use Prim.Native.Nat.{ℕ, ◌+◌, ◌-◌, ◌≤◌, ◌<◌}
use native.Mathlib.Omega.{arith}
use lib.ListN.{length, drop}
use lib.Seq.{get_or-drop, drop-drop}
use Rattle.lists.specs.Bytes.{Bytes}
use Rattle.outcome.specs.declared.Refusal.{Refusal}
use Rattle.filling.specs.Filling.{Step, Filling, stopped, after}
use Rattle.filling.proofs.Filling.{by-steps}
use Rattle.gem_img_records.specs.declared.Record.{Record}
use Rattle.gem_img_records.specs.Records.{record_at, packed_len, line_len, line_bytes, fault_at}
use Rattle.gem_img_records.specs.Line.{refusal_at, record_step, bytes_ahead, fill_line}
use Rattle.gem_img_records.specs.WholeRecord.{WholeRecord}
use Rattle.gem_img_records.specs.MakesLine.{MakesLine, full, and_record}
use Rattle.gem_img_records.specs.StopsLine.{FaultyRecord, StopsLine, here}
use Rattle.gem_img_records.specs.StopsLine as stops
use Rattle.gem_img_records.proofs.Line.{step_of, step-accepted, step-whole, step-fault, whole_here, step_less}
use Rattle.gem_img_records.proofs.Line.{line-full, line_step, line-fault}
use Rattle.gem_img_records.proofs.WholeRecord.{record-front, fault-front, bytes-front, record-exact}
use Rattle.gem_img_records.proofs.WholeRecord.{whole-counted, faulty-judged, faulty-number}

-- `Stands file at rest`: these are the bytes of a file from an offset on
pub record Stands (file : List ℕ) (at : ℕ) (rest : List ℕ) : Type 0 where
  pub bytes : drop at file ≡ rest
  pub inside : at ≤ length file

module _ (pattern : ℕ) (file : List ℕ) (bytes : Bytes file) where
  bytes-from : (at : ℕ) → Bytes (drop at file)
  bytes-from at i = subst (λ (b : ℕ). b < 256) (sym (get_or-drop at file i 0)) (bytes (at + i))

  -- ---- a record at an offset

  whole-at : (at room : ℕ) → fault_at pattern file at room ≡ 0
      → WholeRecord pattern (drop at file) (drop (at + packed_len pattern (record_at file at)) file)
      (line_bytes pattern (record_at file at) file at)
  whole-at at room e =
      rw (
        ← drop-drop (packed_len pattern (record_at file at)) at file,
        bytes-front file at pattern (record_at file at),
        record-front file at,
      )
      ((record-exact pattern room (drop at file) (bytes-from at)).0 (sym (fault-front file at pattern room) ∙ e))

  pub faulty-at : (at room : ℕ) → (fault_at pattern file at room ≡ 0 → ⊥)
      → FaultyRecord pattern room (drop at file) (fault_at pattern file at room)
  faulty-at at room e =
      rw (fault-front file at pattern room)
      ((record-exact pattern room (drop at file) (bytes-from at)).1 (λ z. e (fault-front file at pattern room ∙ z)))

  -- ---- the relations from the function

  -- where unpacking a line stopped
  pub record StoppedAt (at room : ℕ) (why : Refusal) : Type 0 where
    pub number : ℕ
    pub place : ℕ
    pub inside : place ≤ length file
    pub is : why ≡ refusal_at number place
    pub stops : StopsLine pattern room (drop at file) number (drop place file)

  abbrev LineExact : ℕ → ℕ → Filling → Type 0
  LineExact at room f =
      at ≤ length file
      → ((end : ℕ) → f.ends ≡ Ok end → MakesLine pattern room (drop at file) (drop end file) f.made)
      × ((why : Refusal) → f.ends ≡ Err why → StoppedAt at room why)

  exact-full : (at : ℕ) → LineExact at 0 (stopped (Ok at))
  exact-full at h = (
    (λ end e.
        let same : at ≡ end = cc in
        subst (λ (k : ℕ). MakesLine pattern 0 (drop at file) (drop k file) []) same full),
    (λ why e. let z : ◌≡◌ {A = ℕ} 0 1 = cc in absurd (omega arith)),
  )

  exact-fault : (at room : ℕ) (why : Refusal) → 0 < room → record_step pattern file at room ≡ Err why
      → LineExact at room (stopped (Err why))
  exact-fault at room why h e k = (
    (λ end f. let z : ◌≡◌ {A = ℕ} 0 1 = cc in absurd (omega arith)),
    (λ w f.
        let bad : fault_at pattern file at room ≡ 0 → ⊥ =
        λ z. let y : Ok (step_of pattern file at) ≡ Err why = sym (step-whole pattern file at room z) ∙ e in
        let x : ◌≡◌ {A = ℕ} 0 1 = cc in omega arith in
        let same : why ≡ w = cc in
        let is : refusal_at (fault_at pattern file at room) at ≡ why =
        refused-same _ why (sym (step-fault pattern file at room bad) ∙ e) in
        record {
          number = fault_at pattern file at room;
          place = at;
          inside = k;
          is = sym same ∙ sym is;
          stops = here h (faulty-at at room bad);
        }),
  )
    where
      refused-same : (v w : Refusal) → ◌≡◌ {A = Outcome Step} (Err v) (Err w) → v ≡ w
      refused-same v w p = cc

  exact-step : (at room : ℕ) (s : Step) (f : Filling) → 0 < room → record_step pattern file at room ≡ Ok s
      → LineExact s.next (room - s.filled) f → LineExact at room (after s.made f)
  exact-step at room s f h ok rest k =
      let g = step-accepted pattern file at room s ok in
      let w = whole_here pattern file at room g.0 in
      let record_is : WholeRecord pattern (drop at file) (drop s.next file) s.made =
      rw g.1 (whole-at at room g.0) in
      let size : length s.made ≡ s.filled = rw g.1 w.makes in
      let fits : length s.made ≤ room = rw g.1 (omega (arith, w.makes, w.fits)) in
      let next : s.next ≤ length file = rw g.1 w.has in
      let r = rest next in (
        (λ end e.
            let further : MakesLine pattern (room - length s.made) (drop s.next file) (drop end file) f.made =
            rw size (r.0 end e) in
            and_record s.made h record_is fits further),
        (λ why e.
            let t = r.1 why e in
            let further : StopsLine pattern (room - length s.made) (drop s.next file) t.number
            (drop t.place file) = rw size t.stops in
            record {
              number = t.number;
              place = t.place;
              inside = t.inside;
              is = t.is;
              stops = stops.and_record s.made h record_is fits further;
            }),
      )

  line-exact : (at room : ℕ) → LineExact at room (fill_line pattern file at room)
  unfolding fill_line
  line-exact =
      by-steps (record_step pattern file) (bytes_ahead pattern file) (step_less pattern file) LineExact exact-full
      exact-fault exact-step

  -- a line that is full
  pub line-makes : (at room end : ℕ) → at ≤ length file → (fill_line pattern file at room).ends ≡ Ok end
      → MakesLine pattern room (drop at file) (drop end file) (fill_line pattern file at room).made
  line-makes at room end h = (line-exact at room h).0 end

  -- and one that is refused
  pub line-stops : (at room : ℕ) (why : Refusal) → at ≤ length file
      → (fill_line pattern file at room).ends ≡ Err why → StoppedAt at room why
  line-stops at room why h = (line-exact at room h).1 why

-- ---- the function from the relations

module _ (pattern : ℕ) (file : List ℕ) where
  -- a record of the relation, at an offset
  record StepsTo (at room : ℕ) (next bytes : List ℕ) : Type 0 where
    to : ℕ
    stands : Stands file to next
    fills : fill_line pattern file at room ≡ after bytes (fill_line pattern file to (room - length bytes))

  steps-to : (at room : ℕ) {input next bytes : List ℕ} → Stands file at input → 0 < room
      → WholeRecord pattern input next bytes → length bytes ≤ room → StepsTo at room next bytes
  steps-to at room {input} {next} {bytes} a h w fits =
      let c = whole-counted pattern room w fits in
      let r : record_at file at ≡ record_at input 0 =
      record-front file at ∙ ap (λ (l : List ℕ). record_at l 0) a.bytes in
      let ok : fault_at pattern file at room ≡ 0 =
      fault-front file at pattern room ∙ ap (λ (l : List ℕ). fault_at pattern l 0 room) a.bytes ∙ c.ok in
      let made : line_bytes pattern (record_at file at) file at ≡ bytes =
      bytes-front file at pattern (record_at file at)
      ∙ ap₂ (λ (q : Record) (l : List ℕ). line_bytes pattern q l 0) r a.bytes
      ∙ c.makes in
      let size : line_len pattern (record_at file at) ≡ length bytes = ap (line_len pattern) r ∙ c.long in
      let whole = whole_here pattern file at room ok in
      record {
        to = at + packed_len pattern (record_at file at);
        stands = record {
          bytes =
              sym (drop-drop (packed_len pattern (record_at file at)) at file)
              ∙ ap₂ (λ (q : Record) (l : List ℕ). drop (packed_len pattern q) l) r a.bytes
              ∙ c.behind;
          inside = whole.has;
        };
        fills =
            line_step pattern file at room h ok
            ∙ ap₂ (λ (l : List ℕ) (k : ℕ).
            after l (fill_line pattern file (at + packed_len pattern (record_at file at)) (room - k))) made size;
      }

  -- what a line comes to
  pub record FullAt (at room : ℕ) (rest line : List ℕ) : Type 0 where
    pub end : ℕ
    pub stands : Stands file end rest
    pub fills : fill_line pattern file at room ≡ record { made = line; ends = Ok end }

  pub makes-line : (at : ℕ) {room : ℕ} {input rest line : List ℕ} → Stands file at input
      → MakesLine pattern room input rest line → FullAt at room rest line
  makes-line at a full = record { end = at; stands = a; fills = line-full pattern file at 0 refl }
  makes-line at {room} a (and_record bytes h w fits further) =
      let s = steps-to at room a h w fits in
      let t = makes-line s.to s.stands further in
      record { end = t.end; stands = t.stands; fills = s.fills ∙ ap (after bytes) t.fills }

  pub record HaltsAt (at room number : ℕ) (rest : List ℕ) : Type 0 where
    pub place : ℕ
    pub stands : Stands file place rest
    pub ends : (fill_line pattern file at room).ends ≡ Err (refusal_at number place)

  pub stops-line : (at : ℕ) {room number : ℕ} {input rest : List ℕ} → Stands file at input
      → StopsLine pattern room input number rest → HaltsAt at room number rest
  stops-line at {room} {number} a (here h f) =
      let n : fault_at pattern file at room ≡ number =
      fault-front file at pattern room
      ∙ ap (λ (l : List ℕ). fault_at pattern l 0 room) a.bytes
      ∙ faulty-judged pattern room f in
      let bad : fault_at pattern file at room ≡ 0 → ⊥ = λ z. faulty-number pattern room f (sym n ∙ z) in
      record {
        place = at;
        stands = a;
        ends =
            ap (λ (g : Filling). g.ends) (line-fault pattern file at room h bad)
            ∙ ap (λ (k : ℕ). Err (refusal_at k at)) n;
      }
  stops-line at {room} a (stops.and_record bytes h w fits further) =
      let s = steps-to at room a h w fits in
      let t = stops-line s.to s.stands further in
      record {
        place = t.place;
        stands = t.stands;
        ends = ap (λ (g : Filling). g.ends) s.fills ∙ t.ends;
      }
