-- Where a body broke, and that what its refusal calls good is what every completion of the file has (document 02,
-- ticket 3).
use Rattle.std.specs.Prelude.{Ok, Err}
use mathlib.Core.Path.{◌≡◌, refl, sym, ap, ap₂, ◌∙◌, subst}
use mathlib.Core.Logic.{inl, inr}
use mathlib.Core.List.{List, ◌++◌, flatten}
use Prim.Native.Nat.{ℕ, ◌+◌, ◌≤◌, ◌<◌}
use native.Mathlib.Omega.{arith}
use lib.ListN.{length, take, drop}
use lib.Seq.{length-take-le, take-add, drop_at}
use lib.Dec.{eqb}
use Rattle.lists.specs.Bytes.{Bytes}
use Rattle.lists.proofs.Bytes.{bytes_drop}
use Rattle.lists.proofs.Cond.{cond-elim}
use Rattle.outcome.specs.declared.Refusal.{Refusal}
use Rattle.outcome.specs.Outcome.{Outcome, refusal, map, bind, placed, refusal_of}
use Rattle.outcome.specs.Refusal.{wrong_tail}
use Rattle.packbits.specs.Rows.{Rows, done_rows, unpack_rows}
use Rattle.packbits.specs.Stops.{AtRecord, BeginsWith}
use Rattle.packbits.proofs.Completion.{completion, good-bytes}
use Rattle.packbits.proofs.RowsExact.{complete-rows}
use Rattle.packbits.proofs.Stops.{faulty-number, stops-complete, stops-exactly}
use Rattle.raster.specs.declared.Raster.{Raster}
use Rattle.raster.specs.Shape.{row_bytes, rows, bytes}
use Rattle.raster.specs.PlaneRows.{plane_row, plane_rows}
use Rattle.raster.proofs.Joined.{row_ends}
use Rattle.raster.proofs.PlaneRows.{length-plane_rows, wide-plane_rows, get_or-plane_rows}
use Rattle.bodies.specs.Damage.{BodyStops, good_rows, good_row, good_part, good_count}
use Rattle.bodies.specs.Unpacking.{UnpackedBody, body_of}
use Rattle.bodies.specs.Reading.{judge_end, read_body, BodyFits}
use Rattle.bodies.proofs.Fits.{fits-length, fits-behind}

-- ---- refused at a record, exactly where the body stops

module _ (file : List ℕ) (at : ℕ) (r : Raster) where
  abbrev all_rows : Outcome Rows
  all_rows = unpack_rows (rows r) (row_bytes r) (drop at file)

  pub stops-refused : (after : ℕ) {why : Refusal} → BodyStops file at r why → read_body file at after r ≡ Err why
  unfolding read_body
  stops-refused after s =
      let e = stops-complete (rows r) (row_bytes r) (drop at file) s.inside s.stops in
      ap (λ (o : Outcome Rows). bind (map (body_of r) (placed at o)) (judge_end file at after)) e
      ∙ ap Err (sym s.from)

  pub stops-number : {why : Refusal} → BodyStops file at r why → AtRecord why.number
  stops-number s = subst (λ (w : Refusal). AtRecord w.number) (sym s.from) (faulty-number s.stops.faulty)

  -- another number is that of the end
  not_end : (place : ℕ) → AtRecord (refusal wrong_tail place).number → ⊥
  not_end place (inl six) = omega arith
  not_end place (inr seven) = omega arith

  pub refused-stops : (after : ℕ) (why : Refusal) → Bytes file → read_body file at after r ≡ Err why
      → AtRecord why.number → BodyStops file at r why
  unfolding read_body
  refused-stops after why all = go all_rows refl
    where
      Stopped : Outcome UnpackedBody → Type 0
      Stopped o = o ≡ Err why → AtRecord why.number → BodyStops file at r why

      ended : (q : Rows) → Stopped (judge_end file at after (body_of r q))
      ended q =
          cond-elim Stopped (eqb (length file) (at + q.bytes + after))
          (λ _ e n. let z : ◌≡◌ {A = ℕ} 0 1 = cc in absurd (omega arith))
          (λ _ e n. absurd (not_end (at + q.bytes)
          (subst (λ (w : Refusal). AtRecord w.number) (sym (ap (λ (o : Outcome UnpackedBody). refusal_of o) e)) n)))

      go : (o : Outcome Rows) → all_rows ≡ o → Stopped (bind (map (body_of r) (placed at o)) (judge_end file at after))
      go (Ok q) is = ended q
      go (Err w) is = λ e n. record {
        inside = w;
        from = sym (ap (λ (o : Outcome UnpackedBody). refusal_of o) e);
        stops = (stops-exactly (rows r) (row_bytes r) (drop at file) w (bytes_drop at file all)).0 is;
      }

-- ---- the refusal has the body's numbers, and the body's place behind the header

module _ {file : List ℕ} {at : ℕ} {r : Raster} {why : Refusal} (d : BodyStops file at r why) where
  pub stops-place : why.place ≡ at + d.inside.place
  stops-place = ap (λ (w : Refusal). w.place) d.from

  plane-row : why.plane_row ≡ length d.stops.rows
  plane-row = ap (λ (w : Refusal). w.plane_row) d.from ∙ d.stops.plane_row

  row-bytes : why.good_bytes ≡ length d.stops.begun
  row-bytes = ap (λ (w : Refusal). w.good_bytes) d.from ∙ d.stops.good_bytes

  -- less than the whole image is good
  pub good-below : good_count r why < bytes r
  good-below =
      let n : ℕ = why.plane_row in
      let ends = row_ends r n (omega (arith, plane-row, d.stops.more)) in
      omega (arith, ends, row-bytes, d.stops.under)

-- ---- a completion: another file that begins with the same bytes up to the record at fault, and that fits

same-behind : (k m : ℕ) (s t : List ℕ) → k ≤ length s → k ≤ length t → take (k + m) s ≡ take (k + m) t
    → take m (drop k s) ≡ take m (drop k t)
same-behind k m s t h g e = sym (behind s h) ∙ ap (drop k) e ∙ behind t g
  where
    behind : (l : List ℕ) → k ≤ length l → drop k (take (k + m) l) ≡ take m (drop k l)
    behind l h = ap (drop k) (take-add k m l) ∙ drop_at (take k l) (take m (drop k l)) k (length-take-le k l h)

module _ {file : List ℕ} {at : ℕ} {r : Raster} {why : Refusal} (d : BodyStops file at r why) (header : at ≤ length file)
    {other : List ℕ} {after limit : ℕ} (b : BodyFits other at after limit r)
    (same : take why.place other ≡ take why.place file) where
  same_body : take d.inside.place (drop at other) ≡ take d.inside.place (drop at file)
  same_body =
      same-behind at d.inside.place other file (omega (arith, fits-length other at after limit r b)) header
      (rw (stops-place d) at same)

  body-rows : unpack_rows (rows r) (row_bytes r) (drop at other)
      ≡ done_rows (length b.body) b.records (plane_rows b.image r)
  body-rows =
      let list : List (List ℕ) = plane_rows b.image r in
      ap₂ (λ (n : ℕ) (l : List ℕ). unpack_rows n (row_bytes r) l) (sym (length-plane_rows b.image r))
      (fits-behind other at after limit r b)
      ∙ complete-rows (row_bytes r) (wide-plane_rows b.image r) b.runs b.tail

  begins : BeginsWith d.stops.rows d.stops.begun (plane_rows b.image r)
  begins = completion (rows r) (row_bytes r) d.stops (drop at other) same_body _ body-rows

  -- what the refusal calls good of its image is what the records before the one at fault make
  pub good-rows : good_rows r why b.image ≡ d.stops.rows
  good-rows = ap (λ (k : ℕ). take k (plane_rows b.image r)) (plane-row d) ∙ begins.whole

  pub good-row : good_row r why b.image ≡ d.stops.begun
  good-row =
      ap₂ (λ (k n : ℕ). take k (plane_row b.image r n)) (row-bytes d) (plane-row d)
      ∙ ap (take (length d.stops.begun))
      (sym (get_or-plane_rows b.image r (length d.stops.rows) d.stops.more))
      ∙ begins.next

  pub good-count : length (good_part r why b.image) ≡ good_count r why
  good-count =
      ap₂ (λ (a : List (List ℕ)) (l : List ℕ). length (flatten a ++ l)) good-rows good-row
      ∙ sym (good-bytes (rows r) (row_bytes r) d.stops)
      ∙ ap (good_count r) (sym d.from)
