-- The steps from the first record on give the records of the list, in order, and then, for ever, done or the refusal.
use Rattle.std.specs.Prelude.{Ok, Err}
use mathlib.Core.Path.{◌≡◌, sym, ap, ap₂, ◌∙◌, subst}
use Prim.Native.Nat.{ℕ, zero, suc, ◌+◌, ◌-◌, ◌≤◌, ◌<◌}
use native.Mathlib.Nat.{add-zero}
use native.Mathlib.Omega.{arith}
use mathlib.Core.Bool.{cond}
use mathlib.Core.List.{List, [], ◌∷◌, ◌++◌, append-nil}
use lib.ListN.{length, drop, length-append}
use lib.Dec.{eqb}
use borrow.Author.Tests.{ne_eqb}
use Rattle.outcome.specs.Outcome.{row_refusal}
use Rattle.packbits.specs.declared.Record.{Record}
use Rattle.packbits.specs.Records.{packed_len, row_len, row_bytes, fault}
use Rattle.packbits.specs.Unpack.{stopped}
use Rattle.packbits.specs.Rows.{RowsProgress, no_rows, stopped_in, row_before, rows_progress}
use Rattle.packbits.proofs.Records.{whole-at}
use Rattle.packbits.proofs.RowsFrom.{record_before}
use Rattle.resolution.specs.declared.Resolution.{Resolution}
use Rattle.resolution.specs.Shapes.{row_bytes_of, plane_rows_of}
use Rattle.resolution.proofs.Rasters.{raster-row_bytes, raster-width}
use Rattle.degas.specs.Layout.{header_length}
use Rattle.degas_records.specs.Listing.{Found}
use Rattle.degas_records.specs.declared.ListedRecord.{ListedRecord}
use Rattle.degas_records.specs.declared.RecordCursor.{RecordCursor}
use Rattle.degas_records.specs.declared.Stepped.{Stepped}
use Rattle.degas_records.specs.Opening.{packed_opening}
use Rattle.degas_records.specs.Listing.{cursor_at, listed_as, moved_over, records_from, record_or}
use Rattle.degas_records.specs.Steps.{record_step, end_at, stepped, steps}
use Rattle.degas_records.proofs.Induction.{Stands, by-records}
use Rattle.degas_records.proofs.Steps.{moved-in-row, moved-full, record-whole, record-fault, in-range}
use Rattle.degas_records.proofs.Steps.{step-record, step_end, stepped-opened, steps-stay}

-- ---- where unpacking rows stops

-- after the rows the end of a file of so many bytes is judged; a fault is refused
abbrev stop_as : ℕ → ℕ → ℕ → ℕ → ℕ → Found
stop_as size number place plane_row good_bytes =
    cond (eqb number 0) (end_at size place) (Err (row_refusal number place plane_row good_bytes))

-- from an offset and a plane row on
abbrev pub stop_found : ℕ → ℕ → ℕ → RowsProgress → Found
stop_found size at row p = stop_as size p.fault (at + p.bytes) (row + length p.rows) (length p.begun)

-- ---- the steps

-- a plane row has a byte
pub row-some : (r : Resolution) → 0 < row_bytes_of r
row-some r = subst (λ (width : ℕ). 0 < width) (raster-row_bytes r) (raster-width r).0

module _ (file : List ℕ) (r : Resolution) (opened : packed_opening file ≡ Ok r) where
  abbrev rows : ℕ
  rows = plane_rows_of r

  abbrev width : ℕ
  width = row_bytes_of r

  -- from a cursor in range on the steps give these records, and then this
  abbrev Gives : ℕ → ℕ → ℕ → List ℕ → List ListedRecord → RowsProgress → Type 0
  Gives n row at begun es p =
      header_length ≤ at → at ≤ length file → (k : ℕ)
      → steps file (cursor_at at row (length begun)) k ≡ record_or (stop_found (length file) at row p) es k

  ends : (row at : ℕ) → row ≡ rows → Gives 0 row at [] [] no_rows
  ends row at last from to k =
      let c = cursor_at at row 0 in
      let o = in-range (length file) rows width c from to (omega arith) (row-some r) in
      steps-stay file c (end_at (length file) at)
      (stepped-opened file c r opened ∙ step_end file rows width c o (omega arith)) k
      ∙ ap (end_at (length file)) (sym (add-zero at))

  module _ (n row at : ℕ) (begun : List ℕ) (x : Record) (s : Stands file rows width n row at begun x)
      (from : header_length ≤ at) (to : at ≤ length file) where
    abbrev c : RecordCursor
    c = cursor_at at row (length begun)

    step-here : stepped file c ≡ record_step width c x
    step-here =
        let l = s.left in
        stepped-opened file c r opened
        ∙ step-record file rows width c (in-range (length file) rows width c from to (omega arith) s.room) (omega
        arith)
        ∙ ap (record_step width c) (sym s.is)

    stops : (fault x ≡ 0 → ⊥) → (k : ℕ)
        → steps file c k ≡ stop_found (length file) at row (stopped_in (begun ++ []) (stopped (fault x)))
    stops e k =
        steps-stay file c _ (step-here ∙ record-fault width c x e) k
        ∙ sym (simp (ne_eqb (fault x) 0 e, add-zero at, add-zero row, append-nil begun))

    module _ (e : fault x ≡ 0) (next : RecordCursor) (moved : moved_over width c x ≡ next) (es : List ListedRecord)
        (end : Found) (after : (k : ℕ) → steps file next k ≡ record_or end es k) where
      turn : (k : ℕ) → steps file c k ≡ record_or end (listed_as c x ∷ es) k
      unfolding steps
      turn zero = ap (λ (t : Stepped). t.found) (step-here ∙ record-whole width c x e)
      turn (suc k) =
          ap (λ (t : Stepped). steps file t.next k) (step-here ∙ record-whole width c x e)
          ∙ ap (λ (q : RecordCursor). steps file q k) moved
          ∙ after k

  goes_on : (n row at : ℕ) (begun : List ℕ) (x : Record) → Stands file rows width n row at begun x → fault x ≡ 0
      → length begun + row_len x < width → (es : List ListedRecord) (p : RowsProgress)
      → Gives (suc n) row (at + packed_len x) (begun ++ row_bytes x (drop at file)) es p
      → Gives (suc n) row at begun (listed_as (cursor_at at row (length begun)) x ∷ es) (record_before (packed_len x) p)
  goes_on n row at begun x s e h es p ih from to k =
      let w = whole-at file at (width - length begun) x s.is e in
      let more = begun ++ row_bytes x (drop at file) in
      let long : length more ≡ length begun + row_len x =
      omega (arith, length-append begun (row_bytes x (drop at file)), w.makes) in
      let place : at + packed_len x + p.bytes ≡ at + (packed_len x + p.bytes) = omega arith in
      turn n row at begun x s from to e (cursor_at (at + packed_len x) row (length more))
      (moved-in-row width (cursor_at at row (length begun)) x h ∙ ap (cursor_at (at + packed_len x) row) (sym long)) es
      (stop_found (length file) at row (record_before (packed_len x) p))
      (λ j. ih (omega arith) w.has j
      ∙ ap (λ (m : ℕ). record_or (stop_as (length file) p.fault m (row + length p.rows) (length p.begun)) es j)
      place) k

  filled : (n row at : ℕ) (begun : List ℕ) (x : Record) → Stands file rows width n row at begun x → fault x ≡ 0
      → length begun + row_len x ≡ width → (es : List ListedRecord) (p : RowsProgress)
      → Gives n (row + 1) (at + packed_len x) [] es p
      → Gives (suc n) row at begun (listed_as (cursor_at at row (length begun)) x ∷ es)
      (record_before (packed_len x) (row_before ((begun ++ row_bytes x (drop at file)) ++ []) (stopped 0) p))
  filled n row at begun x s e h es p ih from to k =
      let w = whole-at file at (width - length begun) x s.is e in
      let place : at + packed_len x + p.bytes ≡ at + (packed_len x + (0 + p.bytes)) = omega arith in
      let last : row + 1 + length p.rows ≡ row + suc (length p.rows) = omega arith in
      turn n row at begun x s from to e (cursor_at (at + packed_len x) (row + 1) 0)
      (moved-full width (cursor_at at row (length begun)) x (omega arith)) es
      (stop_found (length file) at row
      (record_before (packed_len x) (row_before ((begun ++ row_bytes x (drop at file)) ++ []) (stopped 0) p)))
      (λ j. ih (omega arith) w.has j
      ∙ ap₂ (λ (m l : ℕ). record_or (stop_as (length file) p.fault m l (length p.begun)) es j) place last) k

  pub rows-steps : header_length ≤ length file → (k : ℕ)
      → steps file (cursor_at header_length 0 0) k
      ≡ record_or (stop_found (length file) header_length 0 (rows_progress rows width (drop header_length file)))
      (records_from file rows width (cursor_at header_length 0 0)) k
  rows-steps h =
      by-records file rows width Gives ends
      (λ n row at begun x s e from to. stops n row at begun x s from to e) goes_on filled
      (row-some r) rows 0 header_length (omega arith) (omega arith) h
