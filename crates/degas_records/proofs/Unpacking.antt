-- Unpacking follows from the list of records: the packed bytes, the number of records, and every byte of every row.
use mathlib.Core.Path.{◌≡◌, refl, sym, ap, ap₂, ◌∙◌}
use Prim.Native.Nat.{ℕ, zero, suc, ◌+◌, ◌-◌, ◌*◌, ◌<◌}
use native.Mathlib.Nat.{add-zero, zero-add, add-mul, one-mul, zero-mul}
use native.Mathlib.Omega.{arith}
use mathlib.Core.Bool.{Bool, true, false, cond}
use mathlib.Core.List.{List, [], ◌∷◌, ◌++◌, append_assoc}
use lib.Arith.{digits_div}
use lib.ListN.{length, get_or, drop, length-append}
use lib.Seq.{drop-cons}
use lib.Dec.{ltb, eqb}
use borrow.Author.Tests.{eq-eqb, ne_eqb}
use Rattle.lists.specs.Tabulate.{tabulate}
use Rattle.lists.proofs.Tabulate.{tabulate-ext}
use Rattle.packbits.specs.declared.Record.{Record}
use Rattle.packbits.specs.declared.Record.TheVariants as R
use Rattle.packbits.specs.Records.{control, packed_len, row_len, row_bytes, fault, record_at}
use Rattle.packbits.specs.Unpack.{stopped}
use Rattle.packbits.specs.Rows.{RowsProgress, no_rows, stopped_in, row_before, rows_progress}
use Rattle.packbits.proofs.Records.{whole-at, whole-control}
use Rattle.packbits.proofs.RowsFrom.{record_before}
use Rattle.degas_records.specs.declared.ListedRecord.{ListedRecord}
use Rattle.degas_records.specs.declared.RecordKind.TheVariants.{Literal, Repeat, Nothing}
use Rattle.degas_records.specs.Listing.{cursor_at, listed_kind, listed_as, records_from}
use Rattle.degas_records.specs.BodyRecords.{control_at, kind_at, listed_at, BodyRecords, record_of, row_made}
use Rattle.degas_records.specs.BodyRecords.{Unpacking}
use Rattle.degas_records.proofs.Induction.{Stands, by-records}

-- ---- one record

-- a whole record is what its control byte says
control-here : (file : List ℕ) (at room : ℕ) (r : Record) → r ≡ record_at (drop at file) room → fault r ≡ 0
    → r ≡ control_at file at
control-here file at room r is e =
    let w = whole-at file at room r is e in
    let front = drop-cons file at 0 (omega (arith, w.takes, w.has)) in
    let same = is ∙ ap (λ (l : List ℕ). record_at l room) front in
    same ∙ whole-control (get_or file at 0) (drop (suc at) file) room (rw (← same) e)

-- its kind is the control byte's
control-kind : (file : List ℕ) (at : ℕ) → listed_kind (control_at file at) ≡ kind_at file at
unfolding control
control-kind file at = go (ltb (get_or file at 0) 128) (eqb (get_or file at 0) 128)
  where
    go : (s t : Bool)
        → listed_kind
        (cond s (R.Literal (get_or file at 0 + 1)) (cond t R.Nothing (R.Repeat (257 - get_or file at 0))))
        ≡ cond s Literal (cond t Nothing Repeat)
    go true t = refl
    go false true = refl
    go false false = refl

-- its kind and its length are the record again
kind-record : (r : Record) → fault r ≡ 0 → record_of (listed_kind r) (row_len r) ≡ r
kind-record (R.Literal n) e = refl
kind-record (R.Repeat n) e = refl
kind-record R.Nothing e = refl
kind-record R.Truncated e = absurd (omega arith)
kind-record R.Crossing e = absurd (omega arith)

module _ (file : List ℕ) (at row good : ℕ) (r : Record) (e : fault r ≡ 0) (es : List ListedRecord) where
  -- the list with it at its head
  abbrev list : List ListedRecord
  list = listed_as (cursor_at at row good) r ∷ es

  made-here : (k : ℕ) → row ≡ k → row_made file list k ≡ row_bytes r (drop at file) ++ row_made file es k
  unfolding row_made
  made-here k h = rw (eq-eqb row k h, kind-record r e)

  made-elsewhere : (k : ℕ) → (row ≡ k → ⊥) → row_made file list k ≡ row_made file es k
  unfolding row_made
  made-elsewhere k h = rw (ne_eqb row k h)

-- ---- the records from a plane row on that has some bytes already

-- the bytes that the first row has before the records
abbrev front : List ℕ → ℕ → List ℕ
front begun zero = begun
front begun (suc k) = []

front-none : (k : ℕ) → front [] k ≡ []
front-none zero = refl
front-none (suc k) = refl

-- row k from the plane row on: what it has before the records, and what they make
abbrev row_from : List ℕ → List ℕ → List ListedRecord → ℕ → ℕ → List ℕ
row_from file begun es row k = front begun k ++ row_made file es (row + k)

record Follows (file : List ℕ) (width row at : ℕ) (begun : List ℕ) (es : List ListedRecord) (p : RowsProgress)
    : Type 0 where
  pub up_to : BodyRecords file width at (row * width + length begun) es (at + p.bytes)
  pub counted : length es ≡ p.records
  pub rows : p.rows ≡ tabulate (length p.rows) (row_from file begun es row)
  pub under : p.begun ≡ row_from file begun es row (length p.rows)
  -- none belongs to a row before
  pub none_before : (k : ℕ) → k < row → row_made file es k ≡ []

module _ (file : List ℕ) (rows width : ℕ) where
  ends : (row at : ℕ) → row ≡ rows → Follows file width row at [] [] no_rows
  unfolding tabulate row_made
  ends row at last =
      record { up_to = sym (add-zero at); counted = refl; rows = refl; under = refl; none_before = λ k h. refl }

  stops : (n row at : ℕ) (begun : List ℕ) (r : Record) → Stands file rows width n row at begun r → (fault r ≡ 0 → ⊥)
      → Follows file width row at begun [] (stopped_in (begun ++ []) (stopped (fault r)))
  unfolding tabulate row_made
  stops n row at begun r s e =
      record { up_to = sym (add-zero at); counted = refl; rows = refl; under = refl; none_before = λ k h. refl }

  module _ (n row at : ℕ) (begun : List ℕ) (r : Record) (s : Stands file rows width n row at begun r) (e : fault r ≡ 0)
      (es : List ListedRecord) where
    abbrev bytes : List ℕ
    bytes = row_bytes r (drop at file)

    abbrev more : List ℕ
    more = begun ++ bytes

    abbrev entry : ListedRecord
    entry = listed_as (cursor_at at row (length begun)) r

    long : length more ≡ length begun + row_len r
    long =
        let w = whole-at file at (width - length begun) r s.is e in
        omega (arith, length-append begun bytes, w.makes)

    is_control : r ≡ control_at file at
    is_control = control-here file at (width - length begun) r s.is e

    entry-is : entry ≡ listed_at file width at (row * width + length begun)
    entry-is = rw (digits_div row s.room, ← control-kind file at, ← is_control)

    -- it stands before the records that come after it
    listed-before : {made stop end : ℕ} → BodyRecords file width (at + packed_len r) made es stop
        → made ≡ row * width + length begun + row_len r → stop ≡ end
        → BodyRecords file width at (row * width + length begun) (entry ∷ es) end
    listed-before after same last = (entry-is, rw (← is_control, ← same, ← last) after)

    row_here : row_from file begun (entry ∷ es) row 0 ≡ more ++ row_made file es row
    row_here =
        ap (λ (l : List ℕ). begun ++ l) (made-here file at row (length begun) r e es (row + 0) (omega arith))
        ∙ sym (append_assoc begun bytes (row_made file es (row + 0)))
        ∙ ap (λ (k : ℕ). more ++ row_made file es k) (add-zero row)

    row-after : (k : ℕ) → row_made file (entry ∷ es) (row + suc k) ≡ row_made file es (row + suc k)
    row-after k = made-elsewhere file at row (length begun) r e es (row + suc k) (λ z. omega arith)

    none_before : ((k : ℕ) → k < row → row_made file es k ≡ []) → (k : ℕ) → k < row → row_made file (entry ∷ es) k ≡ []
    none_before none k h =
        made-elsewhere file at row (length begun) r e es k (λ z. omega arith) ∙ none k h

    -- the row has room left
    module _ (p : RowsProgress) (f : Follows file width row (at + packed_len r) more es p) where
      row_same : (k : ℕ) → row_from file more es row k ≡ row_from file begun (entry ∷ es) row k
      row_same zero = ap (λ (k : ℕ). more ++ row_made file es k) (add-zero row) ∙ sym row_here
      row_same (suc k) = sym (row-after k)

      goes_on : Follows file width row at begun (entry ∷ es) (record_before (packed_len r) p)
      goes_on = record {
        up_to = listed-before f.up_to (omega (arith, long)) (omega arith);
        counted = ap suc f.counted;
        rows = f.rows ∙ tabulate-ext (length p.rows) _ _ (λ k h. row_same k);
        under = f.under ∙ row_same (length p.rows);
        none_before = none_before f.none_before;
      }

    -- the row is full
    module _ (full : length begun + row_len r ≡ width) (p : RowsProgress)
        (f : Follows file width (row + 1) (at + packed_len r) [] es p) where
      row_first : more ++ [] ≡ row_from file begun (entry ∷ es) row 0
      row_first = ap (λ (l : List ℕ). more ++ l) (sym (f.none_before row (omega arith))) ∙ sym row_here

      row_next : (k : ℕ) → row_from file [] es (row + 1) k ≡ row_from file begun (entry ∷ es) row (suc k)
      row_next k =
          let one : row + 1 + k ≡ row + suc k = omega arith in
          ap (λ (l : List ℕ). l ++ row_made file es (row + 1 + k)) (front-none k)
          ∙ ap (row_made file es) one
          ∙ sym (row-after k)

      filled : Follows file width row at begun (entry ∷ es)
          (record_before (packed_len r) (row_before (more ++ []) (stopped 0) p))
      unfolding tabulate
      filled = record {
        up_to = listed-before f.up_to (omega (arith, add-mul row 1 width, one-mul width)) (omega arith);
        counted = omega (arith, f.counted);
        rows =
            ap₂ (λ (x : List ℕ) (l : List (List ℕ)). x ∷ l) row_first
            (f.rows ∙ tabulate-ext (length p.rows) _ _ (λ k h. row_next k));
        under = f.under ∙ row_next (length p.rows);
        none_before = none_before (λ k h. f.none_before k (omega arith));
      }

-- ---- the records of rows, from the first on

pub unpacking : (file : List ℕ) (n width at : ℕ) → 0 < width
    → Unpacking file width at (records_from file n width (cursor_at at 0 0)) (rows_progress n width (drop at file))
unpacking file n width at wide =
    let es = records_from file n width (cursor_at at 0 0) in
    let p = rows_progress n width (drop at file) in
    let f : Follows file width 0 at [] es p =
    by-records file n width (λ m row from begun. Follows file width row from begun) (ends file n width) (stops file n
    width)
    (λ m row from begun r s e h list q. goes_on file n width m row from begun r s e list q)
    (λ m row from begun r s e h list q. filled file n width m row from begun r s e list h q)
    wide n 0 at (omega arith) in
    let plain : (k : ℕ) → row_from file [] es 0 k ≡ row_made file es k =
    λ k. ap (λ (l : List ℕ). l ++ row_made file es (0 + k)) (front-none k) ∙ ap (row_made file es) (zero-add k) in
    record {
      up_to = rw (zero-mul width) at f.up_to;
      counted = f.counted;
      rows = f.rows ∙ tabulate-ext (length p.rows) _ _ (λ k h. plain k);
      begun = f.under ∙ plain (length p.rows);
    }
