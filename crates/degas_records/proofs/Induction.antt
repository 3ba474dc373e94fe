-- Induction record by record over the rows of a body: what the list has and how far unpacking comes, together.
use mathlib.Core.Path.{◌≡◌, refl, sym, ap, ◌∙◌, subst}
use Prim.Native.Nat.{ℕ, zero, suc, ◌+◌, ◌-◌, ◌≤◌, ◌<◌}
use native.Mathlib.Nat.{sub_self}
use native.Mathlib.Omega.{arith}
use mathlib.Core.Bool.{Bool, true, false, cond}
use mathlib.Core.List.{List, [], ◌∷◌, ◌++◌}
use lib.ListN.{length, drop, length-append, length-drop}
use lib.Seq.{drop-drop}
use lib.Dec.{ltb, eqb}
use borrow.Author.Tests.{lt-ltb, le-ltb, ltb-true, ltb-false, eqb-true, eqb-false}
use Rattle.packbits.specs.declared.Record.{Record}
use Rattle.packbits.specs.Records.{packed_len, row_len, row_bytes, fault, record_at}
use Rattle.packbits.specs.Unpack.{Progress, stopped, progress}
use Rattle.packbits.specs.Rows.{RowsProgress, no_rows, stopped_in, row_before, rows_from}
use Rattle.packbits.proofs.Records.{WholeAt, whole-at}
use Rattle.packbits.proofs.Unpack.{progress-full, progress-fault}
use Rattle.packbits.proofs.RowsFrom.{record_before, from-full, from-stopped, from-record}
use Rattle.degas_records.specs.declared.ListedRecord.{ListedRecord}
use Rattle.degas_records.specs.declared.RecordCursor.{RecordCursor}
use Rattle.degas_records.specs.Listing.{cursor_at, listed_as, moved_over, records_within, records_from}
use Rattle.degas_records.proofs.Steps.{moved-in-row, moved-full}

-- ---- how far unpacking comes from a row that has these bytes

module _ (n width : ℕ) (begun input : List ℕ) where
  -- a record at fault
  rows-fault : length begun < width → (fault (record_at input (width - length begun)) ≡ 0 → ⊥)
      → rows_from (suc n) width begun input
      ≡ stopped_in (begun ++ []) (stopped (fault (record_at input (width - length begun))))
  rows-fault room e =
      let p = progress-fault input (width - length begun) _ refl (omega arith) e in
      from-stopped n width begun input (λ z. e (sym (ap (λ (q : Progress). q.fault) p) ∙ z))
      ∙ ap (λ (q : Progress). stopped_in (begun ++ q.made) q) p

  -- a row that is full
  rows-full : length begun ≡ width
      → rows_from (suc n) width begun input ≡ row_before (begun ++ []) (stopped 0) (rows_from n width [] (drop 0 input))
  rows-full full =
      let p : progress input (width - length begun) ≡ stopped 0 =
      ap (λ (k : ℕ). progress input (width - k)) full ∙ ap (progress input) (sub_self width) ∙ progress-full input in
      from-full n width begun input (ap (λ (q : Progress). q.fault) p)
      ∙ ap (λ (q : Progress). row_before (begun ++ q.made) q (rows_from n width [] (drop q.bytes input))) p

  -- no row at all
  rows_none : rows_from 0 width begun input ≡ no_rows
  unfolding rows_from
  rows_none = refl

-- ---- the induction

-- a record, whole or at fault, in a plane row that has these bytes and is not the last but n
pub record Stands (file : List ℕ) (rows width n row at : ℕ) (begun : List ℕ) (r : Record) : Type 0 where
  pub is : r ≡ record_at (drop at file) (width - length begun)
  pub room : length begun < width
  pub left : row + suc n ≡ rows

module _ (file : List ℕ) (rows width : ℕ)
    -- P n row at begun records p: of n rows from an offset on, the first of which is a plane row that has these bytes
    (P : (n row at : ℕ) (begun : List ℕ) → List ListedRecord → RowsProgress → Type 0)
    (at-end : (row at : ℕ) → row ≡ rows → P 0 row at [] [] no_rows)
    (at-fault : (n row at : ℕ) (begun : List ℕ) (r : Record) → Stands file rows width n row at begun r
    → (fault r ≡ 0 → ⊥) → P (suc n) row at begun [] (stopped_in (begun ++ []) (stopped (fault r))))
    (in_row : (n row at : ℕ) (begun : List ℕ) (r : Record) → Stands file rows width n row at begun r → fault r ≡ 0
    → length begun + row_len r < width → (es : List ListedRecord) (p : RowsProgress)
    → P (suc n) row (at + packed_len r) (begun ++ row_bytes r (drop at file)) es p
    → P (suc n) row at begun (listed_as (cursor_at at row (length begun)) r ∷ es) (record_before (packed_len r) p))
    (row-full : (n row at : ℕ) (begun : List ℕ) (r : Record) → Stands file rows width n row at begun r → fault r ≡ 0
    → length begun + row_len r ≡ width → (es : List ListedRecord) (p : RowsProgress)
    → P n (row + 1) (at + packed_len r) [] es p
    → P (suc n) row at begun (listed_as (cursor_at at row (length begun)) r ∷ es)
    (record_before (packed_len r) (row_before ((begun ++ row_bytes r (drop at file)) ++ []) (stopped 0) p)))
    (wide : 0 < width) where
  -- what is to be shown of n rows, with a bound on the recursion of the list
  abbrev Shown : (bound n row at : ℕ) → List ℕ → Type 0
  Shown bound n row at begun =
      P n row at begun (records_within bound file rows width (cursor_at at row (length begun)))
      (rows_from n width begun (drop at file))

  module _ (bound n row at : ℕ) (begun : List ℕ) (room : length begun < width) (left : row + suc n ≡ rows) where
    abbrev input : List ℕ
    input = drop at file

    abbrev r : Record
    r = record_at input (width - length begun)

    abbrev c : RecordCursor
    c = cursor_at at row (length begun)

    here : Stands file rows width n row at begun r
    here = record { is = refl; room = room; left = left }

    fault-here : (fault r ≡ 0 → ⊥) → P (suc n) row at begun [] (rows_from (suc n) width begun input)
    fault-here e =
        subst (P (suc n) row at begun []) (sym (rows-fault n width begun input room e))
        (at-fault n row at begun r here e)

    -- the record before what the list and the rows have after it
    abbrev Turned : RecordCursor → Type 0
    Turned next =
        P (suc n) row at begun (listed_as c r ∷ records_within bound file rows width next)
        (rows_from (suc n) width begun input)

    module _ (e : fault r ≡ 0) where
      whole : WholeAt r file at (width - length begun)
      whole = whole-at file at (width - length begun) r refl e

      -- the row with the bytes that the record makes
      abbrev more : List ℕ
      more = begun ++ row_bytes r input

      long : length more ≡ length begun + row_len r
      long = omega (arith, length-append begun (row_bytes r input), whole.makes)

      rows_are : rows_from (suc n) width begun input
          ≡ record_before (packed_len r) (rows_from (suc n) width more (drop (at + packed_len r) file))
      rows_are =
          from-record n width begun input r refl room e
          ∙ ap (λ (l : List ℕ). record_before (packed_len r) (rows_from (suc n) width more l))
          (drop-drop (packed_len r) at file)

      stays-in-row : length begun + row_len r < width → Shown bound (suc n) row (at + packed_len r) more
          → Turned (moved_over width c r)
      stays-in-row h ih =
          let next : moved_over width c r ≡ cursor_at (at + packed_len r) row (length more) =
          moved-in-row width c r h ∙ ap (cursor_at (at + packed_len r) row) (sym long) in
          subst Turned (sym next)
          (subst (P (suc n) row at begun _) (sym rows_are) (in_row n row at begun r here e h _ _ ih))

      fills-row : length begun + row_len r ≡ width → Shown bound n (row + 1) (at + packed_len r) []
          → Turned (moved_over width c r)
      fills-row h ih =
          let full = rows-full n width more (drop (at + packed_len r) file) (long ∙ h) in
          subst Turned (sym (moved-full width c r (omega arith)))
          (subst (P (suc n) row at begun _) (sym (rows_are ∙ ap (record_before (packed_len r)) full))
          (row-full n row at begun r here e h _ _ ih))

      -- the row has room left, or is full
      turn : (length begun + row_len r < width → Shown bound (suc n) row (at + packed_len r) more)
          → (length begun + row_len r ≡ width → Shown bound n (row + 1) (at + packed_len r) [])
          → Turned (moved_over width c r)
      turn some none = go (ltb (length begun + row_len r) width) refl
        where
          go : (b : Bool) → ltb (length begun + row_len r) width ≡ b → Turned (moved_over width c r)
          go true q = let h = ltb-true (length begun + row_len r) width q in stays-in-row h (some h)
          go false q =
              let filled : width ≤ length begun + row_len r = ltb-false _ _ q in
              let h : length begun + row_len r ≡ width = omega (arith, whole.fits) in
              fills-row h (none h)

    shown-record : (fault r ≡ 0 → Turned (moved_over width c r))
        → Shown (suc bound) (suc n) row at begun
    unfolding records_within
    shown-record turned = rw (lt-ltb row rows (omega arith)) (go (eqb (fault r) 0) refl)
      where
        go : (b : Bool) → eqb (fault r) 0 ≡ b
            → P (suc n) row at begun
            (cond b (listed_as c r ∷ records_within bound file rows width (moved_over width c r)) [])
            (rows_from (suc n) width begun input)
        go true q = turned (eqb-true _ _ q)
        go false q = fault-here (eqb-false _ _ q)

  shown-end : (bound row at : ℕ) → row ≡ rows → Shown (suc bound) 0 row at []
  unfolding records_within
  shown-end bound row at last =
      rw (le-ltb row rows (omega arith)) (subst (P 0 row at [] []) (sym (rows_none 0 width [] (drop at file))) (at-end
      row at last))

  within : (bound n row at : ℕ) (begun : List ℕ) → length (drop at file) < bound → length begun < width
      → row + n ≡ rows → (n ≡ 0 → begun ≡ []) → Shown bound n row at begun
  within zero n row at begun h room left none = absurd (omega arith)
  within (suc bound) zero row at begun h room left none =
      subst (Shown (suc bound) 0 row at) (sym (none refl)) (shown-end bound row at (omega arith))
  within (suc bound) (suc n) row at begun h room left none =
      shown-record bound n row at begun room left (λ e.
      let w = whole bound n row at begun room left e in
      let r = record_at (drop at file) (width - length begun) in
      let less : length (drop (at + packed_len r) file) < bound =
      omega (arith, length-drop (at + packed_len r) file, length-drop at file, w.takes, w.has) in
      turn bound n row at begun room left e
      (λ k. within bound (suc n) row (at + packed_len r) (begun ++ row_bytes r (drop at file)) less
      (omega (arith, long bound n row at begun room left e)) left (λ z. absurd (omega arith)))
      (λ k. within bound n (row + 1) (at + packed_len r) [] less wide (omega arith) (λ _. refl)))

  -- of n rows from an offset on, the first a plane row of which nothing is made yet
  pub by-records : (n row at : ℕ) → row + n ≡ rows
      → P n row at [] (records_from file rows width (cursor_at at row 0)) (rows_from n width [] (drop at file))
  unfolding records_from
  by-records n row at left = within (suc (length (drop at file))) n row at [] (omega arith) wide left (λ _. refl)
