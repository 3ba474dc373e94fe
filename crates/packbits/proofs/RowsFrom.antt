-- The equations of `rows_from`: a row whose rest is full, one whose rest stopped, and one record of a row.
use mathlib.Core.Path.{◌≡◌, sym, ap, ◌∙◌}
use Prim.Native.Nat.{ℕ, suc, ◌+◌, ◌-◌, ◌<◌}
use native.Mathlib.Nat.{add_assoc, suc-add}
use native.Mathlib.Omega.{arith}
use mathlib.Core.Bool.{Bool, true, false, cond}
use mathlib.Core.List.{List, [], ◌++◌, append_assoc}
use lib.ListN.{length, drop, length-append}
use lib.Seq.{drop-drop}
use lib.Dec.{eqb}
use borrow.Author.Tests.{eq-eqb, ne_eqb}
use Rattle.packbits.specs.declared.Record.{Record}
use Rattle.packbits.specs.Records.{packed_len, row_len, row_bytes, fault, record_at}
use Rattle.packbits.specs.Unpack.{Progress, after, progress}
use Rattle.packbits.specs.Rows.{RowsProgress, stopped_in, row_before, row_step, rows_from}
use Rattle.packbits.proofs.Records.{Whole, is_whole}
use Rattle.packbits.proofs.Unpack.{progress-whole}

-- a whole record of `bytes` packed bytes, before further progress
abbrev pub record_before : ℕ → RowsProgress → RowsProgress
record_before bytes q =
    record { rows = q.rows; begun = q.begun; bytes = bytes + q.bytes; records = suc q.records; fault = q.fault }

module _ (n width : ℕ) (begun input : List ℕ) where
  -- the rest of the first row
  abbrev pub rest : Progress
  rest = progress input (width - length begun)

  pub from-full : rest.fault ≡ 0
      → rows_from (suc n) width begun input
      ≡ row_before (begun ++ rest.made) rest (rows_from n width [] (drop rest.bytes input))
  unfolding rows_from row_step
  from-full e = simp (eq-eqb rest.fault 0 e)

  pub from-stopped : (rest.fault ≡ 0 → ⊥)
      → rows_from (suc n) width begun input ≡ stopped_in (begun ++ rest.made) rest
  unfolding rows_from row_step
  from-stopped e = simp (ne_eqb rest.fault 0 e)

  module _ (r : Record) (is : r ≡ record_at input (width - length begun)) (room : length begun < width)
      (ok : fault r ≡ 0) where
    abbrev more : List ℕ
    more = begun ++ row_bytes r input

    abbrev left : List ℕ
    left = drop (packed_len r) input

    -- what that record leaves of the row
    abbrev p : Progress
    p = progress left (width - length more)

    rest-is : rest ≡ after (packed_len r) (row_bytes r input) p
    rest-is =
        let w : Whole r input (width - length begun) = rw is (is_whole input (width - length begun) (rw is at ok)) in
        let less : width - length begun - row_len r ≡ width - length more =
        omega (arith, length-append begun (row_bytes r input), w.makes) in
        progress-whole input (width - length begun) r is (omega arith) ok
        ∙ ap (λ (k : ℕ). after (packed_len r) (row_bytes r input) (progress left k)) less

    step-record : (b : Bool)
        → cond b
        (row_before (begun ++ (row_bytes r input ++ p.made)) (after (packed_len r) (row_bytes r input) p)
        (rows_from n width [] (drop (packed_len r + p.bytes) input)))
        (stopped_in (begun ++ (row_bytes r input ++ p.made)) (after (packed_len r) (row_bytes r input) p))
        ≡ record_before (packed_len r)
        (cond b (row_before (more ++ p.made) p (rows_from n width [] (drop p.bytes left)))
        (stopped_in (more ++ p.made) p))
    step-record true =
        rw (
          sym (append_assoc begun (row_bytes r input) p.made),
          drop-drop p.bytes (packed_len r) input,
          add_assoc,
          suc-add,
        )
    step-record false = rw (sym (append_assoc begun (row_bytes r input) p.made))

    pub from-record : rows_from (suc n) width begun input
        ≡ record_before (packed_len r) (rows_from (suc n) width more left)
    unfolding rows_from row_step
    from-record =
        ap (λ (q : Progress). row_step begun q (λ used. rows_from n width [] (drop used input))) rest-is
        ∙ step-record (eqb p.fault 0)
