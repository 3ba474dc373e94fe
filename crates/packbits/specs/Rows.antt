-- Rows of one width, each unpacked from where the one before it ended (document 01, "Packed rows"): how far that comes,
-- and what it comes to.
use Rattle.std.specs.Prelude.{ℕ, zero, suc, ◌+◌, ◌-◌, cond, List, [], ◌∷◌, ◌++◌, length, drop, eqb, Ok, Err}
use Rattle.outcome.specs.declared.Refusal.{Refusal}
use Rattle.outcome.specs.Outcome.{Outcome, row_refusal, placed}
use Rattle.packbits.specs.declared.Packed.{Packed}
use Rattle.packbits.specs.Unpack.{Progress, progress}

-- How far unpacking rows came.
pub record RowsProgress : Type 0 where
  -- whole rows
  pub rows : List (List ℕ)
  -- the bytes that whole records make of the row under way; none where every row is full
  pub begun : List ℕ
  -- packed bytes used, which is the place of the record at fault
  pub bytes : ℕ
  -- whole records, those that do nothing included
  pub records : ℕ
  -- the fault of the record at which it stopped; 0: every row is full
  pub fault : ℕ

-- no row is asked for
abbrev pub no_rows : RowsProgress
no_rows = record { rows = []; begun = []; bytes = 0; records = 0; fault = 0 }

-- stopped in a row that has these bytes
abbrev pub stopped_in : List ℕ → Progress → RowsProgress
stopped_in begun p = record { rows = []; begun = begun; bytes = p.bytes; records = p.records; fault = p.fault }

-- a whole row, before further progress
abbrev pub row_before : List ℕ → Progress → RowsProgress → RowsProgress
row_before row p q =
    record {
      rows = row ∷ q.rows;
      begun = q.begun;
      bytes = p.bytes + q.bytes;
      records =
          p.records + q.records;
      fault = q.fault;
    }

-- a row that has these bytes and whose rest came to p: a full one goes on with `next`, at the packed bytes used;
-- another stops
unfoldable pub row_step : List ℕ → Progress → (ℕ → RowsProgress) → RowsProgress
row_step begun p next =
    cond (eqb p.fault 0) (row_before (begun ++ p.made) p (next p.bytes)) (stopped_in (begun ++ p.made) p)

-- n rows of a width, the first of which has these bytes already
unfoldable pub rows_from : ℕ → ℕ → List ℕ → List ℕ → RowsProgress
rows_from zero width begun input = no_rows
rows_from (suc n) width begun input =
    row_step begun (progress input (width - length begun)) (λ used. rows_from n width [] (drop used input))

-- n rows of a width, from the front of the input
abbrev pub rows_progress : ℕ → ℕ → List ℕ → RowsProgress
rows_progress n width input = rows_from n width [] input

-- rows that were unpacked: the packed bytes used, the records, those that do nothing included, and the rows
pub record Rows : Type 0 where
  pub bytes : ℕ
  pub records : ℕ
  pub rows : List (List ℕ)

-- what is given of them besides the rows
abbrev pub rows_packed : Rows → Packed
rows_packed q = record { bytes = q.bytes; records = q.records }

-- accepted with these counts of packed bytes and records, and these rows
abbrev pub done_rows : ℕ → ℕ → List (List ℕ) → Outcome Rows
done_rows bytes records rows = Ok (record { bytes = bytes; records = records; rows = rows })

-- why rows are refused at a fault: the place is the number of packed bytes before it, the plane row, from 0, that of
-- the whole rows before it, and the good bytes are those that the row under way has
abbrev pub rows_fault : RowsProgress → Refusal
rows_fault p = row_refusal p.fault p.bytes (length p.rows) (length p.begun)

-- full rows are accepted; a fault is refused
unfoldable pub rows_outcome : RowsProgress → Outcome Rows
rows_outcome p = cond (eqb p.fault 0) (done_rows p.bytes p.records p.rows) (Err (rows_fault p))

-- n rows of a width, unpacked from the front of the input; places count from the input's start
abbrev pub unpack_rows : ℕ → ℕ → List ℕ → Outcome Rows
unpack_rows n width input = rows_outcome (rows_progress n width input)

-- the same from an offset of a file; places count from the file's start
abbrev pub unpack_rows_at : List ℕ → ℕ → ℕ → ℕ → Outcome Rows
unpack_rows_at file at width n = placed at (unpack_rows n width (drop at file))
