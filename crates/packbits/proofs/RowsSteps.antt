-- The equations of `rows_progress` where the first row is full, and of what unpacking rows comes to.
use Rattle.std.specs.Prelude.{Ok, Err}
use mathlib.Core.Path.{◌≡◌, refl, ◌∙◌}
use Prim.Native.Nat.{ℕ, zero, suc, ◌+◌, ◌-◌, ◌<◌}
use native.Mathlib.Nat.{sub-zero}
use native.Mathlib.Numerals.{sub-one}
use native.Mathlib.Omega.{arith}
use mathlib.Core.Bool.{Bool, true, false, cond}
use mathlib.Core.List.{List, [], ◌∷◌}
use lib.ListN.{drop}
use lib.Dec.{eqb}
use borrow.Author.Tests.{eq-eqb}
use Rattle.outcome.specs.Outcome.{Outcome, row_refusal, map, bind, placed}
use Rattle.packbits.specs.Row.{Row, done}
use Rattle.packbits.specs.Unpack.{Progress, progress, row_fault, outcome_of, unpack}
use Rattle.packbits.specs.Rows.{RowsProgress, stopped_in, row_before, row_step, rows_from, rows_progress}
use Rattle.packbits.specs.Rows.{Rows, done_rows, rows_fault, rows_outcome, unpack_rows}

-- ---- progress

rows_step : (n width : ℕ) (input : List ℕ) → 0 < n
    → rows_progress n width input
    ≡ row_step [] (progress input width) (λ used. rows_progress (n - 1) width (drop used input))
unfolding rows_from
rows_step zero width input h = absurd (omega arith)
rows_step (suc n) width input h = rw (sub-one (suc n), sub-zero width)

module _ (n width : ℕ) (input : List ℕ) (some : 0 < n) where
  abbrev next : ℕ → RowsProgress
  next used = rows_progress (n - 1) width (drop used input)

  pub rows-full : (progress input width).fault ≡ 0
      → rows_progress n width input
      ≡ row_before (progress input width).made (progress input width) (next (progress input width).bytes)
  unfolding row_step
  rows-full e = rows_step n width input some ∙ simp (eq-eqb (progress input width).fault 0 e)

-- ---- what unpacking rows comes to

-- a row, before further rows
abbrev pub with_row : Row → Rows → Rows
with_row r q = record { bytes = r.bytes + q.bytes; records = r.records + q.records; rows = r.made ∷ q.rows }

-- an outcome of rows that come after a row, with its plane row counted from that one
abbrev pub after_row : Outcome Rows → Outcome Rows
after_row (Ok q) = Ok q
after_row (Err why) = Err (row_refusal why.number why.place (suc why.plane_row) why.good_bytes)

-- the row that a full progress makes
abbrev row_of : Progress → Row
row_of p = record { bytes = p.bytes; records = p.records; made = p.made }

outcome-before : (p : Progress) (q : RowsProgress)
    → rows_outcome (row_before p.made p q) ≡ map (with_row (row_of p)) (after_row (placed p.bytes (rows_outcome q)))
unfolding rows_outcome
outcome-before p q = go (eqb q.fault 0)
  where
    go : (b : Bool)
        → cond b (done_rows (p.bytes + q.bytes) (p.records + q.records) (p.made ∷ q.rows))
        (Err (rows_fault (row_before p.made p q)))
        ≡ map (with_row (row_of p))
        (after_row (placed p.bytes (cond b (done_rows q.bytes q.records q.rows) (Err (rows_fault q)))))
    go true = refl
    go false = refl

-- the first row, and then the rows after it, whose places and plane rows count from where it ended
pub unpack_rows-suc : (n width : ℕ) (input : List ℕ)
    → unpack_rows (suc n) width input
    ≡ bind (unpack input width)
    (λ r. map (with_row r) (after_row (placed r.bytes (unpack_rows n width (drop r.bytes input)))))
unfolding rows_from row_step outcome_of rows_outcome
unpack_rows-suc n width input = rw (sub-zero width) (go (eqb p.fault 0) refl)
  where
    p : Progress
    p = progress input width

    left : ℕ → RowsProgress
    left used = rows_progress n width (drop used input)

    go : (b : Bool) → eqb p.fault 0 ≡ b
        → rows_outcome (cond b (row_before p.made p (left p.bytes)) (stopped_in p.made p))
        ≡ bind (cond b (done p.bytes p.records p.made) (Err (row_fault p)))
        (λ r. map (with_row r) (after_row (placed r.bytes (rows_outcome (left r.bytes)))))
    go true e = outcome-before p (left p.bytes)
    go false e = rw e
