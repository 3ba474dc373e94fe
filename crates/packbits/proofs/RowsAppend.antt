-- Laws of `rows_progress` over an input in two parts: the bodies of whole rows, or whole records of a row under way, and
-- then progress over the rest from there.
use mathlib.Core.Path.{◌≡◌, refl, sym, ap, ◌∙◌}
use Prim.Native.Nat.{ℕ, suc, ◌+◌, ◌-◌, ◌<◌}
use native.Mathlib.Nat.{add_assoc, sub-zero}
use native.Mathlib.Omega.{arith}
use mathlib.Core.Bool.{Bool, true, false, cond}
use mathlib.Core.List.{List, [], ◌∷◌, ◌++◌, append_assoc, append-nil}
use lib.ListN.{length, drop, length-append}
use lib.Seq.{drop-append_seam, drop-append-add}
use lib.Dec.{eqb}
use Rattle.lists.specs.Wide.{Wide}
use Rattle.packbits.specs.Unpack.{Progress, progress}
use Rattle.packbits.specs.Rows.{RowsProgress, stopped_in, row_before, row_step, rows_from, rows_progress}
use Rattle.packbits.specs.UnpacksRows.{UnpacksRows, none, more}
use Rattle.packbits.specs.WholeRecords.{WholeRecords}
use Rattle.packbits.proofs.Exact.{filled, fills}
use Rattle.packbits.proofs.RowsSteps.{rows-full}
use Rattle.packbits.proofs.WholeRecords.{records_before, progress-append}

-- whole rows of `bytes` packed bytes, with these records, before further progress
abbrev pub rows_before : List (List ℕ) → ℕ → ℕ → RowsProgress → RowsProgress
rows_before rows bytes records q =
    record {
      rows = rows ++ q.rows;
      begun = q.begun;
      bytes = bytes + q.bytes;
      records = records + q.records;
      fault = q.fault;
    }

rows_before-twice : (rows list : List (List ℕ)) (a b m n : ℕ) (q : RowsProgress)
    → rows_before rows a m (rows_before list b n q) ≡ rows_before (rows ++ list) (a + b) (m + n) q
rows_before-twice rows list a b m n q =
    rw (append_assoc rows list q.rows, add_assoc a b q.bytes, add_assoc m n q.records)

-- the rows, and then progress over the rest
pub rows_append : {whole : List ℕ} {rows : List (List ℕ)} {n : ℕ} → UnpacksRows whole rows n → (width : ℕ)
    → Wide width rows → (m : ℕ) (rest : List ℕ)
    → rows_progress (length rows + m) width (whole ++ rest)
    ≡ rows_before rows (length whole) n (rows_progress m width rest)
rows_append none width w m rest =
    let same : 0 + m ≡ m = omega arith in
    let q : RowsProgress = rows_progress m width rest in
    let used : 0 + q.bytes ≡ q.bytes = omega arith in
    let count : 0 + q.records ≡ q.records = omega arith in
    rw (same, used, count)
rows_append (more {body} {bodies} {row} {rows} {n} {m = k} u us) width w m rest =
    let input : List ℕ = body ++ (bodies ++ rest) in
    let first : progress input width ≡ filled (length body) n row =
    ap (progress input) (sym w.0) ∙ fills u (bodies ++ rest) in
    let less : length (row ∷ rows) + m - 1 ≡ length rows + m = omega arith in
    ap (rows_progress (length (row ∷ rows) + m) width) (append_assoc body bodies rest)
    ∙ rows-full (length (row ∷ rows) + m) width input (omega arith) (ap (λ (p : Progress). p.fault) first)
    ∙ rw (
      first,
      less,
      drop-append_seam body (bodies ++ rest),
      rows_append us width w.1 m rest,
      length-append body bodies,
    )
    (rows_before-twice (row ∷ []) rows (length body) (length bodies) n k (rows_progress m width rest))

-- the row under way, and then progress over the rest of it and the rows after it
pub rows_under : {part begun : List ℕ} {n : ℕ} → WholeRecords part begun n → (width : ℕ) → length begun < width
    → (m : ℕ) (rest : List ℕ)
    → rows_progress (suc m) width (part ++ rest) ≡ rows_before [] (length part) n (rows_from (suc m) width begun rest)
unfolding rows_from row_step
rows_under {part} {begun} {n} rs width h m rest =
    rw (sub-zero width, progress-append rs rest width h) (go (eqb p.fault 0))
  where
    p : Progress
    p = progress rest (width - length begun)

    joined : Progress
    joined = records_before (length part) n begun p

    left : List ℕ → RowsProgress
    left input = rows_progress m width input

    go : (b : Bool)
        → cond b
        (row_before (begun ++ p.made) joined (left (drop joined.bytes (part ++ rest))))
        (stopped_in (begun ++ p.made) joined)
        ≡ rows_before [] (length part) n
        (cond b (row_before (begun ++ p.made) p (left (drop p.bytes rest))) (stopped_in (begun ++ p.made) p))
    go true =
        let q : RowsProgress = left (drop p.bytes rest) in
        rw (
          drop-append-add part rest p.bytes,
          add_assoc (length part) p.bytes q.bytes,
          add_assoc n p.records q.records,
        )
    go false = refl

-- both
pub rows_cut : {whole part begun : List ℕ} {rows : List (List ℕ)} {k n : ℕ} → UnpacksRows whole rows k
    → WholeRecords part begun n → (width : ℕ) → Wide width rows → length begun < width → (m : ℕ) (rest : List ℕ)
    → rows_progress (length rows + suc m) width (whole ++ (part ++ rest))
    ≡ rows_before rows (length whole + length part) (k + n) (rows_from (suc m) width begun rest)
rows_cut {whole} {part} {begun} {rows} {k} {n} us rs width w h m rest =
    rows_append us width w (suc m) (part ++ rest)
    ∙ ap (rows_before rows (length whole) k) (rows_under rs width h m rest)
    ∙ rows_before-twice rows [] (length whole) (length part) k n (rows_from (suc m) width begun rest)
    ∙ rw (append-nil rows)
