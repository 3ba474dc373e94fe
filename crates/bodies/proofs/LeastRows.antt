-- The least bodies of rows of one width, row by row: their length summed, and their bytes written. No raster stands
-- here.
use mathlib.Core.Path.{◌≡◌, ap, ◌∙◌, subst}
use mathlib.Core.List.{List, [], ◌++◌}
use Prim.Native.Nat.{ℕ, suc, ◌+◌, ◌-◌, ◌*◌, ◌≤◌, ◌<◌}
use native.Mathlib.Nat.{suc-mul, sub-zero}
use native.Mathlib.Omega.{arith}
use borrow.Rule.Slice.PartMut.{put_mid}
use lib.ListN.{length, get_or, take, drop, length-append, length-drop}
use Rattle.lists.specs.Over.{over}
use Rattle.lists.specs.Wide.{Wide}
use Rattle.lists.proofs.Pieces.{PartlyWritten, writing-end, piece-fits, writing_more}
use Rattle.lists.proofs.Wide.{wide_at, wide-drop}
use Rattle.pack.specs.Least.{least, least_records}
use Rattle.pack.specs.LeastRows.{least_rows, least_rows_records}
use Rattle.pack.proofs.Bounds.{least-bound}
use Rattle.pack.proofs.LeastRows.{least_rows-bound, least_records-bound, least_rows-next, least_rows_records-next}
use Rattle.pack.proofs.LeastRows.{least_rows-past, least_rows_records-past}

-- a list of `count` rows of one width, of which row n is `row n`
pub record RowsOf (list : List (List ℕ)) (count width : ℕ) (row : ℕ → List ℕ) : Type 0 where
  pub wide : Wide width list
  pub counted : length list ≡ count
  pub at : (n : ℕ) → n < count → get_or list n [] ≡ row n

-- the most that the body can have, where the rows before row n are measured: each row from n on counts as long as a
-- least body can be
pub record Most (list : List (List ℕ)) (width n most : ℕ) : Type 0 where
  pub sum : most + length (least_rows (drop n list)) ≡ length (least_rows list) + (length list - n) * (width + 1)
  pub enough : (length list - n) * (width + 1) ≤ most

-- n rows are written, by `records` records, up to the place `end` of out, which was out₀
pub record RowsWritten (list : List (List ℕ)) (out₀ out : List ℕ) (n end records : ℕ) : Type 0 where
  pub bound : end ≤ n * 129
  pub few : records ≤ end
  pub counted : records + least_rows_records (drop n list) ≡ least_rows_records list
  pub writing : PartlyWritten (least_rows list) (least_rows (drop n list)) out₀ out end

module _ {list : List (List ℕ)} {count width : ℕ} {row : ℕ → List ℕ} (o : RowsOf list count width row) where
  -- ---- row n is the next

  module _ {n : ℕ} (more : n < count) where
    within : n < length list
    within = omega (arith, o.counted)

    row-width : length (row n) ≡ width
    row-width = rw (o.at n more) at (wide_at width list o.wide n within)

    -- its least body has at most one byte more than the row
    pub row-longest : length (least (row n)) ≤ width + 1
    row-longest = omega (arith, least-bound (row n), row-width)

    rows_next : least_rows (drop n list) ≡ least (row n) ++ least_rows (drop (n + 1) list)
    rows_next =
        least_rows-next list n within ∙ ap (λ (l : List ℕ). least l ++ least_rows (drop (n + 1) list)) (o.at n more)

    length-next : length (least_rows (drop n list)) ≡ length (least (row n)) + length (least_rows (drop (n + 1) list))
    length-next = ap length rows_next ∙ length-append (least (row n)) (least_rows (drop (n + 1) list))

    records-next : least_rows_records (drop n list) ≡ least_records (row n) + least_rows_records (drop (n + 1) list)
    records-next = rw (o.at n more) at (least_rows_records-next list n within)

    -- one row less is left
    left-next : (length list - n) * (width + 1) ≡ (width + 1) + (length list - (n + 1)) * (width + 1)
    left-next =
        let k : ℕ = length list - (n + 1) in
        let e : length list - n ≡ suc k = omega (arith, within) in
        omega (arith, ap (λ (j : ℕ). j * (width + 1)) e, suc-mul k (width + 1))

  -- ---- the length summed

  pub most-start : Most list width 0 (count * (width + 1))
  most-start =
      let e : (length list - 0) * (width + 1) ≡ count * (width + 1) =
      ap (λ (j : ℕ). j * (width + 1)) (sub-zero (length list) ∙ o.counted) in
      record { sum = omega (arith, e); enough = omega (arith, e) }

  module _ {n most : ℕ} (m : Most list width n most) where
    -- the body has no more
    pub most-bound : length (least_rows list) ≤ most
    most-bound =
        let left : length (least_rows (drop n list)) ≤ (length list - n) * (width + 1) =
        rw (length-drop n list) at (least_rows-bound width (drop n list) (wide-drop width n list o.wide)) in
        omega (arith, m.sum, left)

    -- a row to come counts whole
    pub most-row : n < count → width + 1 ≤ most
    most-row more = omega (arith, m.enough, left-next more)

    -- row n measured
    pub most-turn : n < count → Most list width (n + 1) (most - (width + 1 - length (least (row n))))
    most-turn more =
        record {
          sum = omega (arith, m.sum, m.enough, left-next more, length-next more, row-longest more);
          enough = omega (arith, m.enough, left-next more, row-longest more);
        }

    -- all rows measured
    pub most-end : count ≤ n → most ≡ length (least_rows list)
    most-end h =
        let past : length list ≤ n = omega (arith, o.counted) in
        let e : (length list - n) * (width + 1) ≡ 0 * (width + 1) =
        ap (λ (j : ℕ). j * (width + 1)) (omega (arith, past)) in
        omega (arith, m.sum, ap length (least_rows-past list n past), e)

  -- ---- the body written, each row's to the part of the output from its present end on

  module _ {out₀ out : List ℕ} {n end records : ℕ} (narrow : width ≤ 128)
      (fits : length (least_rows list) ≤ length out₀) (w : RowsWritten list out₀ out n end records)
      (more : n < count) where
    row-writing : PartlyWritten (least_rows list) (least (row n) ++ least_rows (drop (n + 1) list)) out₀ out end
    row-writing =
        subst (λ (rest : List ℕ). PartlyWritten (least_rows list) rest out₀ out end) (rows_next more) w.writing

    -- the part from `end` on has room for the next row's body
    pub row_room : length (least (row n)) ≤ length (take (length out - end) (drop end out))
    row_room = piece-fits (least (row n)) (least_rows (drop (n + 1) list)) fits row-writing

    -- which has no more records than bytes, and these are at most 129
    pub row-bounds : (least_records (row n) ≤ length (least (row n))) × (length (least (row n)) ≤ 129)
    row-bounds = (least_records-bound (row n) (omega (arith, row-width more)), omega (arith, row-longest more))

    -- the part is given back with that body over its front
    pub row_written : (last : List ℕ) → last ≡ over (least (row n)) (take (length out - end) (drop end out))
        → RowsWritten list out₀ (put_mid end (length out - end) out last) (n + 1)
        (end + length (least (row n)))
        (records + least_records (row n))
    row_written last e =
        record {
          bound = omega (arith, w.bound, row-bounds);
          few = omega (arith, w.few, row-bounds);
          counted = omega (arith, w.counted, records-next more);
          writing = writing_more (least (row n)) (least_rows (drop (n + 1) list)) fits row-writing last e;
        }

  pub rows_end : {out₀ out : List ℕ} {n end records : ℕ} → RowsWritten list out₀ out n end records → count ≤ n
      → ((end ≡ length (least_rows list)) × (records ≡ least_rows_records list)) × (out ≡ over (least_rows list) out₀)
  rows_end {out₀} {out} {n} {end} {records} w h =
      let past : length list ≤ n = omega (arith, o.counted) in
      let none = least_rows-past list n past in
      let all =
      writing-end (subst (λ (rest : List ℕ). PartlyWritten (least_rows list) rest out₀ out end) none w.writing) in
      ((all.bytes, omega (arith, w.counted, least_rows_records-past list n past)), all.all)
