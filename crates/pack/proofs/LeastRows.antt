-- Laws of the least bodies of rows, end to end: they unpack to the rows, no byte string that does is shorter, and how
-- long they are.
use mathlib.Core.Path.{◌≡◌, refl, ap}
use mathlib.Core.List.{List, [], ◌∷◌, ◌++◌}
use Prim.Native.Nat.{ℕ, suc, ◌+◌, ◌*◌, ◌≤◌, ◌<◌, suc-le-suc}
use native.Mathlib.Nat.{suc-mul, zero-lt-suc}
use native.Mathlib.Numerals.{add-one}
use native.Mathlib.Omega.{arith}
use lib.ListN.{length, get_or, drop, length-append, drop_of_length-le}
use lib.Seq.{drop-cons}
use Rattle.lists.specs.Wide.{Wide}
use Rattle.packbits.proofs.Exact.{records-few}
use Rattle.packbits.specs.UnpacksRows.{UnpacksRows, none, more}
use Rattle.pack.specs.Least.{least, least_records}
use Rattle.pack.proofs.Bounds.{least-bound, Separate, separate-length}
use Rattle.pack.proofs.Optimal.{least_first}
use Rattle.pack.proofs.Order.{preferred-length}
use Rattle.pack.proofs.Valid.{least-is-least}
use Rattle.pack.specs.LeastRows.{LeastRowsOf, no_row, next_row, least_rows, least_rows_records}

-- ---- rows of one width, at most 128

module _ (width : ℕ) (narrow : width ≤ 128) where
  pub least-rows-of : (rows : List (List ℕ)) → Wide width rows
      → LeastRowsOf (least_rows rows) rows (least_rows_records rows)
  unfolding least_rows least_rows_records
  least-rows-of [] w = no_row
  least-rows-of (row ∷ rows) w = next_row (least-is-least row (omega (arith, w.0))) (least-rows-of rows w.1)

  pub rows-unpack : (rows : List (List ℕ)) → Wide width rows → UnpacksRows (least_rows rows) rows (least_rows_records rows)
  unfolding least_rows least_rows_records
  rows-unpack [] w = none
  rows-unpack (row ∷ rows) w = more (least-is-least row (omega (arith, w.0))).unpacks (rows-unpack rows w.1)

  pub rows-shortest : {body : List ℕ} {rows : List (List ℕ)} {n : ℕ} → Wide width rows → UnpacksRows body rows n
      → length (least_rows rows) ≤ length body
  unfolding least_rows
  rows-shortest w none = omega arith
  rows-shortest w (more {body} {bodies} {row} {rows} u us) =
      omega (
        arith,
        preferred-length (least_first (omega (arith, w.0)) u),
        rows-shortest w.1 us,
        length-append (least row) (least_rows rows),
        length-append body bodies,
      )

-- ---- lengths

-- at most one byte more for each row
pub least_rows-bound : (width : ℕ) (rows : List (List ℕ)) → Wide width rows
    → length (least_rows rows) ≤ length rows * (width + 1)
unfolding least_rows
least_rows-bound width [] w = omega arith
least_rows-bound width (row ∷ rows) w =
    omega (
      arith,
      w.0,
      length-append (least row) (least_rows rows),
      least-bound row,
      least_rows-bound width rows w.1,
      suc-mul (length rows) (width + 1),
    )

-- and exactly that where no row has two equal neighbours
pub separate-rows : (width : ℕ) → 1 ≤ width → (rows : List (List ℕ)) → Wide width rows
    → ((k : ℕ) → k < length rows → Separate (get_or rows k []))
    → length (least_rows rows) ≡ length rows * (width + 1)
unfolding least_rows
separate-rows width some [] w s = omega arith
separate-rows width some (row ∷ rows) w s =
    omega (
      arith,
      w.0,
      length-append (least row) (least_rows rows),
      separate-length row (omega (arith, w.0)) (s 0 (zero-lt-suc (length rows))),
      separate-rows width some rows w.1 (λ k l. s (suc k) (suc-le-suc l)),
      suc-mul (length rows) (width + 1),
    )

-- a record has one byte at least
pub least_records-bound : (row : List ℕ) → length row ≤ 128 → least_records row ≤ length (least row)
least_records-bound row h = records-few (least-is-least row h).unpacks

-- ---- the rows from row k on: row k is the next

module _ (rows : List (List ℕ)) (k : ℕ) where
  pub least_rows-next : k < length rows
      → least_rows (drop k rows) ≡ least (get_or rows k []) ++ least_rows (drop (k + 1) rows)
  unfolding least_rows
  least_rows-next h = rw (add-one, drop-cons rows k [] h) refl

  pub least_rows_records-next : k < length rows
      → least_rows_records (drop k rows) ≡ least_records (get_or rows k []) + least_rows_records (drop (k + 1) rows)
  unfolding least_rows_records
  least_rows_records-next h = rw (add-one, drop-cons rows k [] h) refl

  -- after the last there is none
  pub least_rows-past : length rows ≤ k → least_rows (drop k rows) ≡ []
  unfolding least_rows
  least_rows-past h = ap least_rows (drop_of_length-le rows h)

  pub least_rows_records-past : length rows ≤ k → least_rows_records (drop k rows) ≡ 0
  unfolding least_rows_records
  least_rows_records-past h = ap least_rows_records (drop_of_length-le rows h)
