-- Laws of plane rows put into an area, one and all.
use mathlib.Core.Path.{◌≡◌, refl, sym, ap, ◌∙◌}
use mathlib.Core.List.{List, []}
use mathlib.Core.Logic.{◌⊎◌, inl, inr}
use Prim.Native.Nat.{ℕ, zero, suc, ◌≤◌, ◌<◌}
use native.Mathlib.Nat.{not-suc-le-zero, le_of_suc-le-suc, eq-or-lt_of_le, le_refl}
use native.Mathlib.Omega.{arith}
use lib.ListN.{length, get_or}
use Rattle.lists.specs.Over.{over}
use Rattle.lists.proofs.Over.{over-ext}
use Rattle.lists.proofs.Stores.{length-stores, get_or-stores-at, get_or-stores-other}
use Rattle.raster.specs.declared.Raster.{Raster}
use Rattle.raster.specs.Shape.{row_bytes, rows, bytes}
use Rattle.raster.specs.PlaneRows.{row_offset, row_at, column_at, with_row, put_rows, image_of}
use Rattle.raster.proofs.Places.{row-planes, row_within, row_at-lt, column_at-lt}
use Rattle.raster.proofs.Offsets.{row_at-row_offset, column_at-row_offset, row_offset-at}

-- ---- a plane row put into an area

length-with_row : (s : List ℕ) (r : Raster) (n : ℕ) (row : List ℕ) → length (with_row s r n row) ≡ length s
unfolding with_row
length-with_row s r n row = length-stores (row_bytes r) (row_offset r n) (λ c. get_or row c 0) s

module _ (s : List ℕ) (r : Raster) (n : ℕ) (row : List ℕ) where
  -- a byte of that row
  byte_put : (c : ℕ) → bytes r ≤ length s → n < rows r → c < row_bytes r
      → get_or (with_row s r n row) (row_offset r n c) 0 ≡ get_or row c 0
  unfolding with_row
  byte_put c h k l =
      get_or-stores-at (row_bytes r) (row_offset r n) (λ c. get_or row c 0) (column_at r) s
      (λ c m. omega (arith, row_within r n c k m))
      (λ c m. column_at-row_offset r n c (row-planes r n k) m)
      c
      l

  -- a byte of another row
  byte-kept : (o : ℕ) → 0 < r.planes → (row_at r o ≡ n → ⊥) → get_or (with_row s r n row) o 0 ≡ get_or s o 0
  unfolding with_row
  byte-kept o some h =
      get_or-stores-other (row_bytes r) (row_offset r n) (λ c. get_or row c 0) s o
      (λ c l e. h (ap (row_at r) e ∙ row_at-row_offset r n c some l))

  -- a byte past the raster
  past-kept : (o : ℕ) → n < rows r → bytes r ≤ o → get_or (with_row s r n row) o 0 ≡ get_or s o 0
  unfolding with_row
  past-kept o h k =
      get_or-stores-other (row_bytes r) (row_offset r n) (λ c. get_or row c 0) s o
      (λ c l e. omega (arith, row_within r n c h l))

-- ---- rows put one after the other

module _ (r : Raster) (list : List (List ℕ)) (s : List ℕ) where
  pub length-put_rows : (n : ℕ) → length (put_rows r n list s) ≡ length s
  unfolding put_rows
  length-put_rows zero = refl
  length-put_rows (suc n) = length-with_row (put_rows r n list s) r n (get_or list n []) ∙ length-put_rows n

  byte-done : (n m c : ℕ) → bytes r ≤ length s → m < rows r → c < row_bytes r → m < n
      → get_or (put_rows r n list s) (row_offset r m c) 0 ≡ get_or (get_or list m []) c 0
  unfolding put_rows
  byte-done zero m c h k l b = absurd (not-suc-le-zero b)
  byte-done (suc n) m c h k l b = go (byte-done n m c h k l) (eq-or-lt_of_le (le_of_suc-le-suc b))
    where
      go : (m < n → get_or (put_rows r n list s) (row_offset r m c) 0 ≡ get_or (get_or list m []) c 0) → (m ≡ n) ⊎ (m < n)
          → get_or (with_row (put_rows r n list s) r n (get_or list n [])) (row_offset r m c) 0 ≡ get_or (get_or list m []) c 0
      go ih (inl e) =
          ap (λ (i : ℕ). get_or (with_row (put_rows r n list s) r i (get_or list i [])) (row_offset r m c) 0) (sym e)
          ∙ byte_put (put_rows r n list s) r m (get_or list m []) c (omega (arith, length-put_rows n)) k l
      go ih (inr i) =
          let some = row-planes r m k in
          byte-kept (put_rows r n list s) r n (get_or list n []) (row_offset r m c) some
          (λ e. omega (arith, row_at-row_offset r m c some l))
          ∙ ih i

  past-done : (n o : ℕ) → n ≤ rows r → bytes r ≤ o → get_or (put_rows r n list s) o 0 ≡ get_or s o 0
  unfolding put_rows
  past-done zero o h k = refl
  past-done (suc n) o h k = past-kept (put_rows r n list s) r n (get_or list n []) o h k ∙ past-done n o (omega arith) k

  -- with all rows put, the area holds the image made from them, whatever stood there
  pub put_all : bytes r ≤ length s → put_rows r (rows r) list s ≡ over (image_of r list) s
  unfolding image_of
  put_all h =
      let n : ℕ = rows r in
      let byte : ℕ → ℕ = λ o. get_or (get_or list (row_at r o) []) (column_at r o) 0 in
      over-ext (bytes r) byte s (put_rows r n list s) h (length-put_rows n)
      (λ o l.
      ap (λ (i : ℕ). get_or (put_rows r n list s) i 0) (sym (row_offset-at r o l))
      ∙ byte-done n (row_at r o) (column_at r o) h (row_at-lt r o l) (column_at-lt r o l) (row_at-lt r o l))
      (λ o l. past-done n o (le_refl n) l)
