-- Laws of joined plane rows: where their bytes stand, and the image made from them.
use mathlib.Core.Path.{◌≡◌, sym, ap, ap₂, ◌∙◌}
use mathlib.Core.Bool.{Bool, true, false}
use mathlib.Core.List.{List, flatten}
use Prim.Native.Nat.{ℕ, ◌+◌, ◌*◌, ◌/◌, ◌%◌, ◌≤◌, ◌<◌}
use native.Mathlib.Nat.{mul_assoc, mul_comm, mul-le-mul, le_refl}
use native.Mathlib.Nat.{suc-mul}
use native.Mathlib.Omega.{arith}
use lib.Dec.{eqb}
use lib.ListN.{length, get_or, take, drop, length-drop}
use lib.Seq.{get_or-take, get_or-drop}
use Rattle.lists.specs.Tabulate.{tabulate}
use Rattle.lists.specs.Wide.{Wide}
use Rattle.lists.proofs.Tabulate.{tabulate-ext, tabulate-take}
use Rattle.lists.proofs.Wide.{get_or-flatten}
use Rattle.raster.specs.declared.Raster.{Raster}
use Rattle.raster.specs.Shape.{row_bytes, rows, line_bytes, bytes}
use Rattle.raster.specs.Offsets.{group_offset, word_offset}
use Rattle.raster.specs.PlaneRows.{row_offset, plane_row, plane_rows, row_at, column_at, image_of}
use Rattle.raster.specs.Joined.{joined_byte, joined_image, planes_of, plane_bytes}
use Rattle.raster.specs.Joined.{Interleaved}
use Rattle.raster.proofs.Places.{row_at-lt, column_at-lt}

-- ---- rows and bytes

pub swap : (p g : ℕ) → p * (g * 2) ≡ g * (p * 2)
swap p g = sym (mul_assoc p g 2) ∙ ap (λ (i : ℕ). i * 2) (mul_comm p g) ∙ mul_assoc g p 2

-- all plane rows have as many bytes as the raster
pub rows-bytes : (r : Raster) → rows r * row_bytes r ≡ bytes r
rows-bytes r =
    mul_assoc r.lines r.planes (row_bytes r) ∙ ap (λ (i : ℕ). r.lines * i) (swap r.planes r.groups)

-- one of them ends inside
pub row_ends : (r : Raster) (n : ℕ) → n < rows r → n * row_bytes r + row_bytes r ≤ bytes r
row_ends r n h = omega (arith, mul-le-mul h (le_refl (row_bytes r)), suc-mul n (row_bytes r), rows-bytes r)

-- ---- a raster that is interleaved
module _ (r : Raster) (w : Interleaved r) where
  abbrev four : Bool
  four = eqb r.planes 4

  abbrev eights : ℕ
  eights = r.groups / 4

  pub interleaved-line : eights * plane_bytes four ≡ line_bytes r
  interleaved-line = go four w.planes
    where
      go : (b : Bool) → r.planes ≡ planes_of b → eights * plane_bytes b ≡ line_bytes r
      go true e =
          let all : eights * 32 ≡ eights * 4 * (4 * 2) = omega arith in
          all ∙ ap₂ (λ (g p : ℕ). g * (p * 2)) w.eights (sym e)
      go false e =
          let all : eights * 16 ≡ eights * 4 * (2 * 2) = omega arith in
          all ∙ ap₂ (λ (g p : ℕ). g * (p * 2)) w.eights (sym e)

-- ---- rows of one width, joined

-- a list that begins with the rows of a raster, joined, makes the image of those rows
pub joined-image : (r : Raster) (list : List (List ℕ)) (s : List ℕ) → Wide (row_bytes r) list → length list ≡ rows r
    → take (length (flatten list)) s ≡ flatten list → joined_image r s ≡ image_of r list
unfolding joined_image image_of
joined-image r list s wide all e =
    tabulate-ext (bytes r) (joined_byte r s) _
    (λ o h.
    let b = get_or-flatten (row_bytes r) list wide (row_at r o) (column_at r o) (omega (arith, row_at-lt r o h))
    (column_at-lt r o h) in
    sym (get_or-take (length (flatten list)) s (row_at r o * row_bytes r + column_at r o) 0 b.0)
    ∙ ap (λ (l : List ℕ). get_or l (row_at r o * row_bytes r + column_at r o) 0) e
    ∙ b.1)

-- ---- the plane rows of one plane, where they stand

one-plane-offset : (r : Raster) (n c : ℕ) → r.planes ≡ 1 → row_offset r n c ≡ n * row_bytes r + c
unfolding row_offset word_offset group_offset
one-plane-offset r n c one =
    ap (λ (p : ℕ). (n / p * r.groups + c / 2) * (p * 2) + n % p * 2 + c % 2) one
    ∙ (let same : n / 1 ≡ n = omega arith in
    omega (arith, ap (λ (k : ℕ). k * r.groups) same, mul_assoc n r.groups 2))

pub one-plane-rows : (s : List ℕ) (r : Raster) → r.planes ≡ 1 → bytes r ≤ length s
    → plane_rows s r ≡ tabulate (rows r) (λ n. take (row_bytes r) (drop (n * row_bytes r) s))
unfolding plane_rows plane_row
one-plane-rows s r one full =
    tabulate-ext (rows r) _ _ (λ n h.
    let w : ℕ = row_bytes r in
    let there : w ≤ length (drop (n * w) s) = omega (arith, row_ends r n h, length-drop (n * w) s) in
    tabulate-ext w _ (λ c. get_or (drop (n * w) s) c 0)
    (λ c k.
    ap (λ (i : ℕ). get_or s i 0) (one-plane-offset r n c one) ∙ sym (get_or-drop (n * w) s c 0))
    ∙ tabulate-take w (drop (n * w) s) 0 there)
