-- Laws of plane rows: their bytes, and the image made from them.
use mathlib.Core.Path.{◌≡◌, sym, ap, ap₂, ◌∙◌}
use mathlib.Core.List.{List, []}
use Prim.Native.Nat.{ℕ, ◌≤◌, ◌<◌}
use lib.ListN.{length, get_or, take}
use Rattle.lists.specs.Tabulate.{tabulate}
use Rattle.lists.specs.Wide.{Wide}
use Rattle.lists.proofs.Tabulate.{length-tabulate, get_or-tabulate, tabulate-ext, tabulate-get_or, tabulate-take}
use Rattle.lists.proofs.Wide.{wide-tabulate}
use Rattle.raster.specs.declared.Raster.{Raster}
use Rattle.raster.specs.Shape.{row_bytes, rows, bytes}
use Rattle.raster.specs.PlaneRows.{row_offset, row_at, column_at, plane_row, plane_rows, image_of}
use Rattle.raster.proofs.Places.{row-planes, row_within, row_at-lt, column_at-lt}
use Rattle.raster.proofs.Offsets.{row_at-row_offset, column_at-row_offset, row_offset-at}

-- ---- plane rows of an area

pub length-plane_row : (s : List ℕ) (r : Raster) (n : ℕ) → length (plane_row s r n) ≡ row_bytes r
unfolding plane_row
length-plane_row s r n = length-tabulate (row_bytes r) (λ c. get_or s (row_offset r n c) 0)

pub length-plane_rows : (s : List ℕ) (r : Raster) → length (plane_rows s r) ≡ rows r
unfolding plane_rows
length-plane_rows s r = length-tabulate (rows r) (λ n. plane_row s r n)

pub get_or-plane_row : (s : List ℕ) (r : Raster) (n c : ℕ) → c < row_bytes r
    → get_or (plane_row s r n) c 0 ≡ get_or s (row_offset r n c) 0
unfolding plane_row
get_or-plane_row s r n c h = get_or-tabulate (row_bytes r) (λ c. get_or s (row_offset r n c) 0) c 0 h

pub get_or-plane_rows : (s : List ℕ) (r : Raster) (n : ℕ) → n < rows r → get_or (plane_rows s r) n [] ≡ plane_row s r n
unfolding plane_rows
get_or-plane_rows s r n h = get_or-tabulate (rows r) (λ n. plane_row s r n) n [] h

-- they have the raster's width
pub wide-plane_rows : (s : List ℕ) (r : Raster) → Wide (row_bytes r) (plane_rows s r)
unfolding plane_rows
wide-plane_rows s r = wide-tabulate (row_bytes r) (rows r) (λ n. plane_row s r n) (λ n. length-plane_row s r n)

-- ---- the image made from plane rows

pub length-image_of : (r : Raster) (list : List (List ℕ)) → length (image_of r list) ≡ bytes r
unfolding image_of
length-image_of r list = length-tabulate (bytes r) (λ o. get_or (get_or list (row_at r o) []) (column_at r o) 0)

get_or-image_of : (r : Raster) (list : List (List ℕ)) (o : ℕ) → o < bytes r
    → get_or (image_of r list) o 0 ≡ get_or (get_or list (row_at r o) []) (column_at r o) 0
unfolding image_of
get_or-image_of r list o h = get_or-tabulate (bytes r) (λ o. get_or (get_or list (row_at r o) []) (column_at r o) 0) o 0 h

-- byte c of row n
byte-of-image : (r : Raster) (list : List (List ℕ)) (n c : ℕ) → n < rows r → c < row_bytes r
    → get_or (image_of r list) (row_offset r n c) 0 ≡ get_or (get_or list n []) c 0
byte-of-image r list n c h k =
    let some = row-planes r n h in
    get_or-image_of r list (row_offset r n c) (row_within r n c h k)
    ∙ ap₂ (λ (i j : ℕ). get_or (get_or list i []) j 0) (row_at-row_offset r n c some k) (column_at-row_offset r n c some k)

row-of-image : (r : Raster) (list : List (List ℕ)) (n : ℕ) → n < rows r → length (get_or list n []) ≡ row_bytes r
    → plane_row (image_of r list) r n ≡ get_or list n []
unfolding plane_row
row-of-image r list n h e =
    tabulate-ext (row_bytes r) _ (λ c. get_or (get_or list n []) c 0) (λ c k. byte-of-image r list n c h k)
    ∙ ap (λ (m : ℕ). tabulate m (λ c. get_or (get_or list n []) c 0)) (sym e)
    ∙ tabulate-get_or (get_or list n []) 0

-- the plane rows of the image made from rows are those rows
pub rows-of-image : (r : Raster) (list : List (List ℕ)) → length list ≡ rows r
    → ((n : ℕ) → n < rows r → length (get_or list n []) ≡ row_bytes r) → plane_rows (image_of r list) r ≡ list
unfolding plane_rows
rows-of-image r list e h =
    tabulate-ext (rows r) _ (λ n. get_or list n []) (λ n k. row-of-image r list n k (h n k))
    ∙ ap (λ (m : ℕ). tabulate m (λ n. get_or list n [])) (sym e)
    ∙ tabulate-get_or list []

-- an area is made from its own plane rows
pub image-of-rows : (r : Raster) (s : List ℕ) → bytes r ≤ length s → image_of r (plane_rows s r) ≡ take (bytes r) s
unfolding image_of
image-of-rows r s h =
    tabulate-ext (bytes r) _ (λ o. get_or s o 0)
    (λ o k.
    ap (λ (row : List ℕ). get_or row (column_at r o) 0) (get_or-plane_rows s r (row_at r o) (row_at-lt r o k))
    ∙ get_or-plane_row s r (row_at r o) (column_at r o) (column_at-lt r o k)
    ∙ ap (λ (m : ℕ). get_or s m 0) (row_offset-at r o k))
    ∙ tabulate-take (bytes r) s 0 h

-- ---- areas that agree in the raster's bytes

module _ (s t : List ℕ) (r : Raster) (same : (o : ℕ) → o < bytes r → get_or s o 0 ≡ get_or t o 0) where
  pub plane_row-front : (n : ℕ) → n < rows r → plane_row s r n ≡ plane_row t r n
  unfolding plane_row
  plane_row-front n h =
      tabulate-ext (row_bytes r) _ (λ c. get_or t (row_offset r n c) 0)
      (λ c k. same (row_offset r n c) (row_within r n c h k))

  pub plane_rows-front : plane_rows s r ≡ plane_rows t r
  unfolding plane_rows
  plane_rows-front = tabulate-ext (rows r) _ (λ n. plane_row t r n) plane_row-front
