-- Laws of planes that stand one behind the other: where their rows stand, and the image made from them.
use mathlib.Core.Path.{◌≡◌, refl, sym, ap, ◌∙◌}
use mathlib.Core.List.{List, []}
use Prim.Native.Nat.{ℕ, ◌+◌, ◌*◌, ◌/◌, ◌%◌, ◌≤◌, ◌<◌}
use native.Mathlib.Nat.{mul_assoc, mul_comm, add-mul, mod-lt}
use native.Mathlib.Omega.{arith}
use lib.Arith.{digits_lt}
use lib.ListN.{length, get_or, drop, length-drop}
use lib.Seq.{length-take-le, get_or-take, get_or-drop}
use Rattle.lists.specs.Tabulate.{tabulate}
use Rattle.lists.proofs.Tabulate.{length-tabulate, get_or-tabulate, tabulate-ext}
use Rattle.raster.specs.declared.Raster.{Raster}
use Rattle.raster.specs.Shape.{row_bytes, rows, bytes}
use Rattle.raster.specs.PlaneRows.{row_at, column_at, plane_row, plane_rows, image_of}
use Rattle.planar.specs.Planar.{planar_row, planar_image}
use Rattle.raster.specs.Spaced.{start_at, spaced_byte, spaced_image, Spaced}
use Rattle.raster.proofs.Places.{row-planes, row_line, row_at-lt, column_at-lt}
use Rattle.raster.proofs.Joined.{row_ends}
use Rattle.raster.proofs.PlaneRows.{length-image_of, get_or-plane_rows, rows-of-image}

-- ---- evenly spaced

-- the place of plane row n among the rows of the list
abbrev place_of : Raster → ℕ → ℕ
place_of r n = n % r.planes * r.lines + n / r.planes

planar-start : (r : Raster) (n : ℕ)
    → start_at r.planes (row_bytes r) (r.lines * row_bytes r) n ≡ place_of r n * row_bytes r
planar-start r n =
    let P : ℕ = r.planes in
    omega (arith, add-mul (n % P * r.lines) (n / P) (row_bytes r), mul_assoc (n % P) r.lines (row_bytes r))

planar-ends : (r : Raster) (n : ℕ) → n < rows r → place_of r n * row_bytes r + row_bytes r ≤ bytes r
planar-ends r n h =
    let place : place_of r n < r.planes * r.lines = digits_lt (mod-lt n (row-planes r n h)) (row_line r n h) in
    row_ends r (place_of r n) (omega (arith, mul_comm r.planes r.lines))

pub planar-spaced : (r : Raster) → Spaced r (row_bytes r) (r.lines * row_bytes r)
planar-spaced r =
    record { within = λ n h. omega (arith, planar-start r n, planar-ends r n h); single = λ one. refl }

pub spaced-planar : (r : Raster) (list : List ℕ)
    → spaced_image r (row_bytes r) (r.lines * row_bytes r) list ≡ planar_image r list
unfolding spaced_image planar_image image_of planar_row
spaced-planar r list =
    tabulate-ext (bytes r) (spaced_byte r (row_bytes r) (r.lines * row_bytes r) list) _
    (λ o h.
    let n : ℕ = row_at r o in
    let c : ℕ = column_at r o in
    ap (λ (i : ℕ). get_or list (i + c) 0) (planar-start r n)
    ∙ sym (get_or-drop (place_of r n * row_bytes r) list c 0)
    ∙ sym (get_or-take (row_bytes r) (drop (place_of r n * row_bytes r) list) c 0 (column_at-lt r o h))
    ∙ sym (ap (λ (row : List ℕ). get_or row c 0) (get_or-tabulate (rows r) (planar_row r list) n [] (row_at-lt r o h))))

-- ---- the image

pub length-planar_image : (r : Raster) (list : List ℕ) → length (planar_image r list) ≡ bytes r
unfolding planar_image
length-planar_image r list = length-image_of r (tabulate (rows r) (planar_row r list))

-- its plane rows are the rows of the planes
module _ (r : Raster) (list : List ℕ) (full : bytes r ≤ length list) where
  length-planar_row : (n : ℕ) → n < rows r → length (planar_row r list n) ≡ row_bytes r
  unfolding planar_row
  length-planar_row n h =
      let at : ℕ = place_of r n * row_bytes r in
      length-take-le (row_bytes r) (drop at list) (omega (arith, planar-ends r n h, length-drop at list))

  pub row-of-planes : (n : ℕ) → n < rows r → plane_row (planar_image r list) r n ≡ planar_row r list n
  unfolding planar_image
  row-of-planes n h =
      let all : List (List ℕ) = tabulate (rows r) (planar_row r list) in
      let row : (m : ℕ) → m < rows r → get_or all m [] ≡ planar_row r list m =
      λ m k. get_or-tabulate (rows r) (planar_row r list) m [] k in
      let image : plane_rows (image_of r all) r ≡ all =
      rows-of-image r all (length-tabulate (rows r) (planar_row r list))
      (λ m k. ap length (row m k) ∙ length-planar_row m k) in
      sym (get_or-plane_rows (image_of r all) r n h)
      ∙ ap (λ (rows : List (List ℕ)). get_or rows n []) image
      ∙ row n h
