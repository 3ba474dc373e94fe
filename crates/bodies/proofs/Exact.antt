-- `unpack_body` accepts with exactly the byte strings of the relation `UnpacksImage`.
use Rattle.std.specs.Prelude.{Ok}
use mathlib.Core.Path.{◌≡◌, refl, sym, ap, ap₂, ◌∙◌, subst}
use mathlib.Core.Logic.{◌↔◌}
use mathlib.Core.List.{List, [], ◌++◌}
use Prim.Native.Nat.{ℕ, ◌≤◌}
use native.Mathlib.Omega.{arith}
use lib.ListN.{length, get_or, take, drop, length-drop}
use lib.Seq.{take_all, drop_at}
use Rattle.lists.specs.Bytes.{Bytes}
use Rattle.lists.proofs.Bytes.{no_bytes, bytes_drop}
use Rattle.lists.proofs.Tabulate.{tabulate-all, tabulate-le}
use Rattle.lists.proofs.Wide.{wide_at}
use Rattle.outcome.specs.Outcome.{Outcome, map, placed}
use Rattle.packbits.specs.Rows.{Rows, done_rows, unpack_rows}
use Rattle.packbits.specs.UnpacksRows.{UnpacksRows}
use Rattle.packbits.proofs.RowsExact.{complete-rows, exact-rows}
use Rattle.packbits.proofs.UnpacksRows.{rows-bytes}
use Rattle.raster.specs.declared.Raster.{Raster}
use Rattle.raster.specs.Shape.{row_bytes, rows, bytes}
use Rattle.raster.specs.PlaneRows.{row_offset, plane_row, plane_rows, image_of}
use Rattle.raster.proofs.PlaneRows.{length-plane_rows, wide-plane_rows, length-image_of, rows-of-image, image-of-rows}
use Rattle.bodies.specs.Unpacking.{UnpackedBody, body_of, unpack_body}
use Rattle.bodies.specs.Unpacks.{UnpacksImage, AcceptsBody}
use Rattle.bodies.proofs.Unpacking.{from-rows}

module _ (r : Raster) where
  -- ---- what unpacks to an image of bytes is a byte string

  plane_row-bytes : (image : List ℕ) → Bytes image → (n : ℕ) → Bytes (plane_row image r n)
  unfolding plane_row
  plane_row-bytes image b n i =
      let byte : (c : ℕ) → get_or image (row_offset r n c) 0 ≤ 255 = λ c. omega (arith, b (row_offset r n c)) in
      omega (arith, tabulate-le (row_bytes r) (λ c. get_or image (row_offset r n c) 0) 255 byte i)

  pub body_bytes : (image : List ℕ) → Bytes image → {body : List ℕ} {n : ℕ} → UnpacksImage r body image n → Bytes body
  unfolding plane_rows
  body_bytes image b u =
      rows-bytes u (tabulate-all Bytes (rows r) (plane_row image r) [] no_bytes (plane_row-bytes image b))

  -- ---- complete: a body that stands in a file after `front` and before `rest` is accepted, and used whole

  -- of an image longer than the raster the front counts
  pub body-complete : (image : List ℕ) → bytes r ≤ length image → {body : List ℕ} {n : ℕ} → UnpacksImage r body image n
      → (front rest : List ℕ)
      → unpack_body (front ++ (body ++ rest)) (length front) r
      ≡ Ok (record { body = length body; records = n; image = take (bytes r) image })
  body-complete image size {body} {n} u front rest =
      let list : List (List ℕ) = plane_rows image r in
      let file : List ℕ = front ++ (body ++ rest) in
      let all : unpack_rows (rows r) (row_bytes r) (drop (length front) file) ≡ done_rows (length body) n list =
      ap₂ (λ (k : ℕ) (l : List ℕ). unpack_rows k (row_bytes r) l) (sym (length-plane_rows image r))
      (drop_at front (body ++ rest) (length front) refl)
      ∙ complete-rows (row_bytes r) (wide-plane_rows image r) u rest in
      ap (λ (o : Outcome Rows). map (body_of r) (placed (length front) o)) all
      ∙ ap (λ (l : List ℕ). Ok (record { body = length body; records = n; image = l }))
      (image-of-rows r image size)

  -- ---- exact: accepted with these counts and this image just where the relation has them

  module _ (file : List ℕ) (at : ℕ) (u : UnpackedBody) (all : Bytes file) where
    body-sound : unpack_body file at r ≡ Ok u → AcceptsBody file at r u
    body-sound e =
        let input : List ℕ = drop at file in
        let f = from-rows r at (unpack_rows (rows r) (row_bytes r) input) u e in
        let q : Rows = f.0 in
        let exact =
        exact-rows (rows r) (row_bytes r) input q.bytes q.records q.rows (bytes_drop at file all) in
        let s = exact.0 f.1 in
        let same : plane_rows (image_of r q.rows) r ≡ q.rows =
        rows-of-image r q.rows s.0 (λ n h. wide_at (row_bytes r) q.rows s.1 n (omega (arith, s.0))) in
        subst (AcceptsBody file at r) f.2 (
          length-image_of r q.rows,
          omega (arith, length-drop at file, s.2),
          subst (λ (list : List (List ℕ)). UnpacksRows (take q.bytes input) list q.records) (sym same) s.3,
        )

    body-accepts : AcceptsBody file at r u → unpack_body file at r ≡ Ok u
    body-accepts s =
        let input : List ℕ = drop at file in
        let list : List (List ℕ) = plane_rows u.image r in
        let used : u.body ≤ length input = omega (arith, length-drop at file, s.1) in
        let rows_back =
        (exact-rows (rows r) (row_bytes r) input u.body u.records list (bytes_drop at file all)).1
        (length-plane_rows u.image r, wide-plane_rows u.image r, used, s.2) in
        let image-back =
        image-of-rows r u.image (omega (arith, s.0)) ∙ take_all (bytes r) u.image (omega (arith, s.0)) in
        ap (λ (o : Outcome Rows). map (body_of r) (placed at o)) rows_back
        ∙ ap (λ (l : List ℕ). Ok (record { body = u.body; records = u.records; image = l })) image-back

    pub body-exact : (unpack_body file at r ≡ Ok u) ↔ AcceptsBody file at r u
    body-exact = (body-sound, body-accepts)
