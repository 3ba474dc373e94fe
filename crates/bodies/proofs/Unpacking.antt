-- A body unpacked: its cases, its bounds, and the image that its rows make.
use Rattle.std.specs.Prelude.{Ok, Err}
use mathlib.Core.Path.{◌≡◌, refl, ap, ◌∙◌, subst}
use mathlib.Core.Bool.{false}
use mathlib.Core.List.{List, flatten}
use Prim.Native.Nat.{ℕ, ◌-◌, ◌≤◌}
use native.Mathlib.Omega.{arith}
use lib.ListN.{length, drop, length-drop}
use Rattle.outcome.specs.Outcome.{Outcome, map, placed, later, Judged}
use Rattle.packbits.specs.Row.{width_out_of_range}
use Rattle.packbits.specs.Rows.{Rows, rows_packed, rows_progress, unpack_rows, unpack_rows_at}
use Rattle.packbits.proofs.Row.{in-range}
use Rattle.packbits.proofs.Completion.{rows-accepted}
use Rattle.packbits.proofs.RowsBounds.{RowsBounded, rows-bounded}
use Rattle.raster.specs.declared.Raster.{Raster}
use Rattle.raster.specs.Shape.{row_bytes, rows, bytes}
use Rattle.raster.proofs.Joined.{rows-bytes, joined-image}
use Rattle.raster.proofs.PlaneRows.{length-image_of}
use Rattle.unpack.specs.Rows.{judge_rows, RowsFit, whole_rows, Begins}
use Rattle.unpack.proofs.JudgeRows.{judge-fit}
use Rattle.bodies.specs.Unpacking.{UnpackedBody, body_of, unpack_body, body_unpacked, RowsUnpacked}

-- ---- a raster that is accepted has rows that fit

pub rows_fit : (r : Raster) (room : ℕ) → width_out_of_range (row_bytes r) ≡ false → bytes r ≤ room
    → RowsFit (rows r) (row_bytes r) room
rows_fit r room range full =
    let w = in-range (row_bytes r) range in
    record { some = w.0; narrow = w.1; size = omega (arith, rows-bytes r, full) }

-- ---- what rows give, as what a body gives

body_rows : (r : Raster) (o : Outcome Rows) → map rows_packed o ≡ map body_unpacked (map (body_of r) o)
body_rows r (Ok q) = refl
body_rows r (Err why) = refl

pub rows-judged : (file : List ℕ) (at : ℕ) (r : Raster) (room : ℕ) → RowsFit (rows r) (row_bytes r) room
    → map rows_packed (judge_rows (rows r) (row_bytes r) room (unpack_rows_at file at (row_bytes r) (rows r)))
    ≡ map body_unpacked (unpack_body file at r)
rows-judged file at r room fit =
    let o = unpack_rows_at file at (row_bytes r) (rows r) in
    ap (map rows_packed) (judge-fit (rows r) (row_bytes r) room o fit) ∙ body_rows r o

-- ---- what is accepted comes from accepted rows, which are whole

pub from-rows : (r : Raster) (at : ℕ) (o : Outcome Rows) (u : UnpackedBody) → map (body_of r) (placed at o) ≡ Ok u
    → (q : Rows) × (o ≡ Ok q) × (body_of r q ≡ u)
from-rows r at (Ok q) u e = (q, refl, ap (λ (o : Outcome UnpackedBody). later o (λ b. b) u) e)
from-rows r at (Err why) u e = let z : ◌≡◌ {A = ℕ} 0 1 = cc in absurd (omega arith)

module _ (file : List ℕ) (at : ℕ) (r : Raster) where
  bounds : RowsBounded (drop at file) (row_bytes r) (rows r) (unpack_rows (rows r) (row_bytes r) (drop at file))
  bounds = rows-bounded (rows r) (row_bytes r) (drop at file)

  -- ---- bounds

  -- the image is as long as the raster, the packed bytes are in the file, and there are no more records than these
  abbrev pub BodyBounded : UnpackedBody → Type 0
  BodyBounded u = (length u.image ≡ bytes r) × (u.body ≤ length file - at) × (u.records ≤ u.body)

  -- and a refusal has a number
  pub body-bounded : Judged BodyBounded (unpack_body file at r)
  body-bounded = go (unpack_rows (rows r) (row_bytes r) (drop at file)) bounds
    where
      go : (o : Outcome Rows) → RowsBounded (drop at file) (row_bytes r) (rows r) o
          → Judged BodyBounded (map (body_of r) (placed at o))
      go (Ok q) b = (length-image_of r q.rows, omega (arith, length-drop at file, b.2), b.3)
      go (Err why) b = b.0

  -- ---- the rows of an accepted body make its image

  pub body-image : (left : List ℕ) → Begins (flatten (whole_rows file at (rows r) (row_bytes r))) left
      → RowsUnpacked file at r left
  body-image left begins u e =
      let f = from-rows r at (unpack_rows (rows r) (row_bytes r) (drop at file)) u e in
      let q : Rows = f.0 in
      let whole : whole_rows file at (rows r) (row_bytes r) ≡ q.rows =
      (rows-accepted (rows_progress (rows r) (row_bytes r) (drop at file)) q f.1).1 in
      let b = subst (RowsBounded (drop at file) (row_bytes r) (rows r)) f.1 bounds in
      joined-image r q.rows left b.1 b.0
      (subst (λ (list : List (List ℕ)). Begins (flatten list) left) whole begins)
      ∙ ap (λ (v : UnpackedBody). v.image) f.2
