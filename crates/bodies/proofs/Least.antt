-- The least body of an area at a raster: it unpacks to the area, none that does is shorter, when it is refused, and how
-- long it can be. These are the demands on the packed writer, over the raster and the limit.
use Rattle.std.specs.Prelude.{Ok}
use mathlib.Core.Path.{◌≡◌, ap, ◌∙◌}
use mathlib.Core.Logic.{◌↔◌}
use mathlib.Core.Bool.{false}
use mathlib.Core.List.{List, []}
use Prim.Native.Nat.{ℕ, ◌+◌, ◌*◌, ◌/◌, ◌%◌, ◌≤◌, ◌<◌}
use native.Mathlib.Nat.{mul_assoc}
use native.Mathlib.Omega.{arith}
use lib.ListN.{length, get_or}
use lib.Arith.{digits_mod}
use borrow.Author.Tests.{le-leb, lt-leb}
use Rattle.lists.specs.Bytes.{Bytes}
use Rattle.lists.specs.Tabulate.{tabulate}
use Rattle.lists.proofs.Tabulate.{length-tabulate, get_or-tabulate, tabulate-ext, tabulate-le}
use Rattle.outcome.specs.Outcome.{refuse}
use Rattle.outcome.specs.Refusal.{no_packed_body}
use Rattle.packbits.specs.Row.{width_out_of_range}
use Rattle.packbits.proofs.Row.{in-range}
use Rattle.pack.specs.LeastRows.{LeastRowsOf}
use Rattle.pack.proofs.Bounds.{Separate, separate-tabulate}
use Rattle.pack.proofs.LeastRows.{least-rows-of, rows-unpack, rows-shortest, least_rows-bound, separate-rows}
use Rattle.raster.specs.declared.Raster.{Raster}
use Rattle.raster.specs.Offsets.{group_offset, word_offset}
use Rattle.raster.specs.Shape.{row_bytes, rows, bytes}
use Rattle.raster.specs.PlaneRows.{row_offset, plane_row, plane_rows}
use Rattle.raster.proofs.Places.{row_within}
use Rattle.raster.proofs.PlaneRows.{length-plane_rows, get_or-plane_rows, wide-plane_rows}
use Rattle.bodies.specs.Packing.{least_body, least_body_records, alternating, below_limit}
use Rattle.bodies.specs.Unpacks.{UnpacksImage, ShortestBody, LeastBelow}
use Rattle.bodies.proofs.Exact.{body_bytes}
use Rattle.bodies.proofs.Packing.{packed, limit-long, limit-below}

-- ---- row by row the least, and as a whole a shortest

module _ (r : Raster) (area : List ℕ) (range : width_out_of_range (row_bytes r) ≡ false) where
  narrow : row_bytes r ≤ 128
  narrow = (in-range (row_bytes r) range).1

  pub least-rows : LeastRowsOf (least_body r area) (plane_rows area r) (least_body_records r area)
  least-rows = least-rows-of (row_bytes r) narrow (plane_rows area r) (wide-plane_rows area r)

  pub least-shortest : ShortestBody r area (least_body r area) (least_body_records r area)
  least-shortest =
      record {
        unpacks = rows-unpack (row_bytes r) narrow (plane_rows area r) (wide-plane_rows area r);
        shortest = λ u. rows-shortest (row_bytes r) narrow (wide-plane_rows area r) u;
      }

  -- refused, with 9, exactly when no byte string below the limit unpacks to the area
  pub refused-exactly : (limit : ℕ) → Bytes area
      → (below_limit r area limit ≡ refuse no_packed_body)
      ↔ ((body : List ℕ) (n : ℕ) → Bytes body → UnpacksImage r body area n → length body < limit → ⊥)
  refused-exactly limit b = (never, must)
    where
      never : below_limit r area limit ≡ refuse no_packed_body
          → (body : List ℕ) (n : ℕ) → Bytes body → UnpacksImage r body area n → length body < limit → ⊥
      never e body n k u l =
          let below : length (least_body r area) < limit = omega (arith, least-shortest.shortest u) in
          let a = limit-below r area limit (lt-leb limit (length (least_body r area)) below) in
          let z : ◌≡◌ {A = ℕ} 0 1 = cc in omega arith

      must : ((body : List ℕ) (n : ℕ) → Bytes body → UnpacksImage r body area n → length body < limit → ⊥)
          → below_limit r area limit ≡ refuse no_packed_body
      must none =
          let u = least-shortest.unpacks in
          let long : length (least_body r area) < limit → ⊥ = none (least_body r area) _ (body_bytes r area b u) u in
          limit-long r area limit (le-leb limit (length (least_body r area)) (omega arith))

  -- otherwise it is the least body, below the limit
  pub least-below : (limit : ℕ) → (below_limit r area limit ≡ refuse no_packed_body → ⊥)
      → (below_limit r area limit ≡ Ok (packed r area limit))
      × LeastBelow r area limit (least_body r area) (least_body_records r area)
  least-below limit h =
      let long : limit ≤ length (least_body r area) → ⊥ =
      λ l. h (limit-long r area limit (le-leb limit (length (least_body r area)) l)) in
      let below : length (least_body r area) < limit = omega arith in (
        limit-below r area limit (lt-leb limit (length (least_body r area)) below),
        record { rows = least-rows; least = least-shortest; below = below },
      )

-- ---- how long it can be: one byte more for each row than its width

pub least-most : (r : Raster) (area : List ℕ) → length (least_body r area) ≤ rows r * (row_bytes r + 1)
least-most r area =
    rw (length-plane_rows area r) at (least_rows-bound (row_bytes r) (plane_rows area r) (wide-plane_rows area r))

-- ---- and one area has a least body of exactly that many

pub length-alternating : (r : Raster) → length (alternating r) ≡ bytes r
unfolding alternating
length-alternating r = length-tabulate (bytes r) (λ o. o % 2)

pub alternating-bytes : (r : Raster) → Bytes (alternating r)
unfolding alternating
alternating-bytes r i = omega (arith, tabulate-le (bytes r) (λ o. o % 2) 1 (λ o. omega arith) i)

-- a plane row has the even and the odd bytes in turn
row_offset-parity : (r : Raster) (n c : ℕ) → row_offset r n c % 2 ≡ c % 2
unfolding row_offset word_offset group_offset
row_offset-parity r n c =
    let P : ℕ = r.planes in
    let w : ℕ = n / P * r.groups + c / 2 in
    let two : w * (P * 2) + n % P * 2 + c % 2 ≡ (w * P + n % P) * 2 + c % 2 = omega (arith, mul_assoc w P 2) in
    ap (λ (o : ℕ). o % 2) two ∙ digits_mod (w * P + n % P) (omega arith)

alternating-row : (r : Raster) (n : ℕ) → n < rows r → plane_row (alternating r) r n ≡ tabulate (row_bytes r) (λ c. c % 2)
unfolding plane_row alternating
alternating-row r n h =
    tabulate-ext (row_bytes r) _ (λ c. c % 2)
    (λ c k. get_or-tabulate (bytes r) (λ o. o % 2) (row_offset r n c) 0 (row_within r n c h k) ∙ row_offset-parity r n c)

alternating-separate : (r : Raster) (n : ℕ) → n < length (plane_rows (alternating r) r)
    → Separate (get_or (plane_rows (alternating r) r) n [])
alternating-separate r n h =
    let k : n < rows r = rw (length-plane_rows (alternating r) r) at h in
    rw (get_or-plane_rows (alternating r) r n k, alternating-row r n k)
    (separate-tabulate (row_bytes r) (λ c. c % 2) (λ c e. omega arith))

pub most-attained : (r : Raster) → 0 < row_bytes r → length (least_body r (alternating r)) ≡ rows r * (row_bytes r + 1)
most-attained r some =
    let list : List (List ℕ) = plane_rows (alternating r) r in
    rw (length-plane_rows (alternating r) r)
    at (separate-rows (row_bytes r) some list (wide-plane_rows (alternating r) r) (alternating-separate r))

-- ---- the same of every shortest body, which is as long as the least body

module _ (r : Raster) (range : width_out_of_range (row_bytes r) ≡ false) {body : List ℕ} {n : ℕ} where
  shortest-length : (area : List ℕ) → ShortestBody r area body n → length body ≡ length (least_body r area)
  shortest-length area s =
      let least = least-shortest r area range in
      omega (arith, s.shortest least.unpacks, least.shortest s.unpacks)

  pub shortest-most : (area : List ℕ) → ShortestBody r area body n → length body ≤ rows r * (row_bytes r + 1)
  shortest-most area s = rw (shortest-length area s) (least-most r area)

  pub shortest-attained : ShortestBody r (alternating r) body n → length body ≡ rows r * (row_bytes r + 1)
  shortest-attained s = shortest-length (alternating r) s ∙ most-attained r (in-range (row_bytes r) range).0
