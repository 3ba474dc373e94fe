-- The relation "a byte string unpacks to a raster's bytes", and the shortest that does (document 01, "Packed rows").
use Rattle.std.specs.Prelude.{ℕ, ◌-◌, ◌≤◌, ◌<◌, ◌≡◌, List, length, take, drop}
use Rattle.packbits.specs.UnpacksRows.{UnpacksRows}
use Rattle.pack.specs.LeastRows.{LeastRowsOf}
use Rattle.raster.specs.declared.Raster.{Raster}
use Rattle.raster.specs.Shape.{bytes}
use Rattle.raster.specs.PlaneRows.{plane_rows}
use Rattle.bodies.specs.Unpacking.{UnpackedBody}

-- `UnpacksImage r body image n`: body is, end to end, one string for each plane row of the image, in order, each of
-- which unpacks to its row, with n records in all
abbrev pub UnpacksImage : Raster → List ℕ → List ℕ → ℕ → Type 0
UnpacksImage r body image n = UnpacksRows body (plane_rows image r) n

-- `ShortestBody r image body n`: body unpacks to the image, with n records, and every other byte string that does has
-- at least as many bytes
pub record ShortestBody (r : Raster) (image body : List ℕ) (n : ℕ) : Type 0 where
  pub unpacks : UnpacksImage r body image n
  pub shortest : {other : List ℕ} {m : ℕ} → UnpacksImage r other image m → length body ≤ length other

-- `LeastBelow r area limit body n`: body is the writer's row for each plane row in turn, a shortest body of the area,
-- below a limit, with n records
pub record LeastBelow (r : Raster) (area : List ℕ) (limit : ℕ) (body : List ℕ) (n : ℕ) : Type 0 where
  pub rows : LeastRowsOf body (plane_rows area r) n
  pub least : ShortestBody r area body n
  pub below : length body < limit

-- the first bytes of the file from an offset on, as many as the body has, unpack to its image by its records
abbrev pub AcceptsBody : List ℕ → ℕ → Raster → UnpackedBody → Type 0
AcceptsBody file at r u =
    (length u.image ≡ bytes r)
    × (u.body ≤ length file - at)
    × UnpacksImage r (take u.body (drop at file)) u.image u.records
