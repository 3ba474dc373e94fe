-- Planes that stand one behind the other in one list, each with its rows of all scan lines from the top, and the
-- raster's bytes made from them.
use Rattle.std.specs.Prelude.{ℕ, ◌+◌, ◌*◌, ◌/◌, ◌%◌, cond, ◌&&◌, List, length, take, drop, leb}
use Rattle.lists.specs.Over.{over}
use Rattle.lists.specs.Tabulate.{tabulate}
use Rattle.raster.specs.declared.Raster.{Raster}
use Rattle.raster.specs.Shape.{row_bytes, rows, bytes}
use Rattle.raster.specs.PlaneRows.{image_of}

-- plane row n in such a list: the row of scan line n / planes in plane n % planes
unfoldable pub planar_row : Raster → List ℕ → ℕ → List ℕ
planar_row r list n = take (row_bytes r) (drop ((n % r.planes * r.lines + n / r.planes) * row_bytes r) list)

-- the image of those rows
unfoldable pub planar_image : Raster → List ℕ → List ℕ
planar_image r list = image_of r (tabulate (rows r) (planar_row r list))

-- the later content of an area into which the planes are put; where the area or the list is shorter than the raster
-- nothing changes
abbrev pub put_planar : Raster → List ℕ → List ℕ → List ℕ
put_planar r list s = cond (leb (bytes r) (length s) && leb (bytes r) (length list)) (over (planar_image r list) s) s
