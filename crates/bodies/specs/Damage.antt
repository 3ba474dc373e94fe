-- How far a damaged body is good (document 02, ticket 3: "Say which row broke").
use Rattle.std.specs.Prelude.{ℕ, ◌+◌, ◌*◌, ◌≡◌, take, drop}
use mathlib.Core.List.{List, ◌++◌, flatten}
use Rattle.outcome.specs.declared.Refusal.{Refusal}
use Rattle.outcome.specs.Outcome.{placed_at}
use Rattle.packbits.specs.Stops.{Stops}
use Rattle.raster.specs.declared.Raster.{Raster}
use Rattle.raster.specs.Shape.{row_bytes, rows}
use Rattle.raster.specs.PlaneRows.{plane_row, plane_rows}

-- `BodyStops file at r why`: the raster's body, from an offset of the file on, stops at a record at fault with the
-- refusal `inside`; `why` is that one, with its place counted from the file's start
pub record BodyStops (file : List ℕ) (at : ℕ) (r : Raster) (why : Refusal) : Type 0 where
  pub inside : Refusal
  pub from : why ≡ placed_at at inside
  pub stops : Stops (rows r) (row_bytes r) (drop at file) inside

-- what a refusal calls good of an image: its first plane rows, and of the plane row after them the first bytes
abbrev pub good_rows : Raster → Refusal → List ℕ → List (List ℕ)
good_rows r why image = take why.plane_row (plane_rows image r)

abbrev pub good_row : Raster → Refusal → List ℕ → List ℕ
good_row r why image = take why.good_bytes (plane_row image r why.plane_row)

-- both, end to end
abbrev pub good_part : Raster → Refusal → List ℕ → List ℕ
good_part r why image = flatten (good_rows r why image) ++ good_row r why image

-- how many bytes of the image that is
abbrev pub good_count : Raster → Refusal → ℕ
good_count r why = why.plane_row * row_bytes r + why.good_bytes
