-- The screen of an SPC file, from the bytes that its data map makes: plane 0 of the scan lines 1 to 199, then planes 1,
-- 2 and 3 of the same lines (document 02, ticket 5; sources 000 and 001).
use Rattle.std.specs.Prelude.{ℕ, ◌+◌, ◌*◌, ◌<◌, ◌≡◌, List, ◌++◌, length, take, drop, replicate}
use Rattle.raster.specs.declared.Raster.{Raster}
use Rattle.raster.specs.Shape.{line_bytes}
use Rattle.raster.specs.PlaneRows.{plane_row}
use Rattle.planar.specs.Planar.{planar_image}
use Rattle.resolution.specs.declared.Resolution.TheVariants.{Low}
use Rattle.resolution.specs.Shapes.{raster_of}

-- the scan lines 1 to 199 of a screen at low resolution
abbrev pub shown_lines : Raster
shown_lines = record { lines = 199; groups = 20; planes = 4 }

-- the bytes that a data map makes: all of these lines
abbrev pub plane_bytes : ℕ
plane_bytes = 31840

-- line 0 is zeros
abbrev pub line_zero : List ℕ
line_zero = replicate (line_bytes shown_lines) 0

unfoldable pub spc_screen : List ℕ → List ℕ
spc_screen planes = line_zero ++ planar_image shown_lines planes

-- `ScreenOf planes screen`: the same, said by the plane rows of a screen at low resolution: those of line 0 are zeros,
-- and that of plane p in line y + 1 is row y of plane p, which has 199 rows of 40 bytes
pub record ScreenOf (planes screen : List ℕ) : Type 0 where
  pub size : length screen ≡ 32000
  pub top : (p : ℕ) → p < 4 → plane_row screen (raster_of Low) p ≡ replicate 40 0
  pub below : (y p : ℕ) → y < 199 → p < 4
      → plane_row screen (raster_of Low) ((y + 1) * 4 + p) ≡ take 40 (drop ((p * 199 + y) * 40) planes)
