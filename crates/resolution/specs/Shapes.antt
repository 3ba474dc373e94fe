-- The three resolutions (document 01, "Three resolutions").
use Rattle.std.specs.Prelude.{ℕ, ◌*◌, ◌/◌, ◌^◌}
use Rattle.raster.specs.declared.Raster.{Raster}
use Rattle.resolution.specs.declared.Resolution.{Resolution}
use Rattle.resolution.specs.declared.Resolution.TheVariants.{Low, Medium, High}
use Rattle.resolution.specs.declared.Shape.{Shape}

-- the bytes of a screen (document 01's term: the first 32,000 bytes of a lent area), at every resolution
abbrev pub screen_bytes : ℕ
screen_bytes = 32000

-- the document's table
abbrev pub shape_of : Resolution → Shape
shape_of Low = record { width = 320; height = 200; planes = 4; row_bytes = 40; plane_rows = 800 }
shape_of Medium = record { width = 640; height = 200; planes = 2; row_bytes = 80; plane_rows = 400 }
shape_of High = record { width = 640; height = 400; planes = 1; row_bytes = 80; plane_rows = 400 }

-- pixels in a scan line
abbrev pub width_of : Resolution → ℕ
width_of r = (shape_of r).width

-- scan lines
abbrev pub height_of : Resolution → ℕ
height_of r = (shape_of r).height

abbrev pub planes_of : Resolution → ℕ
planes_of r = (shape_of r).planes

-- bytes of a plane row
abbrev pub row_bytes_of : Resolution → ℕ
row_bytes_of r = (shape_of r).row_bytes

-- plane rows of a screen
abbrev pub plane_rows_of : Resolution → ℕ
plane_rows_of r = (shape_of r).plane_rows

-- groups of 16 pixels in a scan line
abbrev pub groups_of : Resolution → ℕ
groups_of r = width_of r / 16

-- bytes of a scan line: a plane row of each plane
abbrev pub line_bytes_of : Resolution → ℕ
line_bytes_of r = row_bytes_of r * planes_of r

-- registers that the planes can name
abbrev pub registers_of : Resolution → ℕ
registers_of r = 2 ^ planes_of r

-- the raster of a screen; the shape's other numbers are those of the raster (proofs/Rasters.antt)
abbrev pub raster_of : Resolution → Raster
raster_of r = record { lines = height_of r; groups = groups_of r; planes = planes_of r }
