-- The raster of a resolution has the shape of the document's table, each law by its three cases.
use mathlib.Core.Path.{◌≡◌, refl}
use Prim.Native.Nat.{ℕ, ◌≤◌, ◌<◌}
use native.Mathlib.Omega.{arith}
use Rattle.raster.specs.Shape.{row_bytes, rows, line_bytes, bytes}
use Rattle.resolution.specs.declared.Resolution.{Resolution}
use Rattle.resolution.specs.declared.Resolution.TheVariants.{Low, Medium, High}
use Rattle.resolution.specs.Shapes.{screen_bytes, row_bytes_of, plane_rows_of, line_bytes_of, raster_of}

pub raster-row_bytes : (r : Resolution) → row_bytes (raster_of r) ≡ row_bytes_of r
raster-row_bytes Low = refl
raster-row_bytes Medium = refl
raster-row_bytes High = refl

pub raster-rows : (r : Resolution) → rows (raster_of r) ≡ plane_rows_of r
raster-rows Low = refl
raster-rows Medium = refl
raster-rows High = refl

pub raster-line_bytes : (r : Resolution) → line_bytes (raster_of r) ≡ line_bytes_of r
raster-line_bytes Low = refl
raster-line_bytes Medium = refl
raster-line_bytes High = refl

pub raster-bytes : (r : Resolution) → bytes (raster_of r) ≡ screen_bytes
raster-bytes Low = refl
raster-bytes Medium = refl
raster-bytes High = refl

-- a plane row is one that can be packed: of 1 to 128 bytes
pub raster-width : (r : Resolution) → (0 < row_bytes (raster_of r)) × (row_bytes (raster_of r) ≤ 128)
raster-width Low = (omega arith, omega arith)
raster-width Medium = (omega arith, omega arith)
raster-width High = (omega arith, omega arith)

-- an area that holds a screen holds the raster
pub raster-within : (r : Resolution) (room : ℕ) → screen_bytes ≤ room → bytes (raster_of r) ≤ room
raster-within r room h = rw (raster-bytes r) h
