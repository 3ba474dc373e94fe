-- The raster of a screen is one that bodies takes, where an area holds the screen.
use mathlib.Core.Path.{◌≡◌}
use mathlib.Core.Bool.{false}
use mathlib.Core.List.{List}
use Prim.Native.Nat.{ℕ, ◌+◌, ◌-◌, ◌≤◌}
use lib.ListN.{length}
use Rattle.packbits.specs.Row.{width_out_of_range}
use Rattle.packbits.proofs.Row.{of_range}
use Rattle.raster.specs.Shape.{row_bytes}
use Rattle.resolution.specs.declared.Resolution.{Resolution}
use Rattle.resolution.specs.Shapes.{screen_bytes, raster_of}
use Rattle.resolution.proofs.Rasters.{raster-width, raster-within}
use Rattle.bodies.specs.Packing.{below_limit, pack_body}
use Rattle.bodies.specs.Reading.{read_body, read_into}
use Rattle.bodies.proofs.Packing.{pack-room}
use Rattle.bodies.proofs.Reading.{into-fits}

module _ (r : Resolution) where
  pub in-range : width_out_of_range (row_bytes (raster_of r)) ≡ false
  in-range = of_range (row_bytes (raster_of r)) (raster-width r).0 (raster-width r).1

  pub screen-read : (file : List ℕ) (at after room area : ℕ) → screen_bytes ≤ room → screen_bytes ≤ area
      → read_into file at after (raster_of r) room area ≡ read_body file at after (raster_of r)
  screen-read file at after room area h k =
      into-fits file at after (raster_of r) room area in-range (raster-within r room h) (raster-within r area k)

  pub screen-packed : (screen : List ℕ) (limit at room : ℕ) → screen_bytes ≤ length screen → at + (limit - 1) ≤ room
      → pack_body (raster_of r) screen limit at room ≡ below_limit (raster_of r) screen limit
  screen-packed screen limit at room h k =
      pack-room (raster_of r) screen limit at room in-range (raster-within r (length screen) h) k
