-- Where pixels and scan lines lie, each by the three resolutions.
use Prim.Native.Nat.{ℕ, ◌+◌, ◌*◌, ◌/◌, ◌≤◌, ◌<◌}
use native.Mathlib.Omega.{arith}
use Rattle.resolution.specs.declared.Resolution.{Resolution}
use Rattle.resolution.specs.declared.Resolution.TheVariants.{Low, Medium, High}
use Rattle.resolution.specs.Shapes.{screen_bytes, width_of, height_of, groups_of, line_bytes_of}

-- a pixel's group is one of the scan line's
pub pixel-group : (r : Resolution) (x : ℕ) → x < width_of r → x / 16 < groups_of r
pixel-group Low x h = omega arith
pixel-group Medium x h = omega arith
pixel-group High x h = omega arith

-- a scan line lies within the screen
pub line-within : (r : Resolution) (y : ℕ) → y < height_of r → y * line_bytes_of r + line_bytes_of r ≤ screen_bytes
line-within Low y h = omega arith
line-within Medium y h = omega arith
line-within High y h = omega arith
