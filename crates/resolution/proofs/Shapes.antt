-- Laws of the three shapes, each by its three cases.
use Prim.Native.Nat.{◌≤◌}
use native.Mathlib.Omega.{arith}
use Rattle.resolution.specs.declared.Resolution.{Resolution}
use Rattle.resolution.specs.declared.Resolution.TheVariants.{Low, Medium, High}
use Rattle.resolution.specs.Shapes.{width_of, height_of, planes_of, registers_of}

-- numbers that no shape exceeds
pub width-le : (r : Resolution) → width_of r ≤ 640
width-le Low = omega arith
width-le Medium = omega arith
width-le High = omega arith

pub height-le : (r : Resolution) → height_of r ≤ 400
height-le Low = omega arith
height-le Medium = omega arith
height-le High = omega arith

pub planes-le : (r : Resolution) → planes_of r ≤ 4
planes-le Low = omega arith
planes-le Medium = omega arith
planes-le High = omega arith

pub registers-le : (r : Resolution) → registers_of r ≤ 16
registers-le Low = omega arith
registers-le Medium = omega arith
registers-le High = omega arith
