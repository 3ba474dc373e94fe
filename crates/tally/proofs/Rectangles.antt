-- Laws of rectangles.
use mathlib.Core.Path.{◌≡◌}
use mathlib.Core.Bool.{true}
use Prim.Native.Nat.{◌+◌, ◌≤◌}
use lib.Dec.{leb}
use borrow.Author.Tests.{leb-true}
use Rattle.lists.proofs.Cond.{and-true}
use Rattle.resolution.specs.declared.Resolution.{Resolution}
use Rattle.resolution.specs.Shapes.{width_of, height_of}
use Rattle.tally.specs.declared.Rectangle.{Rectangle}
use Rattle.tally.specs.Rectangles.{rectangle_fits}

-- a rectangle that fits lies within the screen
pub fits-within : (r : Resolution) (a : Rectangle) → rectangle_fits r a ≡ true
    → (a.left + a.columns ≤ width_of r) × (a.top + a.lines ≤ height_of r)
fits-within r a e =
    let p = and-true (leb (a.left + a.columns) (width_of r)) (leb (a.top + a.lines) (height_of r)) e in
    (leb-true _ _ p.0, leb-true _ _ p.1)
