use Rattle.std.proofs.Common.{◌≡◌, ◌*◌, length}
use Rattle.raster.specs.Joined.{planes_of, plane_bytes}
use Rattle.raster.proofs.InterleaveLines.{Interleaving}
use Rattle.raster.proofs.putting.Spacing.interleave_lines.Given as goal

abbrev pub invariant-loop-y : goal.invariant-loop-y
invariant-loop-y l =
    (length l.half ≡ 512) × (l.line ≡ l.eights * plane_bytes l.four)
    × Interleaving l.fn.rows l.fn.self.step l.fn.self.raster.lines (planes_of l.four) l.fn.self.gap l.line l.fn.area l.area
    l.y
