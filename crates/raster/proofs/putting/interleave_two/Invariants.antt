use Rattle.std.proofs.Common.{◌≡◌, ◌*◌, length, take}
use Rattle.lists.specs.Over.{over}
use Rattle.raster.specs.Joined.{interleaved_line}
use Rattle.raster.proofs.putting.interleave_two.Given as goal

abbrev pub invariant-loop-k : goal.invariant-loop-k
invariant-loop-k l =
    (length l.out ≡ length l.fn.out)
    × (l.out ≡ over (take (l.k * 16) (interleaved_line l.source l.at 2 l.gap (l.eights * 16))) l.fn.out)
