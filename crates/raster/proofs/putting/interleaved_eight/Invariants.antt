use Rattle.std.proofs.Common.{◌≡◌, length, take}
use Rattle.lists.specs.Over.{over}
use Rattle.raster.specs.Joined.{interleaved_line}
use Rattle.raster.proofs.putting.interleaved_eight.Given as goal

abbrev pub invariant-loop-k : goal.invariant-loop-k
invariant-loop-k l =
    (length l.initial.interleaved ≡ 16) × (length l.interleaved ≡ 16)
    × (l.interleaved ≡ over (take l.k (interleaved_line l.source l.at 2 l.gap 16)) l.initial.interleaved)
