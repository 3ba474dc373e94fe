-- A turn reads on where the one before stopped.
use Rattle.std.proofs.Common.{rules, sym, subst}
use Rattle.std.specs.Io.KnownBytes.{Consumes}
use Rattle.std.proofs.KnownBytes.{Consumes-trans}
use Rattle.summary.proofs.Front.{take-read}
use Rattle.summary.proofs.read_front.Goals as goal

pub loop-count-preserved : goal.loop-count-preserved
loop-count-preserved g c = (
  search rules,
  search rules,
  subst (Consumes _ _) (sym (take-read _ _ _ _ _ c.loop-count.invariant.1 c.in_ok-read.ensures.bound.0))
      (Consumes-trans _ _ _ _ _ c.loop-count.invariant.2 c.in_ok-read.ensures.bytes.0),
)
