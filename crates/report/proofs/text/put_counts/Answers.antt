-- `report::text::put_counts` meets its contract: a turn of the loop appends one count.
use Rattle.std.proofs.Common.{refl, arith, rules, ◌+◌, take}
use mathlib.Core.List.{flatten}
use Rattle.lists.proofs.Pieces.{length-written, written_then, written_as}
use Rattle.report.specs.Lines.{items}
use Rattle.report.proofs.Lines.{items_more}
use Rattle.report.proofs.text.put_counts.Goals as goal

pub loop-n-init : goal.loop-n-init
unfolding items flatten
loop-n-init c = (omega arith, record { bytes = refl; all = refl }, refl, search rules, refl)

pub loop-n-preserved : goal.loop-n-preserved
loop-n-preserved c =
    let l = c.loop-n in
    let w =
    written_as (items (take (l.n-index + 1) c.args.counts)) (items_more c.args.counts l.n-index (omega arith))
    (written_then l.invariant.1 c.put_item-end.ensures.part) in (
      omega (arith, c.put_item-end.ensures.size),
      w,
      length-written w (omega (arith, w.bytes, c.put_item-end.ensures.size)),
      l.invariant.3,
      l.invariant.4,
    )
