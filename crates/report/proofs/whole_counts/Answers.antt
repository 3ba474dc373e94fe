-- `report::whole_counts` meets its contract: the whole screen is a rectangle that fits.
use Rattle.std.proofs.Common.{rules}
use Rattle.report.proofs.Summary.{tallied-here}
use Rattle.report.proofs.whole_counts.Goals as goal

pub unwrap-requires : goal.unwrap-requires
unwrap-requires c =
    rw (tallied-here c.args.screen.now c.args.r _ _ _ _ (search rules) c.number.ensures c.width.ensures
    c.height.ensures c.tally.ensures)
    (search rules)

pub returns : goal.returns
returns c =
    let e =
    tallied-here c.args.screen.now c.args.r _ _ _ _ (search rules) c.number.ensures c.width.ensures
    c.height.ensures c.tally.ensures in
    cc
