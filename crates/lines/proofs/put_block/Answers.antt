use Rattle.std.proofs.Common.{arith, rules}
use Rattle.lists.proofs.Over.{over_at-tabulate-turn, over_at-tabulate-done}
use Rattle.lines.specs.Blocks.{block_byte}
use Rattle.lines.proofs.put_block.Goals as goal

pub loop-i-preserved : goal.loop-i-preserved
loop-i-preserved c =
    let l = c.loop-i in
    over_at-tabulate-turn c.args.at 16 _ _ _ l.i _ (omega arith) (omega arith) l.invariant c.block_byte.ensures

pub returns : goal.returns
returns c =
    let a = c.args in
    over_at-tabulate-done a.at 16 (block_byte a.left a.right) a.screen.now c.loop-i.screen 16 (omega arith) (search rules)
