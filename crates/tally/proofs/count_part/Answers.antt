use Rattle.std.proofs.Common.{ap, ◌∙◌, arith}
use Rattle.lists.specs.Tabulate.{tabulate}
use Rattle.tally.specs.declared.Block.{Block}
use Rattle.tally.specs.Blocks.{register_set}
use Rattle.tally.proofs.Blocks.{counted-part}
use Rattle.tally.proofs.count_part.Goals as goal

pub returns : goal.returns
returns g c =
    let a = c.args in
    let among = c.swapped_digits.result in
    c.count_sets.ensures
    ∙ counted-part a.screen.now (λ i. (c.type_inv.screen i).fits) a.at g.row.PLANES (omega arith) (omega arith) a.counts.now
    among a.part.pixels a.part.right (omega arith) c.swapped_digits.ensures
    c.register_sets-sets.result
    (c.register_sets-sets.ensures ∙ ap (λ (b : Block). tabulate 16 (λ v. register_set b among v)) c.block_at.ensures)
