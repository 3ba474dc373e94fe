use Rattle.std.proofs.Common.{ℕ, ◌*◌, ◌/◌, ap₂, ◌∙◌, add-one, rules}
use Rattle.lines.specs.Blocks.{joined_word, groups_word}
use Rattle.lines.proofs.block_word.Goals as goal

pub loop-g-init : goal.loop-g-init
unfolding groups_word
loop-g-init g c = search rules

pub loop-g-preserved : goal.loop-g-preserved
unfolding groups_word
loop-g-preserved g c =
    let l = c.loop-g in
    rw (add-one l.g)
    (c.joined-word.ensures
    ∙ ap₂ (λ (i j : ℕ). joined_word i (l.g * (128 / g.row.WIDTH)) j) c.eight_registers.ensures l.invariant)
