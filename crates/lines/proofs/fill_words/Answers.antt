use Rattle.std.proofs.Common.{◌≡◌, ℕ, ◌+◌, ◌*◌, ap, ◌∙◌, take, arith}
use Rattle.lists.specs.Over.{over}
use Rattle.lists.specs.Tabulate.{tabulate}
use Rattle.lists.proofs.Over.{tabulate-turn, over_done}
use Rattle.lists.proofs.Tabulate.{length-tabulate}
use Rattle.lines.specs.Blocks.{line_word}
use Rattle.lines.proofs.Blocks.{line_word-left, line_word-right}
use Rattle.lines.proofs.fill_words.Goals as goal

pub loop-b-preserved : goal.loop-b-preserved
loop-b-preserved g c =
    let l = c.loop-b in
    let a = c.args in
    let s = a.registers.now in
    let d = a.words.now in
    let n : ℕ = a.blocks * 2 in
    let k : ℕ = l.b * 2 in
    let f : ℕ → ℕ = line_word s g.row.WIDTH in
    let left = c.block_word in
    let right = c.block_word-in-loop-b in
    let one = tabulate-turn n f d l.words k left.result (omega arith) (omega arith) l.invariant
    (left.ensures ∙ line_word-left s g.row.WIDTH l.b) in
    let two = tabulate-turn n f d _ (k + 1) right.result (omega arith) (omega arith) one
    (right.ensures ∙ line_word-right s g.row.WIDTH l.b) in
    let e : k + 1 + 1 ≡ (l.b + 1) * 2 = omega arith in
    two ∙ ap (λ (m : ℕ). over (take m (tabulate n f)) d) e

pub returns : goal.returns
returns g c =
    let l = c.loop-b in
    let a = c.args in
    let f : ℕ → ℕ = line_word a.registers.now g.row.WIDTH in
    over_done (tabulate (a.blocks * 2) f) a.words.now l.words (l.b * 2)
    (omega (arith, length-tabulate (a.blocks * 2) f)) l.invariant
