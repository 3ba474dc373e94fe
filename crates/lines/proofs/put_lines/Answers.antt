use Rattle.std.proofs.Common.{ℕ, ◌*◌, ◌<◌, ap, ◌∙◌, arith, rules}
use Rattle.resolution.specs.Shapes.{height_of}
use Rattle.lines.specs.Screens.{with_lines}
use Rattle.lines.proofs.Screens.{part-fits, with_lines-turn}
use Rattle.lines.proofs.put_lines.Goals as goal

pub loop-y-init : goal.loop-y-init
unfolding with_lines
loop-y-init c = search rules

pub put_line-requires-clause-registers_value : goal.put_line-requires-clause-registers_value
put_line-requires-clause-registers_value c =
    let l = c.loop-y in
    let a = c.args in
    let h : l.y < height_of a.r = omega arith in
    part-fits a.r a.registers.now l.y _ (ap (λ (m : ℕ). l.y * m) c.width-width.ensures) h c.requires.2

pub loop-y-preserved : goal.loop-y-preserved
loop-y-preserved c =
    let l = c.loop-y in
    let a = c.args in
    c.put_line.ensures
    ∙ with_lines-turn a.r a.registers.now l.y _ (ap (λ (m : ℕ). l.y * m) c.width-width.ensures) a.screen.now l.screen
    l.invariant
