use Rattle.std.proofs.Common.{ℕ, ◌*◌, ◌<◌, ◌≤◌, ap, ◌∙◌, List, arith, rules}
use lib.Seq.{take_all}
use mathlib.Core.List.{map, flatten}
use Rattle.lists.specs.Over.{over}
use Rattle.lists.proofs.Tabulate.{length-tabulate}
use Rattle.resolution.specs.Shapes.{height_of}
use Rattle.lines.specs.Registers.{scan_line}
use Rattle.lines.specs.Screens.{line_numbers, screen_registers}
use Rattle.lines.proofs.Screens.{lines-turn}
use Rattle.lines.proofs.copy_lines.Goals as goal

pub loop-y-init : goal.loop-y-init
unfolding flatten
loop-y-init c = search rules

pub loop-y-preserved : goal.loop-y-preserved
loop-y-preserved c =
    let l = c.loop-y in
    let w = c.width-width in
    let a = c.args in
    let h : l.y < height_of a.r = omega arith in
    lines-turn a.screen.now a.r l.y (l.y * w.result) a.out.now l.out _ h
    (ap (λ (m : ℕ). l.y * m) w.ensures) l.invariant c.fill_line.ensures

pub returns : goal.returns
unfolding screen_registers
returns c =
    let l = c.loop-y in
    let a = c.args in
    let all : height_of a.r ≤ l.y = omega arith in
    let whole = take_all l.y (line_numbers a.r) (omega (arith, length-tabulate (height_of a.r) (λ y. y))) in
    l.invariant
    ∙ ap (λ (ys : List ℕ). over (flatten (map (scan_line a.screen.now a.r) ys)) a.out.now) whole
