use Rattle.std.proofs.Common.{ℕ, ◌+◌, ◌*◌, ◌/◌, ◌%◌, ap, ap₂, sym, ◌∙◌, take, arith}
use lib.Arith.{digits_div, digits_mod}
use Rattle.lists.specs.Over.{over}
use Rattle.lists.specs.Tabulate.{tabulate}
use Rattle.lists.proofs.Over.{over_done, tabulate-piece}
use Rattle.lists.proofs.Tabulate.{length-tabulate}
use Rattle.lines.specs.Columns.{group_register, groups_line}
use Rattle.lines.proofs.Pieces.{piece-next}
use Rattle.lines.proofs.copy_groups.Goals as goal

pub loop-g-preserved : goal.loop-g-preserved
unfolding groups_line
loop-g-preserved g c =
    let l = c.loop-g in
    let a = c.args in
    let s = a.screen.now in
    let at : ℕ → ℕ = λ i. a.start + i * (g.row.PLANES * 2) in
    let f : ℕ → ℕ = λ x. group_register s (at (x / 16)) g.row.PLANES (x % 16) in
    let w : ℕ → ℕ = group_register s (at l.g) g.row.PLANES in
    c.copy_group.ensures
    ∙ tabulate-piece (a.groups * 16) 16 f w a.out.now l.out (l.g * 16) (omega arith) l.invariant
    (λ j b.
    ap₂ (λ (i k : ℕ). group_register s (at i) g.row.PLANES k)
    (sym (digits_div l.g b))
    (sym (digits_mod l.g b)))
    ∙ ap (λ (n : ℕ). over (take n (tabulate (a.groups * 16) f)) a.out.now) (piece-next l.g 16)

pub returns : goal.returns
unfolding groups_line
returns g c =
    let l = c.loop-g in
    let a = c.args in
    let at : ℕ → ℕ = λ i. a.start + i * (g.row.PLANES * 2) in
    let f : ℕ → ℕ = λ x. group_register a.screen.now (at (x / 16)) g.row.PLANES (x % 16) in
    over_done (tabulate (a.groups * 16) f) a.out.now l.out (l.g * 16)
    (omega (arith, length-tabulate (a.groups * 16) f)) l.invariant
