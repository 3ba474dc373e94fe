use Rattle.std.proofs.Common.{rules, ◌+◌, ℕ, get_or, refl, arith}
use Rattle.lists.specs.Tabulate.{tabulate}
use Rattle.lists.proofs.Over.{tabulate-turn, over_done}
use Rattle.lists.proofs.Tabulate.{length-tabulate}
use Rattle.spectrum_positions.specs.Positions.{columns}
use Rattle.spectrum_colours.proofs.put_words.Goals as goal

pub overflow_add-out : goal.overflow_add-out
overflow_add-out c = omega (arith, c.requires.3 c.loop-x.x)

pub bounds-palettes-first : goal.bounds-palettes-first
bounds-palettes-first c = omega (arith, c.requires.3 c.loop-x.x)

pub loop-x-preserved : goal.loop-x-preserved
loop-x-preserved c =
    let l = c.loop-x in
    let a = c.args in (
      search rules,
      tabulate-turn columns (λ x. get_or a.palettes.now (a.first + get_or a.positions.now x 0) 0) a.out.now l.out l.x _
          (omega arith)
          (omega arith)
          l.invariant.1
          refl,
    )

pub returns : goal.returns
returns c =
    let l = c.loop-x in
    let a = c.args in
    let f = λ (x : ℕ). get_or a.palettes.now (a.first + get_or a.positions.now x 0) 0 in
    over_done (tabulate columns f) a.out.now l.out l.x (omega (arith, length-tabulate columns f)) l.invariant.1
