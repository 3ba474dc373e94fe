use Rattle.std.proofs.Common.{rules, replicate, refl, arith}
use Rattle.lists.proofs.Over.{tabulate-turn, tabulate-done}
use Rattle.resolution.specs.declared.Resolution.TheVariants.{Low}
use Rattle.lines.specs.Registers.{register, scan_line}
use Rattle.lines.proofs.Registers.{register-lt, length-scan_line}
use Rattle.spectrum_positions.specs.Positions.{columns, position_of}
use Rattle.spectrum_positions.proofs.Positions.{position-below}
use Rattle.spectrum_colours.proofs.Colours.{line-registers, position-written}
use Rattle.spectrum_colours.proofs.line_positions.Goals as goal

pub loop-x-init : goal.loop-x-init
loop-x-init c =
    let a = c.args in
    let e = line-registers a.screen.now a.line (replicate columns 0) c.requires.0 c.requires.1 refl in
    (search rules, rw (c.line_out.ensures.out_after, c.number.ensures, e))

pub overflow_cast-positions : goal.overflow_cast-positions
overflow_cast-positions c =
    let l = c.loop-x in
    let a = c.args in
    let r = register a.screen.now Low l.x a.line in
    omega (
      arith,
      position-written a.screen.now a.line l.positions l.x c.position_at.result (omega arith) l.invariant.1
          c.position_at.ensures,
      position-below l.x r (register-lt a.screen.now Low l.x a.line),
    )

pub loop-x-preserved : goal.loop-x-preserved
loop-x-preserved c =
    let l = c.loop-x in
    let a = c.args in (
      search rules,
      tabulate-turn columns (λ x. position_of x (register a.screen.now Low x a.line))
          (scan_line a.screen.now Low a.line)
          l.positions l.x c.position_at.result (omega arith)
          (omega (arith, length-scan_line a.screen.now Low a.line))
          l.invariant.1
          (position-written a.screen.now a.line l.positions l.x c.position_at.result (omega arith) l.invariant.1
          c.position_at.ensures),
    )

pub returns : goal.returns
returns c =
    let l = c.loop-x in
    let a = c.args in
    tabulate-done columns (λ x. position_of x (register a.screen.now Low x a.line)) (scan_line a.screen.now Low a.line)
    l.positions l.x (omega arith) (omega (arith, length-scan_line a.screen.now Low a.line)) l.invariant.1
