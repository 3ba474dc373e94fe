use Rattle.std.proofs.Common.{sym, ap, ◌∙◌, ℕ, List, ◌-◌, ◌*◌, length, take, drop, arith, nat_eq}
use Rattle.lists.specs.Over.{over}
use Rattle.raster.specs.Joined.{interleaved_line, planes_of}
use Rattle.raster.proofs.InterleaveLines.{interleaved_lines, interleaving-turn, interleaving-done}
use Rattle.raster.proofs.Spaced.{interleaved-within, interleaved-spaced}
use Rattle.raster.proofs.putting.Spacing.interleave_lines.Goals as goal

pub interleave_line-requires-clause-eights_in_bounds : goal.interleave_line-requires-clause-eights_in_bounds
interleave_line-requires-clause-eights_in_bounds c =
    let s = c.args.self in
    interleaved-within s.raster c.requires.interleaved s.step s.gap _ s.even c.requires.in_bounds.1 c.loop-y.y
    (omega arith)

pub loop-y-preserved : goal.loop-y-preserved
loop-y-preserved c =
    let l = c.loop-y in
    let s = c.args.self in
    let line : ℕ = c.line_bytes-line.result in
    let at : ℕ = l.y * line in
    let e = c.interleave_line in (
      e.auto.half ∙ l.invariant.0,
      l.invariant.1,
      interleaving-turn l.invariant.2 (omega arith) _ e.auto.out
          (e.ensures
          ∙ ap (λ (n : ℕ). over (interleaved_line c.args.rows.now (l.y * s.step)
          (planes_of (nat_eq s.raster.planes 4)) s.gap n) (take (length l.area - at) (drop at l.area)))
          (sym l.invariant.1)),
    )

pub returns : goal.returns
returns c =
    let l = c.loop-y in
    let s = c.args.self in
    let w = c.requires.interleaved in
    interleaving-done l.invariant.2 (omega arith)
    ∙ ap (λ (n : ℕ). over (interleaved_lines c.args.rows.now s.step s.raster.lines
    (planes_of (nat_eq s.raster.planes 4)) s.gap n) c.args.area.now) l.invariant.1
    ∙ ap (λ (image : List ℕ). over image c.args.area.now)
    (interleaved-spaced s.raster w s.step s.gap c.args.rows.now)
