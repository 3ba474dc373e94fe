use Rattle.std.proofs.Common.{◌≡◌, sym, ap, ◌∙◌, ℕ, List, ◌+◌, ◌*◌, arith}
use Rattle.lists.proofs.Parts.{tail-part}
use Rattle.raster.specs.PlaneRows.{put_rows}
use Rattle.raster.specs.Spaced.{row_tails}
use Rattle.raster.proofs.Places.{row_is}
use Rattle.raster.proofs.Spaced.{row_inside, start-digits, tails-turn}
use Rattle.raster.proofs.putting.Spacing.put_line.Goals as goal

pub overflow_mul-at : goal.overflow_mul-at
overflow_mul-at c =
    let s = c.args.self in
    omega (arith, row_inside s.raster s.step s.gap c.args.y c.loop-p.p s.even c.requires.line (omega arith))

pub overflow_mul-at-in-loop-p : goal.overflow_mul-at-in-loop-p
overflow_mul-at-in-loop-p c =
    let s = c.args.self in
    omega (arith, row_inside s.raster s.step s.gap c.args.y c.loop-p.p s.even c.requires.line (omega arith))

pub loop-p-preserved : goal.loop-p-preserved
loop-p-preserved c =
    let l = c.loop-p in
    let s = c.args.self in
    let r = s.raster in
    let y : ℕ = c.args.y in
    let rows : List ℕ = c.args.rows.now in
    let at : ℕ = y * s.step + l.p * s.gap in
    let n : ℕ = y * r.planes + l.p in
    let next : n + 1 ≡ y * r.planes + (l.p + 1) = omega arith in (
      c.store_row.auto.area ∙ l.invariant.0,
      λ area₀ e.
          c.store_row.ensures
          ∙ tails-turn r s.step s.gap rows area₀ l.area n at _ (row_is r y l.p c.requires.line (omega arith))
          (sym (start-digits r.planes s.step s.gap y l.p (omega arith))) (l.invariant.1 area₀ e) (tail-part rows at)
          ∙ ap (λ (k : ℕ). put_rows r k (row_tails r s.step s.gap rows) area₀) next,
    )
