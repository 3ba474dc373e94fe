use Rattle.std.proofs.Common.{◌≡◌, refl, sym, ap, ◌∙◌, ℕ, List, ◌*◌, arith}
use native.Mathlib.Nat.{zero-mul}
use Rattle.lists.specs.Over.{over}
use Rattle.raster.specs.PlaneRows.{put_rows}
use Rattle.raster.specs.Spaced.{row_tails}
use Rattle.raster.proofs.PutRows.{put_all}
use Rattle.raster.proofs.Spaced.{image-spaced}
use Rattle.raster.proofs.putting.Spacing.put_each.Goals as goal

pub loop-y-init : goal.loop-y-init
unfolding put_rows
loop-y-init c =
    let s = c.args.self in (
      refl,
      sym (ap (λ (k : ℕ). put_rows s.raster k (row_tails s.raster s.step s.gap c.args.rows.now) c.args.area.now)
          (zero-mul s.raster.planes)),
    )

pub returns : goal.returns
returns c =
    let l = c.loop-y in
    let s = c.args.self in
    let area : List ℕ = c.args.area.now in
    let last : l.y ≡ s.raster.lines = omega arith in
    let tails : List (List ℕ) = row_tails s.raster s.step s.gap c.args.rows.now in
    l.invariant.1
    ∙ ap (λ (y : ℕ). put_rows s.raster (y * s.raster.planes) tails area) last
    ∙ put_all s.raster tails area (omega arith)
    ∙ ap (λ (image : List ℕ). over image area) (image-spaced s.raster s.step s.gap c.args.rows.now)
