use Rattle.std.proofs.Common.{ap, ap₂, ◌∙◌, ℕ, List, cond, ◌&&◌, length, leb}
use Rattle.lists.specs.Over.{over}
use Rattle.raster.specs.Shape.{bytes}
use Rattle.raster.specs.Spaced.{put_spaced}
use Rattle.raster.proofs.Spaced.{joined-spaced, spaced-joined}
use Rattle.raster.proofs.put_rows.Goals as goal

pub invariant_of-spacing : goal.invariant_of-spacing
invariant_of-spacing c =
    record { even = rw (c.line_bytes.ensures.value, c.row_bytes.ensures.value) (joined-spaced c.args.r) }

pub returns : goal.returns
returns c =
    let r = c.args.r in
    let area : List ℕ = c.args.area.now in
    let rows : List ℕ = c.args.rows.now in
    c.put.ensures
    ∙ ap₂ (λ (step gap : ℕ). put_spaced r step gap rows area) c.line_bytes.ensures.value c.row_bytes.ensures.value
    ∙ ap (λ (image : List ℕ). cond (leb (bytes r) (length area) && leb (bytes r) (length rows)) (over image area) area)
    (spaced-joined r rows)
