use Rattle.std.proofs.Common.{ap, ◌∙◌, ℕ, List, ◌*◌, cond, ◌&&◌, length, leb}
use Rattle.lists.specs.Over.{over}
use Rattle.raster.specs.Shape.{bytes}
use Rattle.raster.specs.Spaced.{put_spaced}
use Rattle.planar.proofs.Planar.{planar-spaced, spaced-planar}
use Rattle.planar.proofs.put_planes.Goals as goal

pub invariant_of-spacing : goal.invariant_of-spacing
invariant_of-spacing c = record { even = rw c.row_bytes-width.ensures.value (planar-spaced c.args.r) }

pub returns : goal.returns
returns c =
    let r = c.args.r in
    let area : List ℕ = c.args.area.now in
    let planes : List ℕ = c.args.planes.now in
    c.put.ensures
    ∙ ap (λ (w : ℕ). put_spaced r w (r.lines * w) planes area) c.row_bytes-width.ensures.value
    ∙ ap (λ (image : List ℕ). cond (leb (bytes r) (length area) && leb (bytes r) (length planes)) (over image area) area)
    (spaced-planar r planes)
