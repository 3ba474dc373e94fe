use Rattle.std.proofs.Common.{◌≡◌, sym, ap, ap₂, ◌∙◌, ℕ, List, ◌++◌, length, take, drop}
use lib.Seq.{length-take-le}
use Rattle.raster.specs.Shape.{bytes}
use Rattle.raster.specs.Spaced.{spaced_image}
use Rattle.raster.proofs.Spaced.{one-spaced}
use Rattle.raster.proofs.putting.Spacing.put_all.Goals as goal

-- one plane: the rows as they stand
pub returns-then-self-eq1 : goal.returns-then-self-eq1
returns-then-self-eq1 c =
    let s = c.args.self in
    let rows : List ℕ = c.args.rows.now in
    let n : c.bytes-n.result ≡ bytes s.raster = c.bytes-n.ensures.value in
    let image : take (bytes s.raster) rows ≡ spaced_image s.raster s.step s.gap rows =
    one-spaced s.raster s.step s.gap rows s.even c.if-self-eq1.true c.requires.1 in
    let size : c.bytes-n.result ≡ length (spaced_image s.raster s.step s.gap rows) =
    n ∙ sym (length-take-le (bytes s.raster) rows c.requires.1) ∙ ap length image in
    ap₂ (λ (l : List ℕ) (k : ℕ). l ++ drop k c.args.area.now)
    (c.copy_from_slice.ensures.after ∙ ap (λ (k : ℕ). take k rows) n ∙ image) size
