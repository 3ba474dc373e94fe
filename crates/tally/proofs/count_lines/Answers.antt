use Rattle.std.proofs.Common.{◌≡◌, ◌∙◌, ℕ, ◌+◌, ◌*◌, ◌/◌, List, replicate, arith}
use Rattle.lists.specs.Bytes.{Bytes}
use Rattle.resolution.specs.declared.Resolution.{Resolution}
use Rattle.resolution.specs.Shapes.{width_of, planes_of, line_bytes_of}
use Rattle.tally.specs.declared.Rectangle.{Rectangle}
use Rattle.tally.specs.Blocks.{blocks_register}
use Rattle.tally.specs.Counts.{counts, counted_lines}
use Rattle.tally.proofs.Blocks.{lines-counted, run-counted}
use Rattle.tally.proofs.count_lines.Goals as goal

-- the shape's numbers, as the code has them
module _ (s : List ℕ) (r : Resolution) (a : Rectangle) (bytes : Bytes s) (planes size : ℕ) (p : planes ≡ planes_of r)
    (b : size ≡ line_bytes_of r) where
  run : (width : ℕ) → width ≡ width_of r → a.left ≡ 0 → a.columns ≡ width_of r
      → counted_lines (replicate 16 0)
      (λ j i. blocks_register s (a.top * size + j * (planes * 8)) planes (0 + i)) 64 (a.lines * (width / 64))
      ≡ counts s r a
  run width w left all = rw (p, b, w) (run-counted s r a bytes left all)

  lines : (step : ℕ) → step ≡ line_bytes_of r
      → counted_lines (replicate 16 0) (λ j i. blocks_register s (a.top * size + j * step) planes (a.left + i)) a.columns a.lines
      ≡ counts s r a
  lines step e = rw (p, b, e) (lines-counted s r a bytes)

pub returns-then-rectangle-width : goal.returns-then-rectangle-width
returns-then-rectangle-width g c =
    let a = c.args in
    let t = a.rectangle in
    let all : t.columns ≡ width_of a.r = c.if-rectangle-width.true ∙ c.width-width.ensures in
    let left : t.left ≡ 0 = omega arith in
    c.count_columns.ensures
    ∙ run a.screen.now a.r t (λ i. (c.type_inv.screen i).fits) g.row.PLANES _ c.requires.planes c.line_bytes.ensures
    _ c.width-width.ensures left all

pub returns : goal.returns
returns g c =
    let a = c.args in
    c.count_columns-2.ensures
    ∙ lines a.screen.now a.r a.rectangle (λ i. (c.type_inv.screen i).fits) g.row.PLANES _ c.requires.planes
    c.line_bytes.ensures _ c.line_bytes-2.ensures
