use Rattle.std.proofs.Common.{ℕ, ◌*◌, ◌≤◌, length, ap, ◌∙◌, arith}
use native.Mathlib.Nat.{mul-le-mul}
use Rattle.tally.specs.Blocks.{strip_register}
use Rattle.tally.specs.Counts.{most_pixels}
use Rattle.tally.proofs.Counts.{counted_lines-none, counted_lines-turn, counted_lines-le, length-counted_lines}
use Rattle.tally.proofs.count_column.Goals as goal

pub loop-j-init : goal.loop-j-init
loop-j-init g c =
    let a = c.args in
    counted_lines-none a.counts.now (strip_register a.screen.now g.row.PLANES a.strip a.part.pixels a.part.right) a.part.pixels
    c.requires.counts_to.all

pub count_part-requires-clause-counts_to : goal.count_part-requires-clause-counts_to
count_part-requires-clause-counts_to g c =
    let l = c.loop-j in
    let a = c.args in
    let m = a.part.pixels in
    let f : ℕ → ℕ → ℕ = strip_register a.screen.now g.row.PLANES a.strip m a.part.right in
    let j : l.j ≤ 4000 = omega arith in
    let w : m ≤ 64 = omega arith in
    let most : l.j * m ≤ most_pixels = mul-le-mul j w in
    let p = c.requires.counts_to in
    record {
      each = λ v.
          rw l.invariant
          (omega (arith, most, counted_lines-le a.counts.now f m l.j most_pixels p.each v));
      all = ap length l.invariant ∙ length-counted_lines a.counts.now f m l.j;
    }

pub loop-j-preserved : goal.loop-j-preserved
loop-j-preserved g c =
    let l = c.loop-j in
    let a = c.args in
    let f : ℕ → ℕ → ℕ = strip_register a.screen.now g.row.PLANES a.strip a.part.pixels a.part.right in
    counted_lines-turn a.counts.now l.counts _ f a.part.pixels l.j l.invariant c.count_part.ensures
