use Rattle.std.proofs.Common.{◌≡◌, ℕ, ◌<◌, ◌≤◌, ◌+◌, ◌-◌, ◌*◌, ◌/◌, ◌%◌, List, length, get_or, replicate, refl, ap, ◌∙◌, add_assoc, arith}
use native.Mathlib.Nat.{le_refl, le_trans, mul-le-mul}
use Rattle.lists.specs.Tabulate.{tabulate}
use Rattle.lists.proofs.Tabulate.{tabulate-le}
use Rattle.tally.specs.Blocks.{block_at, part_register, blocks_register}
use Rattle.tally.specs.Counts.{most_pixels}
use Rattle.tally.proofs.Blocks.{block-pixel}
use Rattle.tally.proofs.Counts.{counted_lines-empty, counted_lines-join, counted_lines-le, length-counted_lines}
use Rattle.tally.proofs.count_columns.Goals as goal

-- the register of column i of line j
abbrev pixels : List ℕ → ℕ → ℕ → ℕ → ℕ → ℕ → ℕ → ℕ
pixels s start planes step left j i = blocks_register s (start + j * step) planes (left + i)

-- pixel k of the block of column i, in line j
pixel : (s : List ℕ) (start planes step left i m j k : ℕ) → (left + i) % 64 + m ≤ 64 → k < m
    → part_register (block_at s (start + (left + i) / 64 * (planes * 8) + j * step) planes) m (64 - (left + i) % 64 - m) k
    ≡ pixels s start planes step left j (i + k)
pixel s start planes step left i m j k h l =
    let x : ℕ = left + i in
    let b : ℕ = x / 64 * (planes * 8) in
    let e : start + b + j * step ≡ start + j * step + b = omega arith in
    ap (λ (o : ℕ). part_register (block_at s o planes) m (64 - x % 64 - m) k) e
    ∙ block-pixel s (start + j * step) planes x m k h l
    ∙ ap (λ (o : ℕ). blocks_register s (start + j * step) planes o) (add_assoc left i k)

zeros : (v : ℕ) → get_or (replicate 16 0) v 0 ≤ 0
unfolding tabulate
zeros = tabulate-le 16 (λ v. 0) 0 (λ v. omega arith)

pub loop-i-init : goal.loop-i-init
loop-i-init g c =
    let a = c.args in
    let f = pixels a.screen.now a.lines.at g.row.PLANES a.lines.step a.left in
    (omega arith, counted_lines-empty (replicate 16 0) f a.lines.blocks refl)

pub count_column-requires-clause-counts_to : goal.count_column-requires-clause-counts_to
count_column-requires-clause-counts_to g c =
    let l = c.loop-i in
    let a = c.args in
    let n = a.lines.blocks in
    let f = pixels a.screen.now a.lines.at g.row.PLANES a.lines.step a.left in
    let few : n * l.i ≤ most_pixels = le_trans (mul-le-mul (le_refl n) l.invariant.0) c.requires.few.1 in
    record {
      each = λ v. rw l.invariant.1 (omega (arith, few, counted_lines-le (replicate 16 0) f l.i n 0 zeros v));
      all = ap length l.invariant.1 ∙ length-counted_lines (replicate 16 0) f l.i n;
    }

pub loop-i-preserved : goal.loop-i-preserved
loop-i-preserved g c =
    let l = c.loop-i in
    let a = c.args in
    let b = a.lines in
    let s = a.screen.now in
    let m : ℕ = c.min-pixels.result in
    let x : ℕ = a.left + l.i in
    let planes = g.row.PLANES in
    let f = pixels s b.at planes b.step a.left in
    let at : ℕ = b.at + x / 64 * (planes * 8) in
    let part : ℕ → ℕ → ℕ = λ j. part_register (block_at s (at + j * b.step) planes) m (64 - x % 64 - m) in (
      omega arith,
      counted_lines-join (replicate 16 0) l.sums _ f part l.i m b.blocks l.invariant.1 c.count_column.ensures
          (λ j k h e. pixel s b.at planes b.step a.left l.i m j k (omega arith) e),
    )
