use Rattle.std.proofs.Common.{ℕ, ◌+◌, ◌-◌, ◌*◌, ◌≤◌, refl, arith}
use native.Mathlib.Nat.{mul-le-mul, mul_comm}
use lib.Seq.{get_or-set_other}
use Rattle.tally.specs.Blocks.{strip_register}
use Rattle.tally.specs.Counts.{most_pixels}
use Rattle.tally.proofs.Blocks.{below-2}
use Rattle.tally.proofs.Counts.{line_counts-le, counted_lines-two}
use Rattle.tally.proofs.count_one.Goals as goal
use Rattle.tally.proofs.count_one.Goals.{After-ones_in-ones}

-- all pixels, and those with register 1
few : (c : After-ones_in-ones) → let a = c.args in
    (a.part.pixels * a.strip.blocks ≤ most_pixels) × (c.ones_in-ones.result ≤ a.part.pixels * a.strip.blocks)
few c =
    let a = c.args in
    let p = a.part in
    let n = a.strip.blocks in
    let f : ℕ → ℕ → ℕ = strip_register a.screen.now 1 a.strip p.pixels p.right in
    let m : p.pixels ≤ 64 = omega arith in
    let b : n ≤ 4000 = omega arith in
    (mul-le-mul m b, omega (arith, c.ones_in-ones.ensures, line_counts-le f p.pixels n 1, mul_comm p.pixels n))

pub overflow_sub-counts : goal.overflow_sub-counts
overflow_sub-counts c = (few (goal.at.overflow_sub-counts c).After-ones_in-ones).1

pub overflow_add-counts-2 : goal.overflow_add-counts-2
overflow_add-counts-2 c =
    let h = few (goal.at.overflow_add-counts-2 c).After-ones_in-ones in
    rw (get_or-set_other c.args.counts.now 0 1 _ 0 (λ e. omega arith))
    (omega (arith, h.0, h.1, c.requires.counts_to.each 1))

pub returns : goal.returns
returns c =
    let a = c.args in
    let s = a.screen.now in
    let p = a.part in
    let f : ℕ → ℕ → ℕ = strip_register s 1 a.strip p.pixels p.right in
    counted_lines-two f p.pixels a.strip.blocks
    (λ j k. below-2 s (a.strip.at + j * a.strip.step) (p.right + (p.pixels - 1 - k)))
    a.counts.now c.ones_in-ones.result _ _ c.requires.counts_to.all c.ones_in-ones.ensures refl refl
