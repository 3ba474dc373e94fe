use Rattle.std.proofs.Common.{◌≡◌, ℕ, ◌+◌, ◌*◌, ◌≤◌, ap, ap₂, sym, ◌∙◌, add-one, arith, rules}
use native.Mathlib.Nat.{mul-le-mul}
use lib.Bits.{bit_and}
use lib.Count.{ones}
use Rattle.lists.specs.Sum.{sum}
use Rattle.tally.specs.Blocks.{strip_register}
use Rattle.tally.specs.Counts.{line_counts}
use Rattle.tally.proofs.Blocks.{ones-plane}
use Rattle.tally.proofs.Counts.{line_counts-le}
use Rattle.tally.proofs.ones_apart.Goals as goal

pub loop-j-init : goal.loop-j-init
unfolding sum
loop-j-init g c = search rules

pub more-ones-requires : goal.more-ones-requires
more-ones-requires g c =
    let l = c.loop-j in
    let a = c.args in
    let f : ℕ → ℕ → ℕ = strip_register a.screen.now 1 a.strip a.part.pixels a.part.right in
    let n : l.j ≤ 4000 = omega arith in
    let m : a.part.pixels ≤ 64 = omega arith in
    omega (arith, l.invariant, line_counts-le f a.part.pixels l.j 1, mul-le-mul n m)

pub loop-j-preserved : goal.loop-j-preserved
unfolding sum
loop-j-preserved g c =
    let l = c.loop-j in
    let a = c.args in
    let s = a.screen.now in
    let p = a.part in
    let x : ℕ = c.plane_block.result in
    let f : ℕ → ℕ → ℕ = strip_register s 1 a.strip p.pixels p.right in
    let e = ap (λ (k : ℕ). l.j * k) c.requires.step in
    let at : a.strip.at + l.j * g.row.STEP ≡ a.strip.at + l.j * a.strip.step = omega (arith, e) in
    let added = ones-plane s (λ i. (c.type_inv.screen i).fits) (a.strip.at + l.j * a.strip.step) p.pixels p.right x (omega arith)
    (rw at at c.plane_block.ensures) in
    c.more-ones.ensures
    ∙ ap₂ (λ (m n : ℕ). m + n) l.invariant
    (ap (λ (w : ℕ). ones (bit_and x w)) c.swapped_digits-among.ensures ∙ added)
    ∙ ap (λ (n : ℕ). line_counts f p.pixels n 1) (sym (add-one l.j))
