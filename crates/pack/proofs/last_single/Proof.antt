-- `pack::last_single` meets its contract: what is below a digit is a remainder.
use Prim.Native.Nat.{ℕ, ◌-◌, ◌*◌, ◌%◌, ◌^◌}
use native.Mathlib.Omega.{arith}
use mathlib.Core.Path.{ap, ◌∙◌}
use lib.Bits.{bit_and, bit_or, and_le_r, and_mask}
use lib.Count.{count_leading_zeros, leading_le}
use lib.Pow.{pow_pos}
use Rattle.pack.proofs.Masks.{one_shifted}
use borrow.Author.Rules.{rules}
use Rattle.pack.proofs.last_single.Statement.{statement}
use Rattle.pack.proofs.last_single.Tie as tie

sub_low : tie.Need-overflow_sub-low
sub_low c = omega (arith, one_shifted c.args.n c.requires.1, pow_pos c.args.n)

-- the digits of those without an equal neighbour, where k is the digit at the place n
abbrev among : ℕ → ℕ → ℕ
among m k = k - 1 - bit_and (bit_or m (m * 2)) (k - 1)

sub-result : tie.Need-overflow_sub-result
sub-result c = and_le_r (bit_or c.args.equal (c.args.equal * 2)) (1 * 2 ^ c.args.n % 2 ^ 64 - 1)

cast-result : tie.Need-overflow_cast-result
cast-result c = omega (arith, leading_le 64 (among c.args.equal (1 * 2 ^ c.args.n % 2 ^ 64)))

sub-result-2 : tie.Need-overflow_sub-result-2
sub-result-2 c = leading_le 64 (among c.args.equal (1 * 2 ^ c.args.n % 2 ^ 64))

returns : tie.Need-returns
returns c =
    let m = c.args.equal in
    let n = c.args.n in
    ap (λ (k : ℕ). 64 - count_leading_zeros 64 (among m k)) (one_shifted n c.requires.1)
    ∙ ap (λ (k : ℕ). 64 - count_leading_zeros 64 (2 ^ n - 1 - k)) (and_mask (bit_or m (m * 2)) n)

pub last_single_spec : {M : Type 1} → statement M
last_single_spec =
    tie.close
    (tie.spec
    (λ c. search rules)
    (λ c. search rules)
    sub_low
    sub-result
    cast-result
    sub-result-2
    returns)
