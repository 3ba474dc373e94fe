-- `pack::masked_runs` meets its contract: `masked-end` and `masked-long`.
use Prim.Native.Nat.{◌+◌, ◌/◌, ◌^◌, ◌≤◌}
use native.Mathlib.Omega.{arith}
use lib.Count.{count_trailing_zeros, trailing_le}
use lib.Pow.{shr_le}
use borrow.Author.Rules.{rules}
use Rattle.pack.proofs.Masks.{triples, mask-few, masked-end, masked-few, masked-long}
use Rattle.pack.proofs.masked_runs.Statement.{statement}
use Rattle.pack.proofs.masked_runs.Tie as tie

last-single-requires : tie.Need-last_single-requires
last-single-requires c κs =
    let s = c.before.before in
    let m = mask-few s.args.row.now s.args.i s.args.equal s.requires.0 s.requires.1 s.requires.2 in
    (m, omega (arith, s.requires.1))

returns : tie.Need-returns-then-triples-eq0
returns c =
    let s = c.before.before.before in
    rw c.last_single.ensures
    (masked-end s.args.row.now s.args.i s.args.equal s.requires.0 s.requires.1 s.requires.2
    c.if-triples-eq0.true)

-- fewer bytes are short than a word has bits
few : (c : tie.Else-triples-eq0) → count_trailing_zeros 64 (triples c.args.equal) ≤ 63
few c =
    let s = c.before.before in
    masked-few s.args.row.now s.args.i s.args.equal s.requires.0 s.requires.1 s.requires.2 c.if-triples-eq0.false

last-single-requires-2 : tie.Need-last_single-requires-2
last-single-requires-2 c κs =
    let s = c.before.before in
    (mask-few s.args.row.now s.args.i s.args.equal s.requires.0 s.requires.1 s.requires.2, few c)

add-t17 : tie.Need-overflow_add-result-4
add-t17 c =
    let s = c.before.before.before in
    let m = s.args.equal in
    let b = mask-few s.args.row.now s.args.i m s.requires.0 s.requires.1 s.requires.2 in
    omega (arith, shr_le m (count_trailing_zeros 64 (triples m)), b)

cast-t18 : tie.Need-overflow_cast-result
cast-t18 c =
    let m = c.args.equal in
    omega (arith, trailing_le 64 (m / 2 ^ count_trailing_zeros 64 (triples m) + 1))

add-t19 : tie.Need-overflow_add-result-5
add-t19 c =
    let m = c.args.equal in
    omega (arith, trailing_le 64 (m / 2 ^ count_trailing_zeros 64 (triples m) + 1))

returns-2 : tie.Need-returns
returns-2 c =
    let s = c.before.before.before in
    rw c.last_single-2.ensures
    (masked-long s.args.row.now s.args.i s.args.equal s.requires.0 s.requires.1 s.requires.2
    c.if-triples-eq0.false)

pub masked_runs_spec : {M : Type 1} → statement M
masked_runs_spec =
    tie.close
    (tie.spec
    (λ c. search rules)
    last-single-requires
    (λ c. search rules)
    returns
    (λ c. omega (arith, trailing_le 64 (triples c.args.equal)))
    last-single-requires-2
    (λ c. search rules)
    (λ c. omega (arith, few c.before, c.well_formed))
    (λ c. omega (arith, few c.before))
    add-t17
    cast-t18
    add-t19
    returns-2)
