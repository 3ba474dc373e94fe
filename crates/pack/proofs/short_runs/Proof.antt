-- `pack::short_runs` meets its contract. The loop keeps `ScanningOn`.
use Prim.Native.Nat.{◌+◌, ◌-◌, ◌≤◌}
use native.Mathlib.Omega.{arith}
use lib.ListN.{length}
use borrow.Author.Rules.{rules}
use Rattle.pack.specs.ShortRuns.{FourSingles}
use Rattle.pack.proofs.Runs.{run-bounds}
use Rattle.pack.proofs.ShortRuns.{ScanningOn, on-start, on-single, on-pair, on-long, on-four, on-end}
use Rattle.pack.proofs.short_runs.Statement.{statement}
use Rattle.pack.proofs.short_runs.Tie as tie

abbrev invariant-loop : tie.invariant-loop-at
invariant-loop row i single₀ at₀ single at = ScanningOn row i single at

abbrev decreases-loop : tie.decreases-loop-at
decreases-loop row i single₀ at₀ single at = length row - at

-- four single bytes
four : (c : tie.Then-four_singles invariant-loop decreases-loop)
    → FourSingles c.args.row.now c.loop-at.at
four c = c.four_singles.ensures c.if-four_singles.true

-- the run is within the row
bounds : (c : tie.After-run_at-n invariant-loop decreases-loop)
    → let row = c.args.row.now in
    (1 ≤ c.run_at-n.result) × (c.loop-at.at + c.run_at-n.result ≤ length row)
bounds c = run-bounds _ _ _ c.loop-at-test.true c.run_at-n.ensures

returns : tie.Need-returns-then-n-gt2 invariant-loop decreases-loop
returns c =
    let r = c.before in
    let t = r.before.before.before in
    on-long t.loop-at-test.true r.run_at-n.ensures t.loop-at.invariant (omega arith)

loop-again-2 : tie.Need-loop-at-preserved-then-n-eq1 invariant-loop decreases-loop
loop-again-2 c =
    let r = c.before.before in
    let t = r.before.before.before in
    on-single t.loop-at-test.true r.run_at-n.ensures t.loop-at.invariant c.if-n-eq1.true

loop-again-3 : tie.Need-loop-at-preserved invariant-loop decreases-loop
loop-again-3 c =
    let r = c.before.before in
    let t = r.before.before.before in
    on-pair t.loop-at-test.true r.run_at-n.ensures t.loop-at.invariant c.if-n-gt2.false c.if-n-eq1.false

pub short_runs_spec : {M : Type 1} → statement M
short_runs_spec =
    tie.close
    (tie.spec
    invariant-loop
    decreases-loop
    (λ c. on-start c.args.row.now c.args.i c.requires.0)
    (λ c κs. search rules)
    (λ c. omega (arith, (four c).inside, c.well_formed))
    (λ c. omega (arith, (four c).inside))
    (λ c. on-four (four c) c.loop-at.invariant)
    (λ c κs. search rules)
    returns
    (λ c. omega (arith, bounds c.before, c.well_formed))
    (λ c. omega (arith, bounds c.before.before))
    loop-again-2
    (λ c. omega (arith, bounds c.before.before))
    loop-again-3
    (λ c. on-end c.loop-at-test.false c.loop-at.invariant))
