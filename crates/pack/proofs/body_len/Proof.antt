-- `pack::body_len` meets its contract. The loop keeps `Counted`.
use Prim.Native.Nat.{◌+◌, ◌-◌, ◌≤◌}
use native.Mathlib.Omega.{arith}
use lib.ListN.{length}
use borrow.Author.Rules.{rules}
use Rattle.pack.proofs.Lengths.{Counted, counted_start, counted-more, counted-end}
use Rattle.pack.proofs.Runs.{run-bounds}
use Rattle.pack.proofs.body_len.Statement.{statement}
use Rattle.pack.proofs.body_len.Tie as tie

abbrev invariant-loop : tie.invariant-loop-at
invariant-loop row c₀ at₀ c at = Counted row at c

abbrev decreases-loop : tie.decreases-loop-at
decreases-loop row c₀ at₀ c at = length row - at

turned : (c : tie.After-count_run-c invariant-loop decreases-loop)
    → let row = c.args.row.now in
    let n = c.run_at-n.result in
    (1 ≤ n) × Counted row (c.loop-at.at + n) c.count_run-c.result
turned c =
    let row = c.args.row.now in
    let l = c.loop-at in
    let n = c.run_at-n.result in
    let h = c.loop-at-test.true in
    let e = c.run_at-n.ensures in
    ((run-bounds row l.at n h e).0, rw c.count_run-c.ensures (counted-more row l.at n l.c h e l.invariant))

pub body_len_spec : {M : Type 1} → statement M
body_len_spec =
    tie.close
    (tie.spec
    invariant-loop
    decreases-loop
    (λ c. counted_start _)
    (λ c κs. search rules)
    (λ c κs. search rules)
    (λ c. omega (arith, (turned c).1.within, c.requires))
    (λ c. omega (arith, (turned c).0, (turned c).1.within))
    (λ c. (turned c).1)
    (λ c. counted-end c.loop-at-test.false c.loop-at.invariant))
