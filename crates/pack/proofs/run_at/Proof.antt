-- `pack::run_at` meets its contract, by where the bytes of the run end.
use Prim.Native.Nat.{◌+◌}
use native.Mathlib.Omega.{arith}
use lib.ListN.{get_or}
use Rattle.pack.proofs.Runs.{end_same, end-other, run_ends}
use borrow.Author.Rules.{rules}
use Rattle.pack.proofs.run_at.Statement.{statement}
use Rattle.pack.proofs.run_at.Tie as tie

returns : tie.Need-returns-then-row-at
returns c =
    let s = c.before.before.before.before in
    omega (arith, c.end_by_bytes.ensures, run_ends s.args.row.now s.args.at s.requires.0)

returns-2 : tie.Need-returns-then-row-at-2
returns-2 c =
    let s = c.before.before.before.before.before in
    let row = s.args.row.now in
    let at = s.args.at in
    let e = end-other (get_or row at 0) row (at + 1) (omega arith) c.if-row-at-2.true in
    omega (arith, e, run_ends row at s.requires.0)

returns-3 : tie.Need-returns-then-row-at-3
returns-3 c =
    let s = c.before.before.before.before.before.before.before in
    let row = s.args.row.now in
    let at = s.args.at in
    let x = get_or row at 0 in
    let e = end_same x row (at + 1) (at + 2) (omega arith) (omega arith) c.if-row-at-2.false in
    let f = end-other x row (at + 2) (omega arith) c.if-row-at-3.true in
    omega (arith, e, f, run_ends row at s.requires.0)

returns-4 : tie.Need-returns
returns-4 c =
    let s = c.before.before.before.before.before.before.before.before in
    let row = s.args.row.now in
    let at = s.args.at in
    let x = get_or row at 0 in
    let e = end_same x row (at + 1) (at + 2) (omega arith) (omega arith) c.if-row-at-2.false in
    let f = end_same x row (at + 2) (at + 3) (omega arith) (omega arith) c.if-row-at-3.false in
    omega (arith, c.end_by_words.ensures, e, f, run_ends row at s.requires.0)

pub run_at_spec : {M : Type 1} → statement M
run_at_spec =
    tie.close
    (tie.spec
    (λ c. search rules)
    (λ c. search rules)
    (λ c. search rules)
    (λ c κs. search rules)
    (λ c. omega (arith, c.end_by_bytes.ensures))
    returns
    (λ c. search rules)
    (λ c. search rules)
    returns-2
    (λ c. search rules)
    (λ c. search rules)
    returns-3
    (λ c. search rules)
    (λ c κs. search rules)
    (λ c. omega (arith, c.end_by_words.ensures))
    returns-4)
