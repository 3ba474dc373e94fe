-- `pack::runs_ahead` meets its contract: both ways give what is known.
use native.Mathlib.Omega.{arith}
use borrow.Author.Rules.{rules}
use Rattle.pack.proofs.Known.{known-answer, known-ahead}
use Rattle.pack.proofs.runs_ahead.Statement.{statement}
use Rattle.pack.proofs.runs_ahead.Tie as tie

returns : tie.Need-returns-then-row-i-gt-MASK_BYTES
returns c =
    let a = c.args in
    known-answer a.row.now a.i c.short_runs.result c.short_runs.ensures

masked-runs-requires : tie.Need-masked_runs-requires
masked-runs-requires c κs =
    let s = c.before.before in
    (s.requires.0, omega arith, s.requires.2 (omega arith))

returns-2 : tie.Need-returns
returns-2 c =
    let s = c.before.before.before in
    known-ahead s.args.row.now s.args.i c.masked_runs.result (omega (arith, s.requires.0))
    c.masked_runs.ensures

pub runs_ahead_spec : {M : Type 1} → statement M
runs_ahead_spec =
    tie.close
    (tie.spec
    (λ c. search rules)
    (λ c κs. search rules)
    returns
    masked-runs-requires
    returns-2)
