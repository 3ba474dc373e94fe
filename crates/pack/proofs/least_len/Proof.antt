-- `pack::least_len` meets its contract. Each return rewrites by the test that led to it.
use borrow.Author.Rules.{rules}
use native.Mathlib.Omega.{arith}
use lib.ListN.{length}
use borrow.Author.Tests.{le-leb, lt-leb}
use Rattle.pack.proofs.least_len.Statement.{statement}
use Rattle.pack.proofs.least_len.Tie as tie

returns : tie.Need-returns-then-row-gt-MAX_WIDTH
returns c = simp (lt-leb (length c.args.row.now) 128 (omega arith))

returns-2 : tie.Need-returns
returns-2 c =
    simp (le-leb (length c.args.row.now) 128 (omega arith)) c.body_len.ensures

pub least_len_spec : {M : Type 1} → statement M
least_len_spec = tie.close (tie.spec
    returns
    (λ c κs. search rules)
    returns-2)
