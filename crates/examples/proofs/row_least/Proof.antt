-- `examples::row_least` meets its contract: `least_len-bound`.
use Rattle.pack.proofs.Pack.{least_len-bound}
use borrow.Author.Rules.{rules}
use Rattle.examples.proofs.row_least.Statement.{statement}
use Rattle.examples.proofs.row_least.Tie as tie

returns : tie.Need-returns
returns c = rw c.least_len.ensures (least_len-bound c.args.row.now)

pub row_least_spec : {M : Type 1} → statement M
row_least_spec = tie.close (tie.spec
    (λ c κs. search rules)
    returns)
