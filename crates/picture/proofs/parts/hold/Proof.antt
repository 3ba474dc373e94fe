-- `picture::parts::hold` meets its contract: each table is the one of its place.
use Rattle.lists.specs.Tabulate.{tabulate}
use Rattle.picture.specs.Tables.{held}
use borrow.Author.Rules.{rules}
use Rattle.picture.proofs.parts.hold.Statement.{statement}
use Rattle.picture.proofs.parts.hold.Tie as tie

returns : tie.Need-returns
unfolding held tabulate
returns c = search rules

pub hold_spec : {M : Type 1} → statement M
hold_spec =
    tie.close
    (tie.spec
    (λ c. search rules)
    (λ c. search rules)
    (λ c. search rules)
    (λ c. search rules)
    returns)
