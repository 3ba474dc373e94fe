-- `picture::parts::tables_of` meets its contract: each table is the one of its place.
use Rattle.lists.specs.Tabulate.{tabulate}
use Rattle.picture.specs.Tables.{tables_of}
use borrow.Author.Rules.{rules}
use Rattle.picture.proofs.parts.tables_of.Statement.{statement}
use Rattle.picture.proofs.parts.tables_of.Tie as tie

returns : tie.Need-returns
unfolding tables_of tabulate
returns c = search rules

pub tables_of_spec : {M : Type 1} → statement M
tables_of_spec =
    tie.close
    (tie.spec
    (λ c. search rules)
    (λ c. search rules)
    (λ c. search rules)
    (λ c. search rules)
    returns)
