-- `picture::parts::tail_at` meets its contract by its callees'.
use borrow.Author.Rules.{rules}
use Rattle.picture.proofs.parts.tail_at.Statement.{statement}
use Rattle.picture.proofs.parts.tail_at.Tie as tie

pub tail_at_spec : {M : Type 1} → statement M
tail_at_spec =
    tie.close
    (tie.spec
    (λ c κs. search rules)
    (λ c κs. search rules)
    (λ c. simp (c.hold.ensures, c.tables_at.ensures)))
