-- `picture::without_tail` meets its contract.
use borrow.Author.Rules.{rules}
use Rattle.picture.proofs.without_tail.Statement.{statement}
use Rattle.picture.proofs.without_tail.Tie as tie

pub without_tail_spec : {M : Type 1} → statement M
without_tail_spec = tie.close (tie.spec
    (λ c κs. search rules)
    (λ c. simp c.hold-tail.ensures))
