-- `picture::parts::table_at` meets its contract: the four words are those of the rule.
use borrow.Author.Rules.{rules}
use native.Mathlib.Nat.{add-zero}
use Rattle.lists.specs.Tabulate.{tabulate}
use Rattle.words.specs.Word.{words_at}
use Rattle.picture.proofs.parts.table_at.Statement.{statement}
use Rattle.picture.proofs.parts.table_at.Tie as tie

returns : tie.Need-returns
unfolding words_at tabulate
returns c =
    let two = c.word_at-2.ensures in
    let one = c.word_at.ensures in
    simp (c.word_at-4.ensures, c.word_at-3.ensures, two, one, add-zero)

pub table_at_spec : {M : Type 1} → statement M
table_at_spec =
    tie.close
    (tie.spec
    (λ c κs. search rules)
    (λ c. search rules)
    (λ c κs. search rules)
    (λ c. search rules)
    (λ c κs. search rules)
    (λ c. search rules)
    (λ c κs. search rules)
    returns)
