-- `picture::parts::put_table` meets its contract by that of `put_words`.
use mathlib.Core.Path.{◌≡◌, ap, ◌∙◌}
use mathlib.Core.List.{List}
use Prim.Native.Nat.{ℕ}
use native.Mathlib.Omega.{arith}
use lib.ListN.{length}
use Rattle.lists.specs.Over.{over}
use Rattle.words.specs.Word.{words_bytes}
use Rattle.words.proofs.Word.{length-words_bytes, words-room}
use borrow.Author.Rules.{rules}
use Rattle.picture.proofs.parts.put_table.Statement.{statement}
use Rattle.picture.proofs.parts.put_table.Tie as tie

returns : tie.Need-returns
returns c =
    let a = c.args in
    let n : length a.table ≡ 4 = search rules in (
      c.put_words.ensures
          ∙ ap (λ (ws : List ℕ). over (words_bytes ws) a.out.now) (words-room a.table a.out.now (omega arith)),
      omega (arith, length-words_bytes a.table),
    )

pub put_table_spec : {M : Type 1} → statement M
put_table_spec =
    tie.close (tie.spec
    (λ c. search rules)
    (λ c κs. search rules)
    (λ c. search rules)
    returns)
