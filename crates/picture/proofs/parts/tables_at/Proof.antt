-- `picture::parts::tables_at` meets its contract: after i turns the first i tables are the file's.
use borrow.Author.Rules.{rules}
use mathlib.Core.Path.{◌≡◌}
use Prim.Native.Nat.{◌+◌, ◌*◌, ◌-◌, ◌≤◌}
use native.Mathlib.Omega.{arith}
use lib.ListN.{length, take, length-set}
use Rattle.lists.specs.Over.{over}
use Rattle.lists.specs.Tabulate.{tabulate}
use Rattle.lists.proofs.Over.{tabulate-turn, tabulate-done}
use Rattle.words.specs.Word.{words_at}
use Rattle.picture.specs.Tables.{tables_at}
use Rattle.picture.proofs.parts.tables_at.Statement.{statement}
use Rattle.picture.proofs.parts.tables_at.Tie as tie

abbrev invariant-loop : tie.invariant-loop-i
invariant-loop file at start tables₀ i₀ tables i =
    (i ≤ 4) × (start ≡ at) × (length tables ≡ 4) × (length tables₀ ≡ 4)
    × (tables ≡ over (take i (tabulate 4 (λ k. words_at 4 file (start + k * 8)))) tables₀)

abbrev decreases-loop : tie.decreases-loop-i
decreases-loop file at start tables₀ i₀ tables i = 4 - i

loop-again : tie.Need-loop-i-preserved invariant-loop decreases-loop
loop-again c =
    let l = c.loop-i in
    let turn = tabulate-turn 4 _ _ _ l.i _ (omega arith) (omega arith) l.invariant.4 c.table_at.ensures in
    (search rules, l.invariant.1, simp length-set l.invariant.2, l.invariant.3, turn)

returns : tie.Need-returns invariant-loop decreases-loop
unfolding tables_at
returns c =
    let l = c.loop-i in
    rw (← l.invariant.1) (tabulate-done 4 _ _ _ l.i (omega arith) (omega arith) l.invariant.4)

pub tables_at_spec : {M : Type 1} → statement M
tables_at_spec =
    tie.close
    (tie.spec
    invariant-loop
    decreases-loop
    (λ c. search rules)
    (λ c. search rules)
    (λ c. search rules)
    (λ c κs. search rules)
    (λ c. search rules)
    (λ c. search rules)
    (λ c. search rules)
    (λ c. search rules)
    loop-again
    returns)
