-- `picture::parts::palette_at` meets its contract: after i turns the first i words are the file's.
use borrow.Author.Rules.{rules}
use mathlib.Core.Path.{◌≡◌}
use Prim.Native.Nat.{◌+◌, ◌*◌, ◌-◌, ◌≤◌}
use native.Mathlib.Omega.{arith}
use lib.ListN.{length, take, length-set}
use Rattle.lists.specs.Over.{over}
use Rattle.lists.specs.Tabulate.{tabulate}
use Rattle.lists.proofs.Over.{tabulate-turn, tabulate-done}
use Rattle.words.specs.Word.{word_at, words_at}
use Rattle.picture.proofs.parts.palette_at.Statement.{statement}
use Rattle.picture.proofs.parts.palette_at.Tie as tie

abbrev invariant-loop : tie.invariant-loop-i
invariant-loop file at start palette₀ i₀ palette i =
    (i ≤ 16) × (start ≡ at) × (length palette ≡ 16) × (length palette₀ ≡ 16)
    × (palette ≡ over (take i (tabulate 16 (λ k. word_at file (start + k * 2)))) palette₀)

abbrev decreases-loop : tie.decreases-loop-i
decreases-loop file at start palette₀ i₀ palette i = 16 - i

loop-again : tie.Need-loop-i-preserved invariant-loop decreases-loop
loop-again c =
    let l = c.loop-i in
    let turn = tabulate-turn 16 _ _ _ l.i _ (omega arith) (omega arith) l.invariant.4 c.word_at.ensures in
    (search rules, l.invariant.1, simp length-set l.invariant.2, l.invariant.3, turn)

returns : tie.Need-returns invariant-loop decreases-loop
unfolding words_at
returns c =
    let l = c.loop-i in
    rw (← l.invariant.1) (tabulate-done 16 _ _ _ l.i (omega arith) (omega arith) l.invariant.4)

pub palette_at_spec : {M : Type 1} → statement M
palette_at_spec =
    tie.close
    (tie.spec
    invariant-loop
    decreases-loop
    (λ c. search rules)
    (λ c. search rules)
    (λ c. search rules)
    (λ c κs. search rules)
    (λ c. search rules)
    (λ c. search rules)
    (λ c. search rules)
    (λ c. search rules)
    loop-again
    returns)
