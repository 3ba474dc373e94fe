-- `picture::parts::put_tables` meets its contract: after i turns the first i tables stand at the front.
use mathlib.Core.Path.{◌≡◌, refl, ap, ◌∙◌}
use mathlib.Core.List.{List, [], flatten}
use Prim.Native.Nat.{ℕ, ◌*◌, ◌-◌, ◌≤◌, ◌<◌}
use native.Mathlib.Omega.{arith}
use lib.ListN.{length, take}
use lib.Seq.{take_all}
use Rattle.lists.specs.Over.{over}
use Rattle.words.specs.Word.{words_bytes}
use Rattle.picture.specs.Tables.{tables_bytes}
use Rattle.lists.proofs.Flatten.{length-flatten-take, flatten-turn}
use borrow.Author.Rules.{rules}
use Rattle.picture.proofs.parts.put_tables.Statement.{statement}
use Rattle.picture.proofs.parts.put_tables.Tie as tie

abbrev invariant-loop : tie.invariant-loop-i
invariant-loop out₀ tables i₀ out i =
    (i ≤ 4) × (length out ≡ length out₀) × (length (tables_bytes (take i tables)) ≡ i * 8)
    × (out ≡ over (tables_bytes (take i tables)) out₀)

abbrev decreases-loop : tie.decreases-loop-i
decreases-loop out₀ tables i₀ out i = 4 - i

loop-holds : tie.Need-loop-i-init invariant-loop decreases-loop
unfolding tables_bytes flatten
loop-holds c = (omega arith, refl, refl, refl)

loop-again : tie.Need-loop-i-preserved invariant-loop decreases-loop
unfolding tables_bytes
loop-again c =
    let l = c.loop-i in
    let a = c.args in
    let e = c.put_table.ensures in
    let h : l.i < length a.tables = omega arith in (
      omega arith,
      search rules,
      length-flatten-take words_bytes a.tables [] l.i h ∙ omega (arith, l.invariant.2, e.1),
      flatten-turn words_bytes a.tables [] l.i h a.out.now l.out _ (l.i * 8) l.invariant.3 l.invariant.2 e.0,
    )

returns : tie.Need-returns invariant-loop decreases-loop
returns c =
    let l = c.loop-i in
    let a = c.args in
    let all : take l.i a.tables ≡ a.tables = take_all l.i a.tables (omega arith) in (
      l.invariant.3 ∙ ap (λ (ts : List (List ℕ)). over (tables_bytes ts) a.out.now) all,
      omega (arith, ap (λ (ts : List (List ℕ)). length (tables_bytes ts)) all, l.invariant.2),
    )

pub put_tables_spec : {M : Type 1} → statement M
put_tables_spec =
    tie.close
    (tie.spec
    invariant-loop
    decreases-loop
    loop-holds
    (λ c. search rules)
    (λ c. search rules)
    (λ c. search rules)
    (λ c. search rules)
    (λ c. search rules)
    (λ c. search rules)
    (λ c κs. search rules)
    (λ c. search rules)
    (λ c. search rules)
    loop-again
    (λ c. search rules)
    returns)
