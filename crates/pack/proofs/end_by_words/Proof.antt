-- `pack::end_by_words` meets its contract. The loop keeps where the bytes end.
use Prim.Native.Nat.{◌-◌, ◌≤◌}
use native.Mathlib.Omega.{arith}
use mathlib.Core.Path.{◌≡◌, refl, ◌∙◌}
use lib.Count.{trailing_le}
use lib.ListN.{length}
use Rattle.pack.specs.Runs.{end_of}
use Rattle.pack.proofs.Runs.{end-past, end-within}
use borrow.Author.Rules.{rules}
use Rattle.pack.proofs.end_by_words.Statement.{statement}
use Rattle.pack.proofs.end_by_words.Tie as tie

abbrev invariant-loop : tie.invariant-loop-n
invariant-loop row x from n₀ n = (n ≤ length row) × (end_of x row n ≡ end_of x row from)

abbrev decreases-loop : tie.decreases-loop-n
decreases-loop row x from n₀ n = length row - n

returns : tie.Need-returns-then-d-ne0 invariant-loop decreases-loop
returns c =
    let d = c.differing-d in
    let t = c.before.before.before.before.before.before.before.before.before.before in
    let l = t.loop-n in
    let a = t.args in
    end-within a.x a.row.now l.n t.loop-n-test.true d.result d.ensures c.if-d-ne0.true ∙ l.invariant.1

loop-again : tie.Need-loop-n-preserved invariant-loop decreases-loop
loop-again c =
    let d = c.differing-d in
    let t = c.before.before.before.before.before.before.before.before.before.before in
    let l = t.loop-n in
    let a = t.args in (
      t.loop-n-test.true,
      end-past a.x a.row.now l.n t.loop-n-test.true d.result d.ensures c.if-d-ne0.false ∙ l.invariant.1,
    )

pub end_by_words_spec : {M : Type 1} → statement M
end_by_words_spec =
    tie.close
    (tie.spec
    invariant-loop
    decreases-loop
    (λ c. (c.requires.0, refl))
    (λ c. search rules)
    (λ c. search rules)
    (λ c. search rules)
    (λ c. search rules)
    (λ c. search rules)
    (λ c. search rules)
    (λ c. search rules)
    (λ c. search rules)
    (λ c. search rules)
    (λ c. search rules)
    (λ c. search rules)
    (λ c. search rules)
    (λ c. search rules)
    (λ c. search rules)
    (λ c. search rules)
    (λ c. search rules)
    (λ c κs. search rules)
    (λ c. omega (arith, trailing_le 64 c.differing-d.result))
    (λ c. omega (arith, trailing_le 64 c.differing-d.result))
    returns
    (λ c. search rules)
    (λ c. search rules)
    loop-again
    (λ c κs. search rules)
    (λ c. c.end_by_bytes.ensures ∙ c.loop-n.invariant.1))
