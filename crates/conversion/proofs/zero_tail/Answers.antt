-- `conversion::zero_tail` meets its contract: the walk over the tail's bytes is the test of the first 32.
use Rattle.std.proofs.Common.{◌≡◌, ℕ, ◌<◌, Bool, true, false, List, length, get_or, MatchBool, ◌∙◌, sym, ap, refl, eqb, rules, arith}
use Rattle.std.specs.List.{HoldsAt, AllWithin}
use borrow.Author.Tests.{tests}
use Rattle.std.proofs.lemmas.Iterator.{cases_from_all, YieldsList-from_slice}
use Rattle.lists.specs.All.{all_first, all_below}
use Rattle.lists.proofs.All.{all_below-each, each-all_below}
use Rattle.conversion.proofs.zero_tail.Goals as goal

-- what a walk over a list answers is the test of its elements
walked : (test : ℕ → Bool) (s : List ℕ) (r : Bool)
    → MatchBool r (AllWithin (λ v. test v ≡ true) s 0 (length s))
    ((k : ℕ) × (k < length s) × HoldsAt (λ v. test v ≡ false) s k)
    → r ≡ all_first (length s) test s
walked test s true all = sym (each-all_below (λ k. test (get_or s k 0)) (length s) (λ k h. all k 0 (omega arith) h))
walked test s false w = go (all_below (length s) (λ k. test (get_or s k 0))) refl
  where
    go : (b : Bool) → all_below (length s) (λ k. test (get_or s k 0)) ≡ b → false ≡ b
    go false e = refl
    go true e =
        let yes = all_below-each (λ k. test (get_or s k 0)) (length s) e w.0 w.1 in
        let no = w.2 0 in
        cc

pub returns-then-picture : goal.returns-then-picture
returns-then-picture c =
    let test = λ (v : ℕ). eqb v 0 in
    let bytes = c.tail_bytes.result in
    let n : length bytes ≡ 32 = search rules in
    let walk =
    walked test bytes c.all.result
    (cases_from_all _ _ _ (λ v. test v ≡ true) (λ v. test v ≡ false) c.all.ensures.ran
    (YieldsList-from_slice bytes cc) (λ x q k. search (rules, tests)) (λ x q k. search (rules, tests))) in
    rw c.if-picture.true (rw n at walk ∙ ap (all_first 32 test) c.tail_bytes.ensures)
