-- `pack::equal_next`: one byte more in front.
use mathlib.Core.Path.{◌≡◌, refl, sym, ap, ap₂, ◌∙◌}
use mathlib.Core.Bool.{Bool, true, false, cond}
use mir.Val.{bool_byte}
use Prim.Native.Nat.{ℕ, suc, ◌+◌, ◌-◌, ◌*◌, ◌<◌}
use native.Mathlib.Omega.{arith}
use lib.Dec.{eqb}
use lib.ListN.{length, get_or, drop}
use Rattle.pack.specs.Masks.{same_as, equal_next}
use Rattle.pack.proofs.Masks.{equal-few, equal-last, equal-before}
use Rattle.pack.proofs.equal_next.Goals as goal
use Rattle.pack.proofs.equal_next.Goals.{After-from}

digit : (b : Bool) → bool_byte b ≡ cond b 1 0
digit true = refl
digit false = refl

turned : (c : After-from) → let at = c.loop-at.at in
    c.loop-at.equal * 2 + c.from.result ≡ equal_next (drop (at - 1) c.args.row.now)
turned c =
    let row = c.args.row.now in
    let at = c.loop-at.at in
    let e : suc (at - 1) ≡ at = omega arith in
    let d : at - 1 + 1 ≡ at = omega arith in
    let x = get_or row (at - 1) 0 in
    let b = equal-before row (at - 1) (omega (arith, c.loop-at.invariant)) in
    let f =
    c.from.ensures ∙ digit (eqb x (get_or row (at - 1 + 1) 0)) ∙ ap (λ (k : ℕ). same_as x (get_or row k 0)) d in
    ap₂ (λ (m k : ℕ). m * 2 + k) c.loop-at.invariant.2 f
    ∙ sym (b ∙ ap (λ (k : ℕ). equal_next (drop k row) * 2 + same_as x (get_or row k 0)) e)

pub overflow_mul-equal : goal.overflow_mul-equal
overflow_mul-equal c =
    let i = c.loop-at.invariant in
    omega (arith, i.2, equal-few c.args.row.now c.loop-at.at (omega (arith, c.requires.1, i.0)))

pub overflow_add-equal : goal.overflow_add-equal
overflow_add-equal c =
    let at = c.loop-at.at in
    omega (arith, turned c, equal-few c.args.row.now (at - 1) (omega (arith, c.requires.1, c.loop-at-test.true)))

pub loop-at-preserved : goal.loop-at-preserved
loop-at-preserved c = (omega arith, omega (arith, c.loop-at.invariant.1), turned c)

pub loop-at-init : goal.loop-at-init
loop-at-init c =
    let row = c.args.row.now in
    let some : 0 < length row = omega (arith, c.requires.0) in
    (omega (arith, c.requires.0), omega arith, sym (equal-last row (length row - 1) (omega arith)))

pub returns : goal.returns
returns c =
    let i = c.loop-at.invariant in
    let e : c.loop-at.at ≡ c.args.from = omega (arith, i.0) in
    i.2 ∙ ap (λ (k : ℕ). equal_next (drop k c.args.row.now)) e
