-- `pack::next_mask` meets its contract: the digits of the bytes before the later place are shifted out.
use Prim.Native.Nat.{ℕ, ◌-◌, ◌/◌, ◌^◌}
use native.Mathlib.Omega.{arith}
use mathlib.Core.Path.{ap, ◌∙◌}
use borrow.Author.Rules.{rules}
use Rattle.pack.proofs.Masks.{equal-later}
use Rattle.pack.proofs.next_mask.Statement.{statement}
use Rattle.pack.proofs.next_mask.Tie as tie

returns-2 : tie.Need-returns
returns-2 c few =
    let s = c.before.before in
    let a = s.args in
    let k = a.next - a.i in
    ap (λ (m : ℕ). m / 2 ^ k) (s.requires.2 (omega arith)) ∙ equal-later a.row.now a.i a.next s.requires.0

pub next_mask_spec : {M : Type 1} → statement M
next_mask_spec =
    tie.close
    (tie.spec
    (λ c. search rules)
    (λ c κs. search rules)
    (λ c. search rules)
    (λ c. search rules)
    (λ c. search rules)
    returns-2)
