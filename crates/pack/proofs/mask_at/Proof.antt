-- `pack::mask_at` meets its contract. At the end of the row there is no byte and no digit.
use native.Mathlib.Omega.{arith}
use mathlib.Core.Path.{sym}
use borrow.Author.Rules.{rules}
use Rattle.pack.proofs.Masks.{equal-none}
use Rattle.pack.proofs.mask_at.Statement.{statement}
use Rattle.pack.proofs.mask_at.Tie as tie

returns-2 : tie.Need-returns-then-left-eq0
returns-2 c few =
    let a = c.args in
    sym (equal-none a.row.now a.i (omega arith))

pub mask_at_spec : {M : Type 1} → statement M
mask_at_spec =
    tie.close
    (tie.spec
    (λ c. search rules)
    (λ c. search rules)
    returns-2
    (λ c κs. search rules)
    (λ c. search rules))
