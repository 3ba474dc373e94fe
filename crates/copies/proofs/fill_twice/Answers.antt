use Rattle.std.proofs.Common.{◌≡◌, ap, ◌∙◌, ℕ, ◌+◌, ◌-◌, replicate, arith}
use Rattle.lists.specs.Over.{over}
use Rattle.copies.proofs.Copies.{put_both}
use Rattle.copies.proofs.fill_twice.Goals as goal

-- the two runs are one
pub returns : goal.returns
returns c =
    let a = c.args in
    let all : a.n - a.k + a.k ≡ a.n = omega arith in
    put_both a.byte (a.n - a.k) a.k a.out.now (omega arith) _ _ (omega arith) c.fill.ensures c.fill-2.ensures
    ∙ ap (λ (n : ℕ). over (replicate n a.byte) a.out.now) all
