use Rattle.std.proofs.Common.{◌≡◌, take, rules}
use Rattle.std.specs.Prelude.{bit_or}
use Rattle.std.specs.List.{fold}
use Rattle.lines.proofs.Bits.{or-bits}
use Rattle.lines.proofs.set_bits.Goals as goal

pub returns : goal.returns
returns c =
    let a = c.args in
    let e : c.fold.result ≡ fold bit_or 0 (take a.n a.registers.now) = search rules in
    λ p. rw e (or-bits a.registers.now p a.n c.requires)
