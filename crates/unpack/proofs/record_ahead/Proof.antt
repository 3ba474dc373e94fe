-- `unpack::record_ahead` meets its contract: no record takes up more than the part that is lent.
use mathlib.Core.Path.{◌∙◌}
use Prim.Native.Nat.{◌+◌, ◌-◌}
use native.Mathlib.Omega.{arith}
use Rattle.unpack.proofs.Records.{record-front}
use borrow.Author.Rules.{rules}
use Rattle.unpack.proofs.record_ahead.Statement.{statement}
use Rattle.unpack.proofs.record_ahead.Tie as tie

returns : tie.Need-returns
returns c =
    let a = c.args in
    c.record_at.ensures ∙ record-front a.file.now a.at a.room (a.at + 129 - a.at)
    c.requires (omega arith)

pub record_ahead_spec : {M : Type 1} → statement M
record_ahead_spec =
    tie.close
    (tie.spec
    (λ c. search rules)
    (λ c. search rules)
    (λ c. search rules)
    (λ c. search rules)
    (λ c κs. search rules)
    returns)
