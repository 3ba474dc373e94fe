-- `picture::parts::tail_bytes` meets its contract: the bytes are written over the whole of an array as long.
use mathlib.Core.Path.{ap, ◌∙◌}
use native.Mathlib.Omega.{arith}
use lib.ListN.{replicate}
use Rattle.lists.proofs.Over.{over-whole}
use Rattle.picture.specs.Tables.{tables_bytes}
use borrow.Author.Rules.{rules}
use Rattle.picture.proofs.parts.tail_bytes.Statement.{statement}
use Rattle.picture.proofs.parts.tail_bytes.Tie as tie

returns : tie.Need-returns
returns c =
    let t = c.tables_of-tables in
    let e = c.put_tables.ensures in
    e.0 ∙ over-whole (tables_bytes t.result) (replicate 32 0) (omega (arith, e.1)) ∙ ap tables_bytes t.ensures

pub tail_bytes_spec : {M : Type 1} → statement M
tail_bytes_spec =
    tie.close (tie.spec
    (λ c κs. search rules)
    (λ c. search rules)
    (λ c κs. search rules)
    returns)
