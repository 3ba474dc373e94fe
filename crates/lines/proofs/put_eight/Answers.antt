use Rattle.std.proofs.Common.{◌∙◌, arith}
use Rattle.lists.specs.Tabulate.{tabulate}
use Rattle.lists.proofs.Tabulate.{length-tabulate}
use Rattle.lines.specs.Columns.{byte_of}
use Rattle.lines.proofs.Columns.{le-bytes}
use Rattle.lines.proofs.Pieces.{part-over}
use Rattle.lines.proofs.put_eight.Goals as goal

pub returns : goal.returns
returns c =
    let a = c.args in
    part-over a.x _ a.out.now _ (tabulate 8 (byte_of a.v)) (omega (arith, length-tabulate 8 (byte_of a.v)))
    (c.copy_from_slice.ensures.after ∙ c.to_le_bytes.ensures ∙ le-bytes a.v)
