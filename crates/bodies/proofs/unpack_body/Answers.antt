-- `bodies::unpack_body`: what the rows give.
use mathlib.Core.Path.{◌∙◌}
use lib.ListN.{length}
use Rattle.bodies.proofs.Unpacking.{rows-judged, body-image}
use Rattle.bodies.proofs.unpack_body.Goals as goal

pub returns : goal.returns
returns c =
    let a = c.args in
    let e = rw (c.rows.ensures.value, c.row_bytes.ensures.value) at c.unpack_rows.ensures in
    record {
      answer = e.answer ∙ rows-judged a.file.now a.at a.r (length a.buffer.now) c.requires;
      buffer = body-image a.file.now a.at a.r _ (e.rows c.requires);
    }
