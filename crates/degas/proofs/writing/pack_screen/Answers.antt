-- `degas::writing::pack_screen` meets its contract: the raster of a screen is in range, and the output has room.
use Rattle.std.proofs.Common.{◌∙◌, ap, arith, length}
use Rattle.outcome.specs.Outcome.{Outcome, map}
use Rattle.bodies.specs.Packing.{PackedBody, body_packed, packed_output}
use Rattle.degas.specs.Layout.{header_length, body_limit}
use Rattle.degas.proofs.ScreenRaster.{screen-packed}
use Rattle.degas.proofs.WriteDegas.{packed-below}
use Rattle.degas.proofs.writing.pack_screen.Goals as goal

pub returns : goal.returns
returns c =
    let a = c.args in
    let same =
    screen-packed a.r a.screen.now body_limit header_length (length a.out.now) c.requires.screen_bytes_in_bounds
    (omega (arith, c.requires.file_bytes_in_bounds)) in
    let is = rw c.raster.ensures at c.pack_body.ensures.answer ∙ ap (map body_packed) same in
    record {
      answer = is;
      out =
          rw c.raster.ensures at c.pack_body.ensures.out
          ∙ ap (λ (o : Outcome PackedBody). packed_output o header_length a.out.now) same;
      bytes = packed-below a.r a.screen.now is;
    }
