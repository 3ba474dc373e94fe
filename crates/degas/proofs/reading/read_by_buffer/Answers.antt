-- `degas::reading::read_by_buffer` meets its contract: the raster of a screen is in range, and the buffer holds it.
use Rattle.std.proofs.Common.{ℕ, ◌∙◌, ap, arith, length, replicate}
use Rattle.std.proofs.lemmas.List.{length-replicate}
use Rattle.outcome.specs.Outcome.{Outcome, map}
use Rattle.resolution.specs.Shapes.{screen_bytes}
use Rattle.bodies.specs.Reading.{body_area}
use Rattle.bodies.specs.Unpacking.{UnpackedBody, body_unpacked}
use Rattle.degas.specs.Layout.{header_length, tail_length}
use Rattle.degas.proofs.ReadDegas.{packed-bytes}
use Rattle.degas.proofs.ScreenRaster.{screen-read}
use Rattle.degas.proofs.reading.read_by_buffer.Goals as goal

pub returns : goal.returns
returns c =
    let a = c.args in
    let zeros = length-replicate {A = ℕ} screen_bytes 0 in
    let same =
    screen-read a.r a.file.now header_length tail_length (length (replicate {A = ℕ} screen_bytes 0))
    (length a.area.now) (omega (arith, zeros)) c.requires in
    let is = rw c.raster.ensures at c.read_body.ensures.answer ∙ ap (map body_unpacked) same in
    record {
      answer = is;
      area =
          rw c.raster.ensures at c.read_body.ensures.area
          ∙ ap (λ (o : Outcome UnpackedBody). body_area o a.area.now) same;
      bytes = packed-bytes a.file.now a.r is;
    }
