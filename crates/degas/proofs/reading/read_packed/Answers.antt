-- `degas::reading::read_packed` meets its contract: the area is cut to the screen, and what was read of the body picks
-- the case.
use Rattle.std.proofs.Common.{arith}
use Rattle.std.proofs.lemmas.Result.{err_from_is_err_and}
use lib.Seq.{length-take-le}
use Rattle.resolution.specs.Shapes.{screen_bytes}
use Rattle.picture.proofs.Reading.{area-cut}
use Rattle.degas.specs.Reading.{read_packed}
use Rattle.degas.proofs.ReadDegas.{packed-fault, packed-done}
use Rattle.degas.proofs.reading.read_packed.Goals as goal

pub read_by_buffer-requires : goal.read_by_buffer-requires
read_by_buffer-requires c = omega (arith, length-take-le screen_bytes c.args.area.now (omega arith))

pub returns-in_err-body : goal.returns-in_err-body
returns-in_err-body c =
    let a = c.args in
    let b = c.read_by_buffer in
    let p = err_from_is_err_and c.from_residual.result c.from_residual.ensures.1 in
    let d = packed-fault a.file.now a.r b.ensures.answer (omega arith) _ _ b.ensures.area c.in_err-body.was in
    rw (p.1, p.2) (record {
      answer = d.0;
      area = area-cut (read_packed a.file.now a.r) a.area.now b.new.area screen_bytes b.auto.area d.1;
    })

pub returns : goal.returns
returns c =
    let a = c.args in
    let b = c.read_by_buffer in
    let d = packed-done a.file.now a.r b.ensures.answer (omega arith) _ _ b.ensures.area c.in_ok-body.was in
    rw c.elite_picture.ensures (record {
      answer = d.0;
      area = area-cut (read_packed a.file.now a.r) a.area.now b.new.area screen_bytes b.auto.area d.1;
    })
