-- `macpaint::read` meets its contract: the header is judged before the body, and the area is cut to the plate.
use Rattle.std.proofs.Common.{◌∙◌, refl, sym, ap, arith, length}
use Rattle.std.proofs.lemmas.Result.{err_from_is_err_and}
use lib.Seq.{length-take-le}
use Rattle.outcome.specs.Outcome.{bind}
use Rattle.outcome.proofs.Areas.{area-cut}
use Rattle.bodies.specs.Unpacking.{UnpackedBody}
use Rattle.macpaint.specs.Plate.{plate_bytes}
use Rattle.macpaint.specs.Reading.{plate_body}
use Rattle.macpaint.proofs.ReadPlate.{judge-bind, read-judged}
use Rattle.macpaint.proofs.read.Goals as goal

pub read_by_buffer-requires : goal.read_by_buffer-requires
read_by_buffer-requires c = omega (arith, length-take-le plate_bytes c.args.plate.now (omega arith))

pub returns-in_err-judge_header : goal.returns-in_err-judge_header
returns-in_err-judge_header c =
    let a = c.args in
    let file = a.file.now in
    let p = err_from_is_err_and c.from_residual.result c.from_residual.ensures.1 in
    let is =
    read-judged file (length a.plate.now) c.if-plate-lt-PLATE_BYTES.false
    ∙ judge-bind file (plate_body file)
    ∙ ap (λ o. bind o (λ _. plate_body file)) (sym c.judge_header.ensures ∙ c.in_err-judge_header.was) in
    rw (p.1, p.2, is) (record { answer = refl; plate = refl })

pub returns : goal.returns
returns c =
    let a = c.args in
    let file = a.file.now in
    let b = c.read_by_buffer in
    let is =
    read-judged file (length a.plate.now) c.if-plate-lt-PLATE_BYTES.false
    ∙ judge-bind file (plate_body file)
    ∙ ap (λ o. bind o (λ _. plate_body file)) (sym c.judge_header.ensures ∙ c.in_ok-judge_header.was) in
    rw is (record {
      answer = b.ensures.answer;
      plate = area-cut (plate_body file) (λ (u : UnpackedBody). u.image) a.plate.now b.new.area plate_bytes b.auto.area b.ensures.area;
    })
