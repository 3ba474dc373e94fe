-- `macpaint::write` meets its contract: the header is put before the packed body.
use Rattle.std.proofs.Common.{◌≤◌, refl, sym, arith, length}
use Rattle.std.proofs.lemmas.Result.{err_from_is_err_and}
use lib.Seq.{length-take-le}
use Rattle.macpaint.specs.Layout.{header_length, longest_file}
use Rattle.macpaint.proofs.WritePlate.{zeros-written, plate-refused, plate-written}
use Rattle.macpaint.proofs.write.Goals as goal

pub slice_bounds-fill-end-2 : goal.slice_bounds-fill-end-2
slice_bounds-fill-end-2 c =
    let room : longest_file ≤ length c.args.out.now = c.in_ok-body.ensures.bytes.1 in
    sym (length-take-le header_length c.pack_plate.new.out (omega (arith, room, c.pack_plate.auto.out)))

pub returns-in_err-body : goal.returns-in_err-body
returns-in_err-body c =
    let b = c.pack_plate in
    let p = err_from_is_err_and c.from_residual.result c.from_residual.ensures.1 in
    let fault = plate-refused c.args.plate.now c.args.out.now b.ensures.answer b.new.out b.ensures.out c.in_err-body.was in
    rw (p.1, p.2) (record { answer = fault.0; output = fault.1 })

pub returns : goal.returns
returns c =
    let b = c.pack_plate in
    let room : longest_file ≤ length c.args.out.now = c.in_ok-body.ensures.bytes.1 in
    let zeros =
    zeros-written b.new.out c.fill.new.self (omega (arith, room, b.auto.out)) (c.fill.ensures.after (λ y same. same)) in
    let done =
    plate-written c.args.plate.now c.args.out.now b.ensures.answer b.new.out b.ensures.out c.in_ok-body.was room _ _ zeros
    refl in
    record { answer = done.0; output = done.1 }
