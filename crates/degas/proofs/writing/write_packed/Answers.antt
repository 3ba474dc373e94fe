-- `degas::writing::write_packed` meets its contract: the header is put before the packed body, and the tail after it.
use Rattle.std.proofs.lemmas.Result.{err_from_is_err_and}
use Rattle.degas.proofs.WriteDegas.{packed-refused, packed-written}
use Rattle.degas.proofs.writing.write_packed.Goals as goal

pub returns-in_err-body : goal.returns-in_err-body
returns-in_err-body c =
    let b = c.pack_screen in
    let p = err_from_is_err_and c.from_residual.result c.from_residual.ensures.1 in
    let fault = packed-refused c.args.r c.args.screen.now b.ensures.answer c.args.out.now b.new.out c.args.picture b.ensures.out c.in_err-body.was in
    rw (p.1, p.2) (record { answer = fault.0; output = fault.1 })

pub returns : goal.returns
returns c =
    let b = c.pack_screen in
    let h = c.put_header in
    let done =
    packed-written c.args.r c.args.screen.now b.ensures.answer c.args.out.now b.new.out c.args.picture b.ensures.out c.in_ok-body.was
    c.requires.file_bytes_in_bounds h.new.out _ _ _ h.ensures.part h.ensures.size c.put_tail.ensures.part in
    record { answer = done.0; output = done.1 }
