-- `reader::read` meets its contract: the kind picks the format.
use Rattle.std.proofs.Common.{refl}
use Rattle.std.proofs.lemmas.Result.{err_from_is_err_and}
use Rattle.picture.proofs.Reading.{area-fits}
use Rattle.reader.proofs.Choice.{file-by-kind, file-short}
use Rattle.reader.proofs.read.Goals as goal

pub returns-then-area-lt-SCREEN_BYTES : goal.returns-then-area-lt-SCREEN_BYTES
returns-then-area-lt-SCREEN_BYTES c =
    rw (c.refuse.ensures, file-short c.args.kind c.args.file.now _ c.if-area-lt-SCREEN_BYTES.true)
    (record { answer = refl; area = refl })

pub returns-in_err-try_from : goal.returns-in_err-try_from
returns-in_err-try_from c =
    let p = err_from_is_err_and c.from_residual.result c.from_residual.ensures.1 in
    rw (
      p.1,
      p.2,
      file-by-kind c.args.kind c.args.file.now _,
      ← c.try_from.ensures,
      c.in_err-try_from.was,
      area-fits _ _ c.if-area-lt-SCREEN_BYTES.false,
    ) (record { answer = refl; area = refl })

pub returns-in-Degas : goal.returns-in-Degas
returns-in-Degas c =
    let e = c.read.ensures in
    rw (
      file-by-kind c.args.kind c.args.file.now _,
      ← c.try_from.ensures,
      c.in_ok-try_from.was,
      c.in-Degas.is,
    ) (record { answer = e.answer; area = e.area })

pub returns-in-Neochrome : goal.returns-in-Neochrome
returns-in-Neochrome c =
    let e = c.read-in-Neochrome.ensures in
    rw (
      file-by-kind c.args.kind c.args.file.now _,
      ← c.try_from.ensures,
      c.in_ok-try_from.was,
      c.in-Neochrome.is,
    ) (record { answer = e.answer; area = e.area })

pub returns-in-Tiny : goal.returns-in-Tiny
returns-in-Tiny c =
    let e = c.read-in-Tiny.ensures in
    rw (
      file-by-kind c.args.kind c.args.file.now _,
      ← c.try_from.ensures,
      c.in_ok-try_from.was,
      c.in-Tiny.is,
    ) (record { answer = e.answer; area = e.area })
