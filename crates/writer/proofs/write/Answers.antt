-- `writer::write` meets its contract: the form picks the format.
use Rattle.std.proofs.Common.{◌∙◌, refl, sym, arith, length}
use Rattle.std.proofs.lemmas.Result.{err_from_is_err_and}
use Rattle.picture.proofs.Writing.{areas-screen, areas-output}
use Rattle.writer.proofs.Choice.{file-by-form, file-short, file-unknown}
use Rattle.writer.proofs.write.Goals as goal
use Rattle.writer.proofs.write.Goals.{then-screen-lt-SCREEN_BYTES-via-then-screen-lt-SCREEN_BYTES}
use Rattle.writer.proofs.write.Goals.{then-screen-lt-SCREEN_BYTES-via-else-screen-lt-SCREEN_BYTES+then-out-lt-FILE_BYTES}

pub returns-then-screen-lt-SCREEN_BYTES : goal.returns-then-screen-lt-SCREEN_BYTES
returns-then-screen-lt-SCREEN_BYTES c =
    let a = c.args in
    rw c.refuse.ensures
    (elim c.then-screen-lt-SCREEN_BYTES.branch [
      | then-screen-lt-SCREEN_BYTES-via-then-screen-lt-SCREEN_BYTES w ↦
          rw (file-short a.form a.picture a.screen.now (length a.out.now)
          (λ A further. areas-screen _ _ further w.if-screen-lt-SCREEN_BYTES.true))
          (record { answer = refl; output = refl })
      | then-screen-lt-SCREEN_BYTES-via-else-screen-lt-SCREEN_BYTES+then-out-lt-FILE_BYTES w ↦
          rw (file-short a.form a.picture a.screen.now (length a.out.now)
          (λ A further. areas-output _ _ further w.if-screen-lt-SCREEN_BYTES.false
          (omega (arith, w.if-out-lt-FILE_BYTES.true))))
          (record { answer = refl; output = refl })
    ])

pub returns-in_err-form : goal.returns-in_err-form
returns-in_err-form c =
    let a = c.args in
    let p = err_from_is_err_and c.from_residual.result c.from_residual.ensures.1 in
    let e = sym c.try_from.ensures ∙ c.in_err-form.was in
    rw (
      p.1,
      p.2,
      file-unknown a.form a.picture a.screen.now (length a.out.now) c.if-screen-lt-SCREEN_BYTES.false
          (omega (arith, c.if-out-lt-FILE_BYTES.false)) e,
    ) (record { answer = refl; output = refl })

pub returns-in-Degas : goal.returns-in-Degas
returns-in-Degas c =
    let e = c.write.ensures in
    rw (
      file-by-form c.args.form c.args.picture c.args.screen.now _,
      ← c.try_from.ensures,
      c.in_ok-form.was,
      c.in-Degas.is,
    ) (record { answer = e.answer; output = e.output })

pub returns-in-Neochrome : goal.returns-in-Neochrome
returns-in-Neochrome c =
    let e = c.write-in-Neochrome.ensures in
    rw (
      file-by-form c.args.form c.args.picture c.args.screen.now _,
      ← c.try_from.ensures,
      c.in_ok-form.was,
      c.in-Neochrome.is,
    ) (record { answer = e.answer; output = e.output })
