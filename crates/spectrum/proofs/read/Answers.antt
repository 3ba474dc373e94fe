-- The areas, and the kind, pick a case of `read_spectrum`.
use Rattle.std.proofs.Common.{◌≡◌, Ok, length, refl, sym, ap, ◌∙◌, arith}
use Rattle.std.proofs.lemmas.Result.{err_from_is_err_and}
use Rattle.spectrum.proofs.Reading.{screen-short, palettes-short, kind-spu, kind-spc, kind-unknown}
use Rattle.spectrum.proofs.Reading.{spu-chosen, spc-chosen}
use Rattle.outcome.specs.Outcome.{refuse}
use Rattle.outcome.specs.Refusal.{area_too_short}
use Rattle.spectrum.specs.Reading.{read_spectrum}
use Rattle.spectrum.proofs.read.Goals as goal
use Rattle.spectrum.proofs.read.Goals.{then-screen-lt-SCREEN_BYTES-via-then-screen-lt-SCREEN_BYTES}
use Rattle.spectrum.proofs.read.Goals.{then-screen-lt-SCREEN_BYTES-via-else-screen-lt-SCREEN_BYTES+then-palettes-lt-PALETTE_WORDS}

pub returns-then-screen-lt-SCREEN_BYTES : goal.returns-then-screen-lt-SCREEN_BYTES
returns-then-screen-lt-SCREEN_BYTES c =
    let a = c.args in
    let short : read_spectrum a.kind a.file.now (length a.screen.now) (length a.palettes.now) ≡ refuse area_too_short =
    elim c.then-screen-lt-SCREEN_BYTES.branch [
      | then-screen-lt-SCREEN_BYTES-via-then-screen-lt-SCREEN_BYTES w ↦
          screen-short a.file.now a.kind (length a.screen.now) (length a.palettes.now) (omega arith)
      | then-screen-lt-SCREEN_BYTES-via-else-screen-lt-SCREEN_BYTES+then-palettes-lt-PALETTE_WORDS w ↦
          palettes-short a.file.now a.kind (length a.screen.now) (length a.palettes.now) (omega arith)
    ] in
    rw (c.refuse.ensures, short) (record { answer = refl; screen = refl; palettes = refl })

pub returns-in_err-try_from : goal.returns-in_err-try_from
returns-in_err-try_from c =
    let a = c.args in
    let q = err_from_is_err_and c.from_residual.result c.from_residual.ensures.1 in
    let is = sym c.try_from.ensures ∙ c.in_err-try_from.was in
    let unknown = kind-unknown a.file.now a.kind (length a.screen.now) (length a.palettes.now)
    (omega arith) (omega arith) _ is in
    rw (q.1, q.2, unknown)
    (record { answer = refl; screen = refl; palettes = refl })

pub returns-in-Spu : goal.returns-in-Spu
returns-in-Spu c =
    let a = c.args in
    let is = spu-chosen a.kind (sym c.try_from.ensures ∙ c.in_ok-try_from.was ∙ ap Ok c.in-Spu.is) in
    let e = c.read_spu.ensures in
    rw (kind-spu a.file.now a.kind (length a.screen.now) (length a.palettes.now) (omega arith) (omega arith) is)
    (record { answer = e.answer; screen = e.screen_put; palettes = e.palettes_put })

pub returns-in-Spc : goal.returns-in-Spc
returns-in-Spc c =
    let a = c.args in
    let is = spc-chosen a.kind (sym c.try_from.ensures ∙ c.in_ok-try_from.was ∙ ap Ok c.in-Spc.is) in
    let e = c.read_spc.ensures in
    rw (kind-spc a.file.now a.kind (length a.screen.now) (length a.palettes.now) (omega arith) (omega arith) is)
    (record { answer = e.answer; screen = e.screen_put; palettes = e.palettes_put })
