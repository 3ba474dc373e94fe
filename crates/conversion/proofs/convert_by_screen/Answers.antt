-- `conversion::convert_by_screen` meets its contract: the reading and the conversion pick the case.
use Rattle.std.proofs.Common.{◌≡◌, ℕ, Ok, Err, refl, sym, rules, length}
use Rattle.std.proofs.lemmas.Result.{err_from_is_err_and}
use Rattle.std.proofs.lemmas.List.{length-replicate}
use Rattle.resolution.specs.Shapes.{screen_bytes}
use Rattle.conversion.proofs.Converting.{refused-so, accepted-so}
use Rattle.conversion.proofs.convert_by_screen.Goals as goal

pub returns-in_err-picture : goal.returns-in_err-picture
returns-in_err-picture c =
    let a = c.args in
    let p = err_from_is_err_and c.from_residual.result c.from_residual.ensures.1 in
    let zeros = length-replicate {A = ℕ} screen_bytes 0 in
    let e = c.read.ensures.answer in
    let was : c.read.result ≡ Err c.in_err-picture.field-0.0 = search rules in
    rw (p.1, p.2, refused-so a.to a.file.now (length a.out.now) c.requires (rw zeros at e) was)
    (record { answer = refl; output = refl })

pub returns-in-ToElite : goal.returns-in-ToElite
returns-in-ToElite c =
    let a = c.args in
    let zeros = length-replicate {A = ℕ} screen_bytes 0 in
    let e = c.read.ensures in
    let w = c.plain_to_elite.ensures in
    let was : c.read.result ≡ Ok c.in_ok-picture.field-0 = search rules in
    rw (
      accepted-so a.to a.file.now (length a.out.now) c.requires (rw zeros at e.answer) was _ _ zeros
          (rw zeros at e.area),
      c.in-ToElite.is,
      sym c.word_at.ensures,
    ) (record { answer = w.answer; output = w.output })

pub returns-in-ToPlain : goal.returns-in-ToPlain
returns-in-ToPlain c =
    let a = c.args in
    let zeros = length-replicate {A = ℕ} screen_bytes 0 in
    let e = c.read.ensures in
    let w = c.elite_to_plain.ensures in
    let was : c.read.result ≡ Ok c.in_ok-picture.field-0 = search rules in
    rw (
      accepted-so a.to a.file.now (length a.out.now) c.requires (rw zeros at e.answer) was _ _ zeros
          (rw zeros at e.area),
      c.in-ToPlain.is,
    ) (record { answer = w.answer; output = w.output })
