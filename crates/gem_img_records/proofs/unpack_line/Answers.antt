use Rattle.std.proofs.Common.{◌≡◌, ◌+◌, ◌-◌, length, sym, ap, ◌∙◌, arith}
use Rattle.filling.proofs.Putting.{putting-turn, putting-done}
use Rattle.outcome.proofs.Reasons.{number-some}
use Rattle.gem_img_records.specs.Records.{record_at, packed_len, line_len, line_bytes, fault_at}
use Rattle.gem_img_records.proofs.Records.{fault-at}
use Rattle.gem_img_records.proofs.Line.{whole_here, line-full, line_step, line-fault, line-most}
use Rattle.gem_img_records.proofs.unpack_line.Goals as goal

pub returns-in-Some : goal.returns-in-Some
returns-in-Some c =
    let l = c.loop-to in
    let a = c.args in
    let room = length a.line.now - l.to in
    let n = fault-at a.pattern a.file.now l.from room _ _ _ c.record_at-r.ensures c.saturating_sub.ensures
    c.in-Some.ensures in
    let bad : fault_at a.pattern a.file.now l.from room ≡ 0 → ⊥ = λ e. number-some c.in-Some.reason (n ∙ e) in
    let d = putting-done l.invariant.filled _ (line-fault a.pattern a.file.now l.from room (omega arith) bad) in
    record { answer = rw (d.0, c.refusal_at.ensures, c.number.ensures, n); line = d.1 }

pub returns : goal.returns
returns c =
    let l = c.loop-to in
    let a = c.args in
    let d = putting-done l.invariant.filled _ (line-full a.pattern a.file.now l.from _ (omega arith)) in
    record { answer = rw d.0; line = d.1 }

pub loop-to-preserved : goal.loop-to-preserved
loop-to-preserved c =
    let l = c.loop-to in
    let a = c.args in
    let room = length a.line.now - l.to in
    let r = c.record_at-r.ensures in
    let ok = sym (fault-at a.pattern a.file.now l.from room _ _ _ r c.saturating_sub.ensures c.in_default.ensures) in
    let w = whole_here a.pattern a.file.now l.from room ok in
    let t = c.packed_len-from.ensures ∙ ap (packed_len a.pattern) r in
    let m = c.line_len-to.ensures ∙ ap (line_len a.pattern) r in
    let bytes = line_bytes a.pattern (record_at a.file.now l.from) a.file.now l.from in
    let room-less : room - line_len a.pattern (record_at a.file.now l.from)
    ≡ length a.line.now - (l.to + line_len a.pattern (record_at a.file.now l.from)) = omega arith in
    let next = putting-turn l.invariant.filled bytes _ (line_step a.pattern a.file.now l.from room (omega arith) ok)
    (line-most a.pattern a.file.now a.at (length a.line.now)) _ (rw r at c.put_line_bytes.ensures) in
    record { room = omega (arith, m, w.fits); filled = rw (m, t, ← room-less) (rw w.makes at next) }
