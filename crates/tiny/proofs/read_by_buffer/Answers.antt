use Rattle.std.proofs.Common.{◌≡◌, ◌≤◌, ℕ, length, refl, sym, arith}
use Rattle.std.specs.Prelude.{Option, Some, None}
use Rattle.outcome.specs.declared.Reason.{Reason}
use Rattle.tiny.specs.Layout.{data_count}
use Rattle.tiny.specs.ScreenWords.{screen_words}
use Rattle.tiny.specs.Reading.{expanded}
use Rattle.outcome.specs.Refusal.{number_if}
use Rattle.tiny.proofs.Reading.{runs_done, area-is}
use Rattle.tiny.proofs.read_by_buffer.Goals as goal

no-fault : (fault : Option Reason) (number : ℕ) → number_if fault ≡ number
    → ((reason : Reason) → fault ≡ Some reason → ⊥) → number ≡ 0
no-fault None number e none = sym e
no-fault (Some reason) number e none = absurd (none reason refl)

pub returns-clause-area : goal.returns-clause-area
returns-clause-area c =
    let file = c.args.file.now in
    let done = c.expand_sections-done in
    let counts = done.ensures.answer in
    let ok = no-fault done.result.fault (expanded file).fault counts.fault c.in_default.not-Some in
    let all : data_count file ≤ (expanded file).datas =
    omega (arith, c.if-done-data_count.false, c.data_count.ensures.result_value, counts.datas) in
    let full : screen_words ≤ length (expanded file).made =
    omega (arith, c.if-done-lt-SCREEN_WORDS.false, counts.words) in
    rw (runs_done file (expanded file) ok all full)
    (area-is file _ c.args.area.now _ done.ensures.made full c.put_screen.ensures)
