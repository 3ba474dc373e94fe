use Rattle.std.proofs.Common.{◌≡◌, ◌-◌, ◌+◌, sym, ◌∙◌, arith}
use Rattle.std.proofs.lemmas.Result.{err_from_is_err_and}
use Rattle.spectrum_colour_map.proofs.Palettes.{judge-none, judge-one}
use Rattle.spectrum_colour_map.proofs.judge_palettes.Goals as goal

pub returns-in_err-from : goal.returns-in_err-from
returns-in_err-from c =
    let l = c.loop in
    let a = c.args in
    let p = err_from_is_err_and c.from_residual.result c.from_residual.ensures.1 in
    let is = sym c.judge_palette.ensures ∙ c.in_err-from.was in
    rw (p.1, p.2, l.invariant, judge-one a.file.now (a.n - l.counter) l.from (omega arith), is)

pub loop-preserved : goal.loop-preserved
loop-preserved c =
    let l = c.loop in
    let a = c.args in
    let is = sym c.judge_palette.ensures ∙ c.in_ok-from.was in
    let less : a.n - l.counter - 1 ≡ a.n - (l.counter + 1) = omega arith in
    rw (← less) (l.invariant ∙ judge-one a.file.now (a.n - l.counter) l.from (omega arith) ∙ rw is)

pub returns : goal.returns
returns c =
    let l = c.loop in
    let a = c.args in
    rw (l.invariant, judge-none a.file.now (a.n - l.counter) l.from (omega arith))
