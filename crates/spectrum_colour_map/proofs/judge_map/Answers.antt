use Rattle.std.proofs.Common.{sym, ◌∙◌, arith}
use Rattle.std.proofs.lemmas.Result.{err_from_is_err_and}
use Rattle.spectrum_colour_map.proofs.ColourMap.{map-refused, bytes_left, map-accepted}
use Rattle.spectrum_colour_map.proofs.judge_map.Goals as goal

pub returns-in_err-end : goal.returns-in_err-end
returns-in_err-end c =
    let a = c.args in
    let p = err_from_is_err_and c.from_residual.result c.from_residual.ensures.1 in
    rw (p.1, p.2, map-refused a.file.now a.at _ (sym c.judge_palettes.ensures ∙ c.in_err-end.was))

pub returns-then-end-file : goal.returns-then-end-file
returns-then-end-file c =
    let a = c.args in
    rw (
      bytes_left a.file.now a.at _ (sym c.judge_palettes.ensures ∙ c.in_ok-end.was) (omega arith),
      c.refuse.ensures,
    )

pub returns : goal.returns
returns c =
    let a = c.args in
    rw (map-accepted a.file.now a.at _ (sym c.judge_palettes.ensures ∙ c.in_ok-end.was) (omega arith))
