use Rattle.std.proofs.Common.{length, refl, sym, ◌∙◌, arith}
use Rattle.std.proofs.lemmas.Result.{err_from_is_err_and}
use Rattle.spectrum_colour_map.proofs.ColourMap.{map_whole, area-short, read-refused, read-accepted}
use Rattle.spectrum_colour_map.proofs.read_map.Goals as goal

pub returns-then-area-lt-PALETTE_WORDS : goal.returns-then-area-lt-PALETTE_WORDS
returns-then-area-lt-PALETTE_WORDS c =
    let a = c.args in
    rw (area-short a.file.now a.at (length a.area.now) (omega arith), c.refuse.ensures)
    (record { answer = refl; area = refl })

pub returns-in_err-judge_map : goal.returns-in_err-judge_map
returns-in_err-judge_map c =
    let a = c.args in
    let p = err_from_is_err_and c.from_residual.result c.from_residual.ensures.1 in
    let is = sym c.judge_map.ensures ∙ c.in_err-judge_map.was in
    rw (p.1, p.2, read-refused a.file.now a.at (length a.area.now) (omega arith) _ is)
    (record { answer = refl; area = refl })

pub put_palettes-requires-clause-by_index : goal.put_palettes-requires-clause-by_index
put_palettes-requires-clause-by_index c =
    (_, (map_whole c.args.file.now c.args.at _ (sym c.judge_map.ensures ∙ c.in_ok-judge_map.was)).0)

pub returns : goal.returns
returns c =
    let a = c.args in
    let is = sym c.judge_map.ensures ∙ c.in_ok-judge_map.was in
    rw (read-accepted a.file.now a.at (length a.area.now) (omega arith) _ is)
    (record { answer = refl; area = c.put_palettes.ensures })
