-- The words at the positions of the line's pixels.
use Rattle.std.proofs.Common.{arith}
use Rattle.spectrum_colours.proofs.Colours.{positions-below, positions-shown}
use Rattle.spectrum_colours.proofs.put_line.Goals as goal

pub put_words-requires : goal.put_words-requires
put_words-requires c =
    let a = c.args in (
      omega arith,
      omega arith,
      omega arith,
      rw c.line_positions-positions.ensures (positions-below a.screen.now a.line),
    )

pub returns : goal.returns
returns c =
    let a = c.args in
    rw (
      c.put_words.ensures,
      c.line_positions-positions.ensures,
      positions-shown a.screen.now a.line a.palettes.now,
    )
