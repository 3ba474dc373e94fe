use Rattle.std.proofs.Common.{arith}
use Rattle.spectrum_colours.proofs.Colours.{word-within}
use Rattle.spectrum_colours.proofs.shown_word.Goals as goal

pub bounds-palettes-line : goal.bounds-palettes-line
bounds-palettes-line c =
    let a = c.args in
    rw (c.position_at-position.ensures, c.pixel_register-register.ensures)
    (omega (arith, word-within a.screen.now a.column a.line c.requires.1 c.requires.2))
