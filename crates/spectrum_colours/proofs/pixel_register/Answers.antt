-- The four bits of the pixel's group.
use Rattle.std.proofs.Common.{refl}
use Rattle.spectrum_colours.proofs.Colours.{low-register}
use Rattle.spectrum_colours.proofs.pixel_register.Goals as goal

pub returns : goal.returns
returns c =
    rw (
      c.pixel_bit-fourth.ensures.0,
      c.word_at-4.ensures,
      c.pixel_bit-third.ensures.0,
      c.word_at-3.ensures,
      c.pixel_bit-second.ensures.0,
      c.word_at-2.ensures,
      c.pixel_bit-first.ensures.0,
      c.word_at.ensures,
    )
    (low-register c.args.screen.now c.args.column c.args.line _ refl)
