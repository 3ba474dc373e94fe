-- An area is cut to the screen.
use Rattle.std.proofs.Common.{arith}
use lib.Seq.{length-take-le}
use Rattle.outcome.proofs.Areas.{area-cut}
use Rattle.resolution.specs.Shapes.{screen_bytes}
use Rattle.spectrum.specs.Reading.{read_maps}
use Rattle.spectrum.proofs.read_maps.Goals as goal

pub read_by_buffer-requires : goal.read_by_buffer-requires
read_by_buffer-requires c =
    record {
      end_value = c.requires.end_value;
      areas = (omega (arith, length-take-le screen_bytes c.args.screen.now (omega arith)), c.requires.areas.1);
    }

pub returns : goal.returns
returns c =
    let a = c.args in
    let b = c.read_by_buffer in
    record {
      answer = b.ensures.answer;
      screen_put = area-cut (read_maps a.file.now) (λ r. r.screen) a.screen.now b.new.screen screen_bytes b.auto.screen
          b.ensures.screen_put;
      palettes_put = b.ensures.palettes_put;
    }
