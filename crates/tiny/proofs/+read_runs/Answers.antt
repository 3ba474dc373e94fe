-- `tiny::read_runs` meets its contract: a longer area is cut to the screen, and the call ends since that is shorter.
use Rattle.std.proofs.Common.{arith}
use lib.Seq.{length-take-le}
use Rattle.picture.proofs.Reading.{area-cut}
use Rattle.resolution.specs.Shapes.{screen_bytes}
use Rattle.tiny.specs.Reading.{expanded, read_runs}
use Rattle.tiny.proofs.+read_runs.Goals as goal

pub read_runs-requires : goal.read_runs-requires
read_runs-requires t c =
    let long = length-take-le screen_bytes c.args.area.now (omega arith) in (
      omega (arith, long, c.decreases, c.if-area-gt-SCREEN_BYTES.true),
      (c.requires.file_len, omega (arith, long)),
    )

pub returns-then-area-gt-SCREEN_BYTES-clause-area : goal.returns-then-area-gt-SCREEN_BYTES-clause-area
returns-then-area-gt-SCREEN_BYTES-clause-area t c =
    let a = c.args in
    let again = c.read_runs in
    let read = read_runs a.file.now (expanded a.file.now) in
    area-cut read a.area.now again.new.area screen_bytes again.auto.area
    again.ensures.area
