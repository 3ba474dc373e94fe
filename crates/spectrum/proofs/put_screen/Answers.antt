-- Line 0, and behind it the other lines.
use Rattle.std.proofs.Common.{arith}
use Rattle.spectrum.proofs.Screen.{screen-put}
use Rattle.spectrum.proofs.put_screen.Goals as goal

pub returns : goal.returns
returns c =
    let a = c.args in
    screen-put a.planes.now a.screen.now c.put_run.new.out c.put_planes.new.area
    (omega arith) (omega arith) (c.put_run.ensures.fits (omega arith)) c.put_planes.ensures
