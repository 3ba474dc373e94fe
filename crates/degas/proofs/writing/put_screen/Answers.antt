-- `degas::writing::put_screen` meets its contract: the screen has its length.
use Rattle.std.proofs.Common.{arith}
use lib.Seq.{length-take-le}
use Rattle.resolution.specs.Shapes.{screen_bytes}
use Rattle.degas.proofs.writing.put_screen.Goals as goal

pub copy-requires : goal.copy-requires
copy-requires c = omega (arith, length-take-le screen_bytes c.args.screen.now (omega arith))

pub returns-clause-size : goal.returns-clause-size
returns-clause-size c = omega (arith, length-take-le screen_bytes c.args.screen.now (omega arith))
