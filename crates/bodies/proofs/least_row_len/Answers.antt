-- `bodies::least_row_len`: the buffer is the plane row.
use Rattle.bodies.proofs.PlaneRow.{taken-least_len}
use Rattle.bodies.proofs.least_row_len.Goals as goal

pub returns : goal.returns
returns c = rw (c.take_row.ensures, taken-least_len c.requires.0 c.args.n c.requires.1) at c.least_len.ensures
