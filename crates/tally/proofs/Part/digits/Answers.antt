use Rattle.std.proofs.Common.{arith}
use Rattle.tally.proofs.Ones.{part_digits}
use Rattle.tally.proofs.Part.digits.Goals as goal

pub returns : goal.returns
returns c = part_digits c.args.self.pixels c.args.self.right (omega arith)
