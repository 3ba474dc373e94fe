use Rattle.std.proofs.Common.{ap, ◌∙◌}
use Rattle.tally.specs.Blocks.{reversed}
use Rattle.tally.proofs.Bytes.{swapped_bytes}
use Rattle.tally.proofs.Part.swapped_digits.Goals as goal

pub returns : goal.returns
returns c = c.swap_bytes.ensures ∙ swapped_bytes c.digits.result ∙ ap reversed c.digits.ensures
