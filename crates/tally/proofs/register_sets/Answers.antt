use Rattle.std.proofs.Common.{refl}
use Rattle.lists.specs.Tabulate.{tabulate}
use Rattle.tally.specs.Blocks.{register_set}
use Rattle.tally.proofs.register_sets.Goals as goal

pub returns : goal.returns
unfolding tabulate register_set
returns c = refl
