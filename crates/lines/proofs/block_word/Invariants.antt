-- The first g groups are joined.
use Rattle.std.proofs.Common.{◌≡◌, ◌/◌}
use Rattle.lines.specs.Blocks.{groups_word}
use Rattle.lines.proofs.block_word.Given as goal

abbrev pub invariant-loop-g : goal.invariant-loop-g
invariant-loop-g g l = l.word ≡ groups_word l.registers (128 / g.row.WIDTH) l.at l.g
