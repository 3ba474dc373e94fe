-- The first y scan lines are written.
use Rattle.std.proofs.Common.{◌≡◌}
use Rattle.lists.specs.Over.{over}
use Rattle.lines.proofs.Screens.{first_lines}
use Rattle.lines.proofs.copy_lines.Given as goal

abbrev pub invariant-loop-y : goal.invariant-loop-y
invariant-loop-y l = l.out ≡ over (first_lines l.screen l.r l.y) l.initial.out
