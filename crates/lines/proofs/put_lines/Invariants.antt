-- The first y scan lines are made.
use Rattle.std.proofs.Common.{◌≡◌}
use Rattle.lines.specs.Screens.{with_lines}
use Rattle.lines.proofs.put_lines.Given as goal

abbrev pub invariant-loop-y : goal.invariant-loop-y
invariant-loop-y l = l.screen ≡ with_lines l.initial.screen l.r l.registers l.y
