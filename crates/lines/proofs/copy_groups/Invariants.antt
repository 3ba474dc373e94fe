-- The first g groups are written.
use Rattle.std.proofs.Common.{◌≡◌, ◌*◌, take}
use Rattle.lists.specs.Over.{over}
use Rattle.lines.specs.Columns.{groups_line}
use Rattle.lines.proofs.copy_groups.Given as goal

abbrev pub invariant-loop-g : goal.invariant-loop-g
invariant-loop-g g l = l.out ≡ over (take (l.g * 16) (groups_line l.screen l.start g.row.PLANES l.groups)) l.initial.out
