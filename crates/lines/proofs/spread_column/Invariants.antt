-- The first p planes are added.
use Rattle.std.proofs.Common.{◌≡◌, ◌*◌, ◌≤◌}
use Rattle.lines.specs.Columns.{spread_column}
use Rattle.lines.proofs.spread_column.Given as goal

abbrev pub invariant-loop-p : goal.invariant-loop-p
invariant-loop-p g l = (l.column ≡ spread_column l.screen l.at l.p) × (l.column ≤ l.p * 578721382704613384)
