use Rattle.std.proofs.Common.{◌≡◌, ◌≤◌, ◌<◌, length, drop}
use Rattle.pack.specs.Masks.{equal_next}
use Rattle.pack.proofs.equal_next.Given as goal

abbrev pub invariant-loop-at : goal.invariant-loop-at
invariant-loop-at l = (l.from ≤ l.at) × (l.at < length l.row) × (l.equal ≡ equal_next (drop l.at l.row))
