use Rattle.std.proofs.Common.{◌≡◌, length, take, replicate}
use Rattle.copies.proofs.fill.Given as goal

abbrev pub invariant-loop-x : goal.invariant-loop-x
invariant-loop-x l = (length l.x-items ≡ l.n) × (take l.x-index l.x-items ≡ replicate l.x-index l.byte)
