use Rattle.std.proofs.Common.{◌≡◌}
use Rattle.pack.specs.Runs.{end_of}
use Rattle.pack.proofs.end_by_bytes.Given as goal

abbrev pub invariant-loop-n : goal.invariant-loop-n
invariant-loop-n l = end_of l.x l.row l.n ≡ end_of l.x l.row l.from
