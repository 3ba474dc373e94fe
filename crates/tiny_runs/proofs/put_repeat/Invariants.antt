use Rattle.std.proofs.Common.{◌≡◌, length}
use Rattle.tiny_runs.proofs.WordBytes.{Putting}
use Rattle.tiny_runs.proofs.put_repeat.Given as goal

abbrev pub invariant-loop-i : goal.invariant-loop-i
invariant-loop-i l = record {
  kept : length l.out ≡ length l.fn.out;
  putting : Putting l.count 1 (λ i. l.word) l.fn.out l.out l.i;
}
