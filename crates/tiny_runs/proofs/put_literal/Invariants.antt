use Rattle.std.proofs.Common.{◌≡◌, ◌+◌, ◌*◌, length}
use Rattle.words.specs.Word.{word_at}
use Rattle.tiny_runs.proofs.WordBytes.{Putting}
use Rattle.tiny_runs.proofs.put_literal.Given as goal

abbrev pub invariant-loop-i : goal.invariant-loop-i
invariant-loop-i l = record {
  kept : length l.out ≡ length l.fn.out;
  putting : Putting l.count 1 (λ j. word_at l.section ((l.taken + j) * 2)) l.fn.out l.out l.i;
}
