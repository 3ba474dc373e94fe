use Rattle.std.proofs.Common.{◌≡◌, ◌+◌, ◌*◌, length}
use Rattle.words.specs.Word.{word_at}
use Rattle.tiny_runs.proofs.WordBytes.{Putting}
use Rattle.tiny.specs.ScreenWords.{line_words, sets, expanded_word}
use Rattle.tiny.proofs.put_line.Given as goal

abbrev pub invariant-loop-g : goal.invariant-loop-g
invariant-loop-g l = record {
  kept : length l.out ≡ length l.fn.out;
  putting :
      Putting line_words sets (λ c. word_at l.made (expanded_word (l.y * line_words + c) * 2)) l.fn.out l.out l.g;
}
