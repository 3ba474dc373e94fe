use Rattle.std.proofs.Common.{◌≡◌, ◌+◌, ◌*◌, length}
use Rattle.words.specs.Word.{word_at}
use Rattle.tiny_runs.proofs.WordBytes.{Putting}
use Rattle.tiny.specs.ScreenWords.{line_words, sets, expanded_word}
use Rattle.tiny.proofs.put_group.Given as goal

abbrev pub invariant-loop-s : goal.invariant-loop-s
invariant-loop-s l = record {
  kept : length l.out ≡ length l.fn.out;
  putting :
      Putting sets 1 (λ s. word_at l.made (expanded_word (l.y * line_words + (l.g * sets + s)) * 2)) l.fn.out l.out l.s;
}
