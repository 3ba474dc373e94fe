use Rattle.std.proofs.Common.{◌≡◌, ◌*◌, length}
use Rattle.words.specs.Word.{word_at}
use Rattle.tiny_runs.proofs.WordBytes.{Putting}
use Rattle.tiny.specs.ScreenWords.{screen_words, line_words, expanded_word}
use Rattle.tiny.proofs.put_screen.Given as goal

abbrev pub invariant-loop-y : goal.invariant-loop-y
invariant-loop-y l = record {
  kept : length l.area ≡ length l.fn.area;
  putting : Putting screen_words line_words (λ p. word_at l.made (expanded_word p * 2)) l.fn.area l.area l.y;
}
