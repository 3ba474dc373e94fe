use Rattle.std.proofs.Common.{◌≡◌, length, take}
use Rattle.lists.specs.Over.{over}
use Rattle.words.specs.Word.{words_bytes}
use Rattle.words.proofs.put_words.Given as goal

abbrev pub invariant-loop-i : goal.invariant-loop-i
invariant-loop-i l = (length l.out ≡ length l.fn.out) × (l.out ≡ over (words_bytes (take l.i l.words)) l.fn.out)
