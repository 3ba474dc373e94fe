use Rattle.std.proofs.Common.{◌≡◌, ◌/◌, length, take}
use Rattle.lists.specs.Over.{over}
use Rattle.words.specs.Word.{words_at}
use Rattle.words.proofs.get_words.Given as goal

abbrev pub invariant-loop-i : goal.invariant-loop-i
invariant-loop-i l =
    (length l.out ≡ length l.fn.out) × (l.out ≡ over (take l.i (words_at (length l.s / 2) l.s 0)) l.fn.out)
