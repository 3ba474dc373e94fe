-- i entries are written over both lists, and the last word that is named so far stands at `from`.
use Rattle.std.proofs.Common.{◌≡◌, ◌+◌, ◌*◌, length, take}
use Rattle.lists.specs.Over.{over}
use Rattle.words.specs.Word.{word_at}
use Rattle.spectrum_colour_map.specs.Vector.{named_below}
use Rattle.spectrum_colour_map.specs.Palettes.{palette}
use Rattle.spectrum_colour_map.proofs.put_entries.Given as goal

abbrev pub invariant-loop-i : goal.invariant-loop-i
invariant-loop-i l =
    (l.vector ≡ word_at l.file l.at)
    × (l.from ≡ l.at + named_below l.vector l.i * 2)
    × (length l.fn.last ≡ 16)
    × (length l.last ≡ 16)
    × (length l.out ≡ length l.fn.out)
    × (l.last ≡ over (take l.i (palette l.file l.at l.fn.last)) l.fn.last)
    × (l.out ≡ over (take l.i (palette l.file l.at l.fn.last)) l.fn.out)
