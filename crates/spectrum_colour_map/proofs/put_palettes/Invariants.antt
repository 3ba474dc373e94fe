-- The palettes that are left are accepted, and they are what is still to write.
use Rattle.std.proofs.Common.{◌≡◌, ◌-◌, ◌*◌, ℕ, Ok, length}
use Rattle.lists.proofs.Pieces.{PartlyWritten}
use Rattle.spectrum_colour_map.specs.Palettes.{palettes, judge_palettes}
use Rattle.spectrum_colour_map.specs.ColourMap.{no_palette}
use Rattle.spectrum_colour_map.proofs.put_palettes.Given as goal

abbrev pub invariant-loop-k : goal.invariant-loop-k
invariant-loop-k l =
    (length l.last ≡ 16)
    × ((end : ℕ) × (judge_palettes (l.n - l.k) l.file l.from ≡ Ok end))
    × PartlyWritten (palettes l.n l.file l.at no_palette) (palettes (l.n - l.k) l.file l.from l.last)
    l.fn.out l.out (l.k * 16)
