use Rattle.std.proofs.Common.{◌≡◌, ◌+◌, ◌-◌, ◌*◌, ◌≤◌, ℕ, List, length, ap, ◌∙◌, arith}
use mathlib.Core.Path.{subst}
use Rattle.lists.proofs.Pieces.{PartlyWritten, writing-end}
use Rattle.spectrum_colour_map.specs.Palettes.{palettes}
use Rattle.spectrum_colour_map.specs.ColourMap.{no_palette}
use Rattle.spectrum_colour_map.proofs.Palettes.{first-whole, length-palette, length-palettes, palettes-none}
use Rattle.spectrum_colour_map.proofs.Palettes.{palettes-turn}
use Rattle.spectrum_colour_map.proofs.put_palettes.Goals as goal

pub put_palette-from-requires-clause-at_in_bounds : goal.put_palette-from-requires-clause-at_in_bounds
put_palette-from-requires-clause-at_in_bounds c =
    let l = c.loop-k in
    let a = c.args in
    (first-whole a.file.now (a.n - l.k) l.from l.invariant.1.0 (omega arith) l.invariant.1.1).whole.has

pub loop-k-preserved : goal.loop-k-preserved
loop-k-preserved c =
    let l = c.loop-k in
    let a = c.args in
    let left : ℕ = a.n - l.k in
    let first = first-whole a.file.now left l.from l.invariant.1.0 (omega arith) l.invariant.1.1 in
    let put = c.put_palette-from.ensures in
    let less : left - 1 ≡ a.n - (l.k + 1) = omega arith in
    let more : l.k * 16 + 16 ≡ (l.k + 1) * 16 = omega arith in
    let fits : length (palettes a.n a.file.now a.at no_palette) ≤ length a.out.now =
    omega (arith, c.requires.n_in_bounds, length-palettes a.file.now a.n a.at no_palette) in
    rw (← less, ← more) (
      ap length put.made ∙ length-palette a.file.now l.from l.last,
      (l.invariant.1.0, rw put.ends first.rest),
      palettes-turn a.file.now l.last left l.from fits (omega arith) l.invariant.2 _ _ _ put.ends put.made put.all,
    )

pub returns : goal.returns
returns c =
    let l = c.loop-k in
    let a = c.args in
    let whole : List ℕ = palettes a.n a.file.now a.at no_palette in
    let none = palettes-none a.file.now (a.n - l.k) l.from l.last (omega arith) in
    (writing-end (subst (λ (r : List ℕ). PartlyWritten whole r a.out.now l.out (l.k * 16)) none l.invariant.2)).all
