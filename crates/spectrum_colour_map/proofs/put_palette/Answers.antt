use Rattle.std.proofs.Common.{rules, ◌≡◌, ◌+◌, ◌≤◌, ℕ, List, length, refl, sym, ◌∙◌, arith}
use Rattle.words.specs.Word.{word_at}
use Rattle.spectrum_colour_map.specs.Palettes.{palette_end}
use Rattle.spectrum_colour_map.proofs.Palettes.{named-inside, palette-kept, end_kept}
use Rattle.spectrum_colour_map.proofs.put_palette.Goals as goal

-- the vector is there
has_vector : (file : List ℕ) (at : ℕ) → palette_end file at ≤ length file → at + 2 ≤ length file
has_vector file at room = omega (arith, named-inside file at (word_at file at) 0 refl (omega arith))

pub word_inside-requires : goal.word_inside-requires
word_inside-requires c = has_vector c.args.file.now c.args.at c.requires.at_in_bounds

pub overflow_add-result : goal.overflow_add-result
overflow_add-result c = omega (arith, has_vector c.args.file.now c.args.at c.requires.at_in_bounds)

pub returns-then-word_inside-eq0 : goal.returns-then-word_inside-eq0
returns-then-word_inside-eq0 c =
    let a = c.args in
    let size : length a.last.now ≡ 16 = search rules in
    let none : word_at a.file.now a.at ≡ 0 = sym c.word_inside.ensures ∙ c.if-word_inside-eq0.true in
    let kept = palette-kept a.file.now a.at none a.last.now size in
    record {
      ends = end_kept a.file.now a.at none;
      made = sym kept;
      all = rw kept c.put_words.ensures;
    }
