use Rattle.std.proofs.Common.{rules, ◌≡◌, ◌+◌, ◌*◌, ◌≤◌, ◌<◌, ℕ, List, length, refl, ap, ◌∙◌, arith}
use lib.ListN.{length-set}
use Rattle.lists.specs.Sum.{sum}
use Rattle.lists.proofs.Over.{tabulate-turn, tabulate-done, over_done}
use Rattle.words.specs.Word.{word_at}
use Rattle.spectrum_colour_map.specs.Vector.{bit, named_below, named}
use Rattle.spectrum_colour_map.specs.Palettes.{palette, palette_end}
use Rattle.spectrum_colour_map.proofs.Vector.{named-next}
use Rattle.spectrum_colour_map.proofs.Palettes.{length-palette, named-inside, entry-is}
use Rattle.spectrum_colour_map.proofs.put_entries.Goals as goal

pub word_inside-vector-requires : goal.word_inside-vector-requires
word_inside-vector-requires c =
    let a = c.args in
    omega (arith, c.requires.at_in_bounds, named-inside a.file.now a.at (word_at a.file.now a.at) 0 refl (omega arith))

pub loop-i-init : goal.loop-i-init
unfolding named_below sum
loop-i-init c =
    let size : length c.args.last.now ≡ 16 = search rules in
    (c.word_inside-vector.ensures, omega arith, size, size, refl, refl, refl)

-- the next word that may be read is inside the file
further : (v at from set i : ℕ) → set ≡ bit v i → from ≡ at + named_below v i * 2
    → from + set * 2 ≡ at + named_below v (i + 1) * 2
further v at from set i s f = omega (arith, named-next v i)

inside : (file : List ℕ) (at v from set i : ℕ) → palette_end file at ≤ length file → v ≡ word_at file at
    → set ≡ bit v i → from ≡ at + named_below v i * 2 → i < 16 → from + set * 2 + 2 ≤ length file
inside file at v from set i room e s f h =
    omega (arith, further v at from set i s f, named-inside file at v (i + 1) e (omega arith))

pub overflow_add-from : goal.overflow_add-from
overflow_add-from c =
    let l = c.loop-i in
    let a = c.args in
    omega (
      arith,
      inside a.file.now a.at c.word_inside-vector.result l.from _ l.i c.requires.at_in_bounds
          l.invariant.0 c.bit-set.ensures.0 l.invariant.1 (omega arith),
    )

pub word_inside-requires : goal.word_inside-requires
word_inside-requires c =
    let l = c.loop-i in
    let a = c.args in
    inside a.file.now a.at c.word_inside-vector.result l.from _ l.i c.requires.at_in_bounds
    l.invariant.0 c.bit-set.ensures.0 l.invariant.1 (omega arith)

pub loop-i-preserved : goal.loop-i-preserved
unfolding palette
loop-i-preserved c =
    let l = c.loop-i in
    let a = c.args in
    let v = c.word_inside-vector.result in
    let set = c.bit-set.ensures.0 in
    let new = entry-is a.file.now a.last.now l.last a.at l.i v _ l.from _ l.invariant.0 set
    l.invariant.1 (omega arith) l.invariant.5 (c.chosen-word.ensures ∙ rw c.word_inside.ensures) in (
      l.invariant.0,
      further v a.at l.from _ l.i set l.invariant.1,
      l.invariant.2,
      length-set l.last _ _ ∙ l.invariant.3,
      length-set l.out _ _ ∙ l.invariant.4,
      tabulate-turn 16 _ _ _ l.i _ (omega arith) (omega arith) l.invariant.5 new,
      tabulate-turn 16 _ _ _ l.i _ (omega arith) (omega arith) l.invariant.6 new,
    )

pub overflow_add-result : goal.overflow_add-result
overflow_add-result c =
    let l = c.loop-i in
    let a = c.args in
    omega (
      arith,
      c.requires.at_in_bounds,
      l.invariant.1,
      named-inside a.file.now a.at c.word_inside-vector.result l.i l.invariant.0 (omega arith),
    )

pub returns : goal.returns
unfolding palette palette_end
returns c =
    let l = c.loop-i in
    let a = c.args in
    let v : ℕ = c.word_inside-vector.result in
    let all : l.i ≡ 16 = omega arith in
    let last : named_below v l.i ≡ named (word_at a.file.now a.at) =
    ap (named_below v) all ∙ ap named l.invariant.0 in
    record {
      ends = omega (arith, last, l.invariant.1);
      made = tabulate-done 16 _ _ _ l.i (omega arith) (omega arith) l.invariant.5;
      all =
          over_done _ _ _ l.i (omega (arith, length-palette a.file.now a.at a.last.now)) l.invariant.6;
    }
