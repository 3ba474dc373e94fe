use Rattle.std.proofs.Common.{refl, ap, ◌∙◌, arith, rules}
use Rattle.words.specs.Word.{word_at}
use Rattle.tiny_runs.proofs.WordBytes.{putting-start, putting-done, word-stores}
use Rattle.tiny.specs.ScreenWords.{sets}
use Rattle.tiny.proofs.ScreenWords.{group-word}
use Rattle.tiny.proofs.put_group.Goals as goal

pub loop-s-init : goal.loop-s-init
loop-s-init c = record { kept = refl; putting = putting-start sets 1 _ c.args.out.now }

pub loop-s-preserved : goal.loop-s-preserved
unfolding word_at
loop-s-preserved c =
    let l = c.loop-s in
    let a = c.args in
    let inside = c.requires.y_lt_column_words in
    let place = group-word l.s a.g a.y c.loop-s-test.true inside.1 inside.0 in
    record {
      kept = search rules;
      putting =
          word-stores l.invariant.putting c.loop-s-test.true
          (omega (arith, c.loop-s-test.true, l.invariant.kept, c.requires.screen_bytes_in_bounds)) _ _
          (c.word_of-word.ensures ∙ ap (word_at a.made.now) (omega (arith, place))) c.word_bytes.ensures;
    }

pub returns : goal.returns
returns c = putting-done c.loop-s.invariant.putting (omega (arith, c.loop-s-test.false))
