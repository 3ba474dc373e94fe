use Rattle.words.proofs.Word.{word_at-lt}
use Rattle.tally.specs.Blocks.{plane_block}
use Rattle.tally.proofs.Bytes.{reversed-words}
use Rattle.tally.proofs.plane_block.Goals as goal

pub returns : goal.returns
unfolding plane_block
returns c =
    let lt = word_at-lt c.args.s.now (λ i. (c.type_inv.s i).fits) in
    rw (
      c.swapped_word.ensures.0,
      c.swapped_word-2.ensures.0,
      c.swapped_word-3.ensures.0,
      c.swapped_word-4.ensures.0,
    ) (reversed-words _ _ _ _ (lt _) (lt _) (lt _) (lt _))
