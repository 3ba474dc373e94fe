use lib.Seq.{sets-eq}
use Rattle.words.specs.Word.{word_bytes}
use Rattle.tiny_runs.proofs.put_word.Goals as goal

pub returns : goal.returns
unfolding word_bytes
returns c = rw c.word_bytes.ensures (sets-eq (word_bytes c.args.word) c.args.out.now 0 c.requires)
