use Rattle.std.proofs.Common.{List, ℕ, ◌++◌}
use lib.ListN.{replicate}
use Rattle.lists.proofs.Pieces.{written-copied, written-more}
use Rattle.words.specs.Word.{word_bytes}
use Rattle.neochrome.specs.Layout.{name}
use Rattle.neochrome.proofs.put_middle.Goals as goal

-- the name, and after it the rest
pub returns : goal.returns
unfolding word_bytes
returns c =
    let n = c.copy-end in
    let r = c.copy in
    let rest : List ℕ = replicate 10 0 ++ word_bytes 320 ++ word_bytes 200 ++ replicate 66 0 in
    written-more (written-copied name c.args.out.now n.new.out n.result n.ensures.count n.ensures.content) rest r.new.out
    r.result r.ensures.count r.ensures.content
