use Rattle.std.proofs.Common.{◌∙◌, append_assoc, arith}
use Rattle.lists.proofs.Parts.{copied-over}
use Rattle.lists.proofs.Pieces.{written-copied, written-more, written_then, written_as}
use Rattle.words.specs.Word.{word_bytes}
use Rattle.neochrome.specs.Layout.{header}
use Rattle.neochrome.proofs.put_header.Goals as goal

-- each part follows the one before it
pub returns-clause-part : goal.returns-clause-part
unfolding word_bytes
returns-clause-part c =
    let q = c.palette_bytes-palette in
    let r = c.word_bytes-resolution in
    let f = c.word_bytes-flag in
    let x = c.copy-end in
    let y = c.copy-end-2 in
    let z = c.copy-end-3 in
    let one = written-copied f.result c.args.out.now x.new.out x.result x.ensures.count x.ensures.content in
    let two = written-more one r.result y.new.out y.result y.ensures.count
    (y.ensures.content ∙ copied-over r.result _) in
    let three = written-more two q.result z.new.out z.result z.ensures.count
    (z.ensures.content ∙ copied-over q.result _) in
    written_as (header c.args.picture) (rw (f.ensures, r.ensures, q.ensures) (simp append_assoc))
    (written_then three c.put_middle.ensures)

pub returns-clause-size : goal.returns-clause-size
unfolding word_bytes
returns-clause-size c = omega (arith, c.put_middle.ensures.bytes)
