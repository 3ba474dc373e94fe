use Rattle.std.proofs.Common.{◌∙◌, take, arith}
use lib.ListN.{length-drop}
use lib.Seq.{length-take-le}
use Rattle.lists.proofs.Parts.{tail-part, copied-over}
use Rattle.lists.proofs.Pieces.{written-more}
use Rattle.resolution.specs.Shapes.{screen_bytes}
use Rattle.neochrome.specs.Layout.{neochrome_file}
use Rattle.neochrome.proofs.put_file.Goals as goal

pub copy-requires : goal.copy-requires
copy-requires c =
    let h = c.put_header-start in
    rw (length-take-le screen_bytes c.args.screen.now (omega arith), tail-part h.new.out h.result)
    (omega (arith, length-drop h.result h.new.out, h.ensures.size))

-- the screen follows the header
pub returns : goal.returns
unfolding neochrome_file
returns c =
    let h = c.put_header-start in
    let s = c.copy in
    let screen = take screen_bytes c.args.screen.now in
    written-more h.ensures.part screen s.new.out s.result s.ensures.count
    (s.ensures.content ∙ copied-over screen _)
