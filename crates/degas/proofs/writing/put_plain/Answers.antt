-- `degas::writing::put_plain` meets its contract: the screen follows the header.
use Rattle.std.proofs.Common.{take}
use Rattle.lists.proofs.Pieces.{written-more}
use Rattle.resolution.specs.Shapes.{screen_bytes}
use Rattle.degas.specs.Layout.{plain_file}
use Rattle.degas.proofs.writing.put_plain.Goals as goal

pub returns-clause-part : goal.returns-clause-part
unfolding plain_file
returns-clause-part c =
    let part = c.put_screen.ensures.part in
    written-more c.put_header-start.ensures.part (take screen_bytes c.args.screen.now) _ _ part.bytes part.all
