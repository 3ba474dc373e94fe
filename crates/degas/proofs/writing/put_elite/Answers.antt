-- `degas::writing::put_elite` meets its contract: the tail follows a plain file.
use Rattle.std.proofs.Common.{take, append_assoc}
use Rattle.lists.proofs.Pieces.{written_as, written-more}
use Rattle.resolution.specs.Shapes.{screen_bytes}
use Rattle.picture.specs.Tables.{tail_bytes}
use Rattle.degas.specs.Layout.{header, plain_file, elite_file}
use Rattle.degas.proofs.writing.put_elite.Goals as goal

pub returns : goal.returns
unfolding plain_file elite_file
returns c =
    let a = c.args in
    let p = a.picture in
    let screen = take screen_bytes a.screen.now in
    let tail = tail_bytes p.tail in
    let part = c.put_tail.ensures.part in
    written_as (elite_file p a.screen.now) (append_assoc (header p.resolution p) screen tail)
    (written-more c.put_plain-end.ensures.part tail _ _ part.bytes part.all)
