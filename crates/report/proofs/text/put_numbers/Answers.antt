-- `report::text::put_numbers` meets its contract: the lines are written one after the other.
use Rattle.std.proofs.Common.{◌≡◌, refl, Bool, true, false, cond}
use mir.Val.{bool_byte}
use Rattle.lists.proofs.Pieces.{written_then}
use Rattle.report.specs.Lines.{number_lines}
use Rattle.report.proofs.text.put_numbers.Goals as goal

as_number : (b : Bool) → bool_byte b ≡ cond b 1 0
as_number true = refl
as_number false = refl

pub returns-clause-part : goal.returns-clause-part
unfolding number_lines
returns-clause-part c =
    let two = written_then c.put_line-end.ensures.part c.put_line-end-2.ensures.part in
    let three = written_then two c.put_line-end-3.ensures.part in
    written_then three (rw (as_number c.args.read.picture.tail_present) at c.put_line.ensures.part)
