-- `gem_img_records::unpack_line`: `Putting`, and the measure is what is left of the file.
use Rattle.std.proofs.Common.{◌-◌, ◌≤◌, length}
use Rattle.filling.proofs.Putting.{Putting}
use Rattle.gem_img_records.specs.Line.{fill_line}
use Rattle.gem_img_records.proofs.unpack_line.Given as goal

abbrev pub invariant-loop-to : goal.invariant-loop-to
invariant-loop-to l =
    record {
      room : l.to ≤ length l.fn.line;
      filled :
          Putting (fill_line l.pattern l.file l.at (length l.fn.line))
          (fill_line l.pattern l.file l.from (length l.fn.line - l.to)) l.fn.line l.line l.to;
    }

abbrev pub decreases-loop-to : goal.decreases-loop-to
decreases-loop-to l = length l.file - l.from
