-- `gem_img::unpack_lines`: `Putting`, and the measure is the lines that are left.
use Rattle.std.proofs.Common.{◌≡◌, ◌+◌, ◌*◌, ◌≤◌, length}
use Rattle.filling.proofs.Putting.{Putting}
use Rattle.gem_img.specs.Lines.{fill_lines}
use Rattle.gem_img.proofs.unpack_lines.Given as goal

abbrev pub invariant-loop-left : goal.invariant-loop-left
invariant-loop-left l =
    record {
      inside : l.from ≤ length l.file;
      split : l.to + l.left * length l.fn.line ≡ l.lines * length l.fn.line;
      filled :
          Putting (fill_lines l.pattern (length l.fn.line) l.file l.at l.lines)
          (fill_lines l.pattern (length l.fn.line) l.file l.from l.left) l.fn.out l.out l.to;
    }

abbrev pub decreases-loop-left : goal.decreases-loop-left
decreases-loop-left l = l.left
