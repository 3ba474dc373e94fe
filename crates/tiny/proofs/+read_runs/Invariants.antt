-- A longer area is cut to the screen, and the call ends since that is shorter.
use Rattle.std.proofs.Common.{length}
use Rattle.tiny.proofs.+read_runs.Given as goal

abbrev pub decreases-read_runs : goal.decreases-read_runs
decreases-read_runs l = length l.area.now
