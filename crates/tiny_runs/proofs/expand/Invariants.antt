use Rattle.std.proofs.Common.{◌≡◌, ◌-◌, length}
use Rattle.std.specs.Prelude.{None}
use Rattle.tiny_runs.proofs.Expanding.{Expanding}
use Rattle.tiny_runs.proofs.expand.Given as goal

abbrev pub invariant-loop-done : goal.invariant-loop-done
invariant-loop-done l = record {
  kept : length l.made ≡ length l.fn.made;
  expanding :
      Expanding l.controls l.section l.datas l.most l.fn.made l.made l.done.controls.0 l.done.datas.0 l.done.runs
      l.done.words;
  sound : l.done.fault ≡ None;
}

abbrev pub decreases-loop-done : goal.decreases-loop-done
decreases-loop-done l = length l.controls - l.done.controls.0
