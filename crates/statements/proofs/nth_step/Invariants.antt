-- What is left of the steps gives the same answer.
use Rattle.std.proofs.Common.{◌≡◌, ◌-◌}
use Rattle.degas_records.specs.Listing.{listed}
use Rattle.degas_records.specs.Steps.{steps}
use Rattle.statements.proofs.nth_step.Given as goal

abbrev pub invariant-loop : goal.invariant-loop
invariant-loop l = steps l.file l.cursor (l.k - l.counter) ≡ listed l.file l.k
