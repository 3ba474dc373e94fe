use Rattle.std.proofs.Common.{◌≡◌, ℕ, Bool}
use Rattle.lists.specs.All.{all_below}
use Rattle.legend.specs.declared.Legend.{Legend}
use Rattle.legend.specs.Entries.{entry_fits, owner_of, class_of, confidence_of}
use Rattle.legend.proofs.legend_fits.Given as goal

abbrev pub fits : Legend → ℕ → Bool
fits l v = entry_fits (owner_of l v) (class_of l v) (confidence_of l v)

abbrev pub invariant-loop-v : goal.invariant-loop-v
invariant-loop-v l = l.fit ≡ all_below l.v (fits l.legend)
