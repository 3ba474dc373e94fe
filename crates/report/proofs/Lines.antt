-- Laws of the summary's lines.
use mathlib.Core.Path.{◌≡◌, sym}
use mathlib.Core.List.{List, ◌++◌}
use Prim.Native.Nat.{ℕ, ◌+◌, ◌<◌}
use lib.ListN.{length, take, get_or}
use Rattle.lists.proofs.Flatten.{flatten-take}
use Rattle.report.specs.Labels.{blank}
use Rattle.report.specs.Lines.{item, items}

-- the tally's counts, one a turn
pub items_more : (counts : List ℕ) (i : ℕ) → i < length counts
    → items (take i counts) ++ item blank (get_or counts i 0) ≡ items (take (i + 1) counts)
unfolding items
items_more counts i h = sym (flatten-take (item blank) counts 0 i h)
