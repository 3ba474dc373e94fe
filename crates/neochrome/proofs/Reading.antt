-- Laws of reading a NEOchrome file, by what its area and its opening come to.
use Rattle.std.specs.Prelude.{Ok, Err}
use mathlib.Core.Path.{◌≡◌, ◌∙◌}
use mathlib.Core.List.{List}
use Prim.Native.Nat.{ℕ, ◌≤◌}
use Rattle.outcome.specs.declared.Refusal.{Refusal}
use Rattle.outcome.specs.Outcome.{bind}
use Rattle.resolution.specs.declared.Resolution.{Resolution}
use Rattle.resolution.specs.Shapes.{screen_bytes}
use Rattle.picture.proofs.Reading.{area-fits}
use Rattle.neochrome.specs.Opening.{opening}
use Rattle.neochrome.specs.Reading.{neochrome_reading, read_neochrome}

module _ (file : List ℕ) (area : ℕ) where
  module _ (room : screen_bytes ≤ area) where
    read_fits : read_neochrome file area ≡ bind (opening file) (λ r. Ok (neochrome_reading file r))
    unfolding read_neochrome
    read_fits = area-fits area (bind (opening file) (λ r. Ok (neochrome_reading file r))) room

    pub read-refused : (why : Refusal) → opening file ≡ Err why → read_neochrome file area ≡ Err why
    read-refused why e = read_fits ∙ rw e

    pub read_opened : (r : Resolution) → opening file ≡ Ok r
        → read_neochrome file area ≡ Ok (neochrome_reading file r)
    read_opened r e = read_fits ∙ rw e
