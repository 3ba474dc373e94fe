-- Demand 2 of NEOchrome files: one is accepted exactly when it fits, and then gives what its parts are.
use Rattle.std.specs.Prelude.{Ok}
use mathlib.Core.Path.{◌≡◌, sym, ap, ◌∙◌}
use mathlib.Core.Logic.{◌↔◌}
use mathlib.Core.List.{List}
use Prim.Native.Nat.{ℕ, ◌≤◌}
use native.Mathlib.Omega.{arith}
use lib.ListN.{drop, length-drop}
use lib.Seq.{length-take-le}
use Rattle.lists.proofs.Cond.{cond-ltb}
use Rattle.outcome.specs.Outcome.{Judged}
use Rattle.outcome.proofs.Outcome.{judged-value, judged-map, judged-bind}
use Rattle.resolution.specs.Shapes.{screen_bytes}
use Rattle.resolution.proofs.Choice.{chosen-number}
use Rattle.picture.specs.Reading.{Reading}
use Rattle.picture.specs.Whole.{WholeReading}
use Rattle.picture.proofs.Whole.{whole-without-tail}
use Rattle.neochrome.specs.Layout.{palette_start, screen_start}
use Rattle.neochrome.specs.Opening.{opening}
use Rattle.neochrome.specs.Reading.{neochrome_reading, read_neochrome}
use Rattle.neochrome.specs.Accepts.{AcceptsNeochrome, neochrome_given}
use Rattle.neochrome.proofs.Opening.{Passes, opening-judged, opening-accepted}
use Rattle.neochrome.proofs.Reading.{read_opened}

module _ (file : List ℕ) (area : ℕ) where
  -- what is read of a file that fits
  abbrev pub Given : Reading → Type 0
  Given q = (a : AcceptsNeochrome file) × (q ≡ neochrome_given a)

  pub neochrome-judged : Judged Given (read_neochrome file area)
  unfolding read_neochrome
  neochrome-judged =
      cond-ltb (Judged Given) area screen_bytes (λ _ n. omega arith) (λ _.
      judged-bind (Passes file) Given (opening file) (λ r. Ok (neochrome_reading file r)) (opening-judged file)
      (λ r p. (p.0, ap (neochrome_reading file) (sym p.1))))

  -- a file that fits is accepted
  pub neochrome-complete : screen_bytes ≤ area → (a : AcceptsNeochrome file)
      → read_neochrome file area ≡ Ok (neochrome_given a)
  neochrome-complete room a = read_opened file area room a.resolution (opening-accepted file a)

  -- accepted exactly when it fits, and then with this
  pub neochrome-acceptance : screen_bytes ≤ area → (q : Reading) → (read_neochrome file area ≡ Ok q) ↔ Given q
  neochrome-acceptance room q = (
    judged-value Given (read_neochrome file area) q neochrome-judged,
    λ g. neochrome-complete room g.0 ∙ ap Ok (sym g.1),
  )

  -- ---- every accepted reading is whole

  given-whole : (a : AcceptsNeochrome file) → WholeReading (neochrome_given a)
  given-whole a = record {
    whole = whole-without-tail file _ palette_start;
    resolution = a.resolution;
    known = chosen-number a.resolution;
    size = length-take-le screen_bytes (drop screen_start file) (omega (arith, length-drop screen_start file, a.fits));
  }

  pub neochrome-whole : Judged WholeReading (read_neochrome file area)
  neochrome-whole =
      judged-map Given WholeReading (read_neochrome file area) neochrome-judged (λ q g. rw g.1 (given-whole g.0))
