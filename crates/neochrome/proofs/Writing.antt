-- Laws of writing a NEOchrome file, by what judging comes to.
use mathlib.Core.Path.{◌≡◌}
use mathlib.Core.List.{List}
use Prim.Native.Nat.{ℕ}
use lib.ListN.{length}
use Rattle.resolution.specs.declared.Resolution.{Resolution}
use Rattle.picture.specs.declared.Picture.{Picture}
use Rattle.picture.specs.Writing.{raw_writing}
use Rattle.picture.proofs.Writing.{Passed, judge-passed}
use Rattle.neochrome.specs.Layout.{neochrome_file}
use Rattle.neochrome.specs.Writing.{write_neochrome}

module _ (p : Picture) (screen : List ℕ) (out : ℕ) where
  pub write-passed : (r : Resolution) → Passed (length screen) out p.resolution r
      → write_neochrome p screen out ≡ raw_writing (neochrome_file p screen)
  unfolding write_neochrome
  write-passed r a = rw (judge-passed (length screen) out p.resolution r a)
