-- Lent areas of the stated sizes (document 01, "Order of judging").
use Rattle.std.specs.Prelude.{ℕ, ◌≤◌, ◌≡◌, List, length, Some}
use Rattle.resolution.specs.declared.Resolution.{Resolution}
use Rattle.resolution.specs.Choice.{chosen}
use Rattle.resolution.specs.Shapes.{screen_bytes}
use Rattle.picture.specs.declared.Picture.{Picture}
use Rattle.picture.specs.Writing.{file_bytes}

-- 32,000 bytes at least
abbrev pub HoldsScreen : List ℕ → Type 0
HoldsScreen area = screen_bytes ≤ length area

-- 32,128 bytes at least
abbrev pub HoldsFile : List ℕ → Type 0
HoldsFile out = file_bytes ≤ length out

-- "Given resolution 0, 1 or 2 and lent areas of at least the stated sizes"
pub record Stated (r : Resolution) (p : Picture) (screen out : List ℕ) : Type 0 where
  pub known : chosen p.resolution ≡ Some r
  pub screen-fits : HoldsScreen screen
  pub output-fits : HoldsFile out
