-- Which bytes of a file matter: all others are ignored.
use mathlib.Core.Path.{◌≡◌}
use mathlib.Core.List.{List}
use Prim.Native.Nat.{ℕ, ◌≤◌, ◌<◌}
use native.Mathlib.Omega.{arith}
use lib.ListN.{length, get_or}
use lib.Dec.{leb}
use Rattle.words.specs.Word.{word_at}
use Rattle.neochrome.specs.Opening.{opening}
use Rattle.neochrome_animation.specs.Lists.{opening1989, shown1989, shown2008}
use Rattle.neochrome_animation.specs.Judging.{animation1989, animation2008, animation}

module _ (file other : List ℕ) (size : length file ≡ length other) where
  abbrev Same : ℕ → Type 0
  Same at = get_or file at 0 ≡ get_or other at 0

  module _ (first : (at : ℕ) → at < 4 → Same at) where
    b0 : Same 0
    b0 = first 0 (omega arith)

    b1 : Same 1
    b1 = first 1 (omega arith)

    b2 : Same 2
    b2 = first 2 (omega arith)

    b3 : Same 3
    b3 = first 3 (omega arith)

    -- 1989: bytes 0 to 3, the limits, the high bit of byte 50 and the speed; byte 48 and word 52 are ignored
    pub read-1989 : Same 49 → leb 128 (get_or file 50 0) ≡ leb 128 (get_or other 50 0) → Same 51
        → animation 1 file ≡ animation 1 other
    unfolding animation animation1989 opening1989 shown1989 word_at
    read-1989 limits on speed = rw (size, b0, b1, b2, b3, limits, on, speed)

    -- 2008: bytes 0 to 3 and 48 to 53
    pub read-2008 : ((at : ℕ) → 48 ≤ at → at < 54 → Same at) → animation 2 file ≡ animation 2 other
    unfolding animation animation2008 opening shown2008 word_at
    read-2008 then =
        rw (
          size,
          b0,
          b1,
          b2,
          b3,
          then 48 (omega arith) (omega arith),
          then 49 (omega arith) (omega arith),
          then 50 (omega arith) (omega arith),
          then 51 (omega arith) (omega arith),
          then 52 (omega arith) (omega arith),
          then 53 (omega arith) (omega arith),
        )
