-- Headers as each list shows them, computed.
use Rattle.std.specs.Prelude.{cond, Ok, Some, None}
use mathlib.Core.Path.{◌≡◌, refl}
use mathlib.Core.Bool.{Bool, true, false}
use mathlib.Core.List.{List, [], ◌∷◌, ◌++◌}
use Prim.Native.Nat.{ℕ}
use lib.ListN.{replicate}
use Rattle.words.specs.Word.{word_at}
use Rattle.neochrome_animation.specs.declared.ColourAnimation.{ColourAnimation}
use Rattle.neochrome_animation.specs.declared.Direction.{Direction}
use Rattle.neochrome_animation.specs.declared.Direction.TheVariants.{Stopped, Left, Right}
use Rattle.neochrome_animation.specs.Lists.{shown1989, shown2008}
use Rattle.neochrome_animation.specs.Judging.{animation_answer}

-- a header up to byte 53, with these bytes from 48 on
abbrev header : List ℕ → List ℕ
header animation = replicate 48 0 ++ animation

-- a header shown so, and the limits in C's answer, where those that are not valid are 0 and 0
abbrev Shows : ColourAnimation → Bool → ℕ → ℕ → Bool → Direction → ℕ → ℕ → Type 0
Shows shown valid left right on direction vblanks steps =
    (shown ≡ record {
      limits = cond valid (Some (record { left = left; right = right })) None;
      on = on;
      direction = direction;
      vblanks = vblanks;
      step_count = steps;
    })
    × ((animation_answer (Ok shown)).left_limit ≡ left)
    × ((animation_answer (Ok shown)).right_limit ≡ right)

-- limits 3 and 10 not marked valid, on, -128, 258 steps: the lists differ in the limits and the steps
pub not_valid : Shows (shown1989 (header (0 ∷ 58 ∷ 128 ∷ 128 ∷ 1 ∷ 2 ∷ []))) true 3 10 true Left 127 0
    × Shows (shown2008 (header (0 ∷ 58 ∷ 128 ∷ 128 ∷ 1 ∷ 2 ∷ []))) false 0 0 true Left 127 258
unfolding shown1989 shown2008 word_at
not_valid = ((refl, refl, refl), (refl, refl, refl))

-- marked valid, on, a speed of 0: stopped, and still on
pub stopped-on : Shows (shown1989 (header (128 ∷ 58 ∷ 128 ∷ 0 ∷ 0 ∷ 0 ∷ []))) true 3 10 true Stopped 0 0
    × Shows (shown2008 (header (128 ∷ 58 ∷ 128 ∷ 0 ∷ 0 ∷ 0 ∷ []))) true 3 10 true Stopped 0 0
unfolding shown1989 shown2008 word_at
stopped-on = ((refl, refl, refl), (refl, refl, refl))

-- all bits but the high one say nothing: off, and the limits, also in falling order, as they stand
pub off : Shows (shown1989 (header (255 ∷ 163 ∷ 127 ∷ 1 ∷ 0 ∷ 0 ∷ []))) true 10 3 false Right 0 0
    × Shows (shown2008 (header (255 ∷ 163 ∷ 127 ∷ 1 ∷ 0 ∷ 0 ∷ []))) true 10 3 false Right 0 0
unfolding shown1989 shown2008 word_at
off = ((refl, refl, refl), (refl, refl, refl))
