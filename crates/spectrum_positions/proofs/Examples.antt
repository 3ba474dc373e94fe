-- Worked examples of the rule of ticket 5, computed: an even and an odd register, and questions outside.
use Rattle.std.specs.Prelude.{Ok}
use mathlib.Core.Path.{◌≡◌, refl}
use Rattle.outcome.specs.Outcome.{refuse}
use Rattle.spectrum_positions.specs.Positions.{second_from, position_of, judge_position}

-- the palette changes of registers 0, 1 and 15
pub changes : (position_of 0 0 ≡ 0) × (position_of 1 0 ≡ 16) × (position_of 160 0 ≡ 16) × (position_of 161 0 ≡ 32)
    × (position_of 4 1 ≡ 1) × (position_of 5 1 ≡ 17) × (position_of 164 1 ≡ 17) × (position_of 165 1 ≡ 33)
    × (position_of 144 15 ≡ 15) × (position_of 145 15 ≡ 31) × (position_of 304 15 ≡ 31) × (position_of 305 15 ≡ 47)
unfolding position_of second_from
changes = (refl, refl, refl, refl, refl, refl, refl, refl, refl, refl, refl, refl)

pub questions : (judge_position 319 15 ≡ Ok 47)
    × (judge_position 320 15 ≡ refuse 10)
    × (judge_position 319 16 ≡ refuse 10)
unfolding judge_position position_of second_from
questions = (refl, refl, refl)
