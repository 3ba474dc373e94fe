-- A signed speed: direction, and vblanks between two cycles (document 02, ticket 10).
use Rattle.std.specs.Prelude.{ℕ, ◌-◌, cond, ltb, eqb}
use Rattle.neochrome_animation.specs.declared.Direction.{Direction}
use Rattle.neochrome_animation.specs.declared.Direction.TheVariants.{Stopped, Left, Right}

-- the number of each direction in an answer; of left and right a house choice
abbrev pub direction_number : Direction → ℕ
direction_number Stopped = 0
direction_number Left = 1
direction_number Right = 2

-- the direction of a byte's signed number x: negative is left, positive right, 0 stopped
abbrev pub direction_of : ℕ → Direction
direction_of byte = cond (eqb byte 0) Stopped (cond (ltb byte 128) Right Left)

-- its |x|: a byte from 128 on stands for itself less 256
abbrev pub absolute : ℕ → ℕ
absolute byte = cond (ltb byte 128) byte (256 - byte)

-- |x| - 1 vblanks lie between cycles; stopped gives 0
abbrev pub vblanks_of : ℕ → ℕ
vblanks_of byte = cond (eqb byte 0) 0 (absolute byte - 1)
