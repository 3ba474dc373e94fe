-- What each list answers of an accepted file, a second time: field by field, of the file's bytes alone (document 02,
-- ticket 10).
use Rattle.std.specs.Prelude.{ℕ, ◌+◌, ◌*◌, ◌-◌, ◌≤◌, ◌<◌, ◌≡◌, true, false, ◌↔◌, List, get_or}
use Rattle.neochrome_animation.specs.declared.AnimationAnswer.{AnimationAnswer}

-- "byte 51 a signed speed: negative is left, positive right, 0 stopped, and |x| - 1 vblanks lie between cycles": the
-- bytes 1 to 127 are the positive numbers, the bytes 128 to 255 the negative ones, each with 256 added; stopped has the
-- number 0, left 1, right 2
pub record SpeedShown (byte : ℕ) (a : AnimationAnswer) : Type 0 where
  pub zero : byte ≡ 0 → (a.direction ≡ 0) × (a.vblanks ≡ 0)
  pub positive : (x : ℕ) → 1 ≤ x → x ≤ 127 → byte ≡ x → (a.direction ≡ 2) × (a.vblanks ≡ x - 1)
  pub negative : (x : ℕ) → 1 ≤ x → x ≤ 128 → byte + x ≡ 256 → (a.direction ≡ 1) × (a.vblanks ≡ x - 1)

-- the fields that both lists read alike: the limits where they are valid and else 0 and 0; on, also of a speed of 0;
-- the speed
pub record BothShow (file : List ℕ) (a : AnimationAnswer) : Type 0 where
  pub limits : a.limits_valid ≡ true
      → (a.left_limit * 16 + a.right_limit ≡ get_or file 49 0) × (a.right_limit < 16)
  pub no-limits : a.limits_valid ≡ false → (a.left_limit ≡ 0) × (a.right_limit ≡ 0)
  pub on-exactly : (a.on ≡ true) ↔ (128 ≤ get_or file 50 0)
  pub speed : SpeedShown (get_or file 51 0) a

-- 1989: the limits are always valid, the step count is 0
pub record Shows1989 (file : List ℕ) (a : AnimationAnswer) : Type 0 where
  pub both : BothShow file a
  pub valid : a.limits_valid ≡ true
  pub steps : a.step_count ≡ 0

-- 2008: a mark for the limits, and a step count
pub record Shows2008 (file : List ℕ) (a : AnimationAnswer) : Type 0 where
  pub both : BothShow file a
  pub valid-exactly : (a.limits_valid ≡ true) ↔ (128 ≤ get_or file 48 0)
  pub steps : a.step_count ≡ get_or file 52 0 * 256 + get_or file 53 0
