-- Laws of a signed speed.
use mathlib.Core.Path.{◌≡◌, refl, ◌∙◌}
use Prim.Native.Nat.{ℕ, ◌-◌, ◌≤◌, ◌<◌}
use native.Mathlib.Omega.{arith}
use borrow.Author.Tests.{lt-ltb, le-ltb, ne_eqb}
use Rattle.neochrome_animation.specs.declared.Direction.{Direction}
use Rattle.neochrome_animation.specs.declared.Direction.TheVariants.{Stopped, Left, Right}
use Rattle.neochrome_animation.specs.Speed.{direction_number, direction_of, vblanks_of}

-- ---- a byte below 128 but 0, and one from 128 on

module _ (byte : ℕ) where
  pub direction-right : (byte ≡ 0 → ⊥) → byte < 128 → direction_of byte ≡ Right
  direction-right n h = rw (ne_eqb byte 0 n, lt-ltb byte 128 h)

  pub vblanks-right : (byte ≡ 0 → ⊥) → byte < 128 → vblanks_of byte ≡ byte - 1
  vblanks-right n h = rw (ne_eqb byte 0 n, lt-ltb byte 128 h)

  pub direction-left : 128 ≤ byte → direction_of byte ≡ Left
  direction-left h = rw (ne_eqb byte 0 (λ e. omega arith), le-ltb byte 128 h)

  pub vblanks-left : 128 ≤ byte → vblanks_of byte ≡ 255 - byte
  vblanks-left h = rw (ne_eqb byte 0 (λ e. omega arith), le-ltb byte 128 h) (omega arith)

-- ---- each of the 256 signed numbers: 0, 1 to 127, and -1 to -128, whose bytes are 255 to 128

pub stopped-speed : (direction_of 0 ≡ Stopped) × (vblanks_of 0 ≡ 0)
stopped-speed = (refl, refl)

pub right-speed : (x : ℕ) → 1 ≤ x → x ≤ 127 → (direction_of x ≡ Right) × (vblanks_of x ≡ x - 1)
right-speed x h k =
    (direction-right x (λ e. omega arith) (omega arith), vblanks-right x (λ e. omega arith) (omega arith))

pub left-speed : (x : ℕ) → 1 ≤ x → x ≤ 128 → (direction_of (256 - x) ≡ Left) × (vblanks_of (256 - x) ≡ x - 1)
left-speed x h k = (direction-left (256 - x) (omega arith), vblanks-left (256 - x) (omega arith) ∙ omega arith)

-- ---- no two directions have one number

pub number-injective : (d e : Direction) → direction_number d ≡ direction_number e → d ≡ e
number-injective Stopped Stopped _ = refl
number-injective Left Left _ = refl
number-injective Right Right _ = refl
number-injective Stopped Left h = absurd (omega arith)
number-injective Stopped Right h = absurd (omega arith)
number-injective Left Stopped h = absurd (omega arith)
number-injective Left Right h = absurd (omega arith)
number-injective Right Stopped h = absurd (omega arith)
number-injective Right Left h = absurd (omega arith)
