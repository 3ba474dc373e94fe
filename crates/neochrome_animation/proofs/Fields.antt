-- What each list answers, field by field, of the file's bytes.
use Rattle.std.specs.Prelude.{Ok}
use mathlib.Core.Path.{◌≡◌, refl, sym, ap, ◌∙◌}
use mathlib.Core.Bool.{Bool, true, false}
use mathlib.Core.Logic.{◌↔◌}
use mathlib.Core.List.{List}
use Prim.Native.Nat.{ℕ, ◌-◌, ◌≤◌}
use native.Mathlib.Omega.{arith}
use lib.ListN.{get_or}
use lib.Dec.{leb}
use borrow.Author.Tests.{le-leb, leb-true}
use Rattle.lists.specs.Bytes.{Bytes}
use Rattle.words.specs.Word.{word_at}
use Rattle.neochrome_animation.specs.declared.AnimationAnswer.{AnimationAnswer}
use Rattle.neochrome_animation.specs.declared.Direction.{Direction}
use Rattle.neochrome_animation.specs.Layout.{on_start, speed_start}
use Rattle.neochrome_animation.specs.Speed.{direction_number, direction_of, vblanks_of}
use Rattle.neochrome_animation.specs.Lists.{limits_at, shown, shown1989, shown2008, bit15_at}
use Rattle.neochrome_animation.specs.Judging.{animation_answer}
use Rattle.neochrome_animation.specs.Fields.{SpeedShown, BothShow, Shows1989, Shows2008}
use Rattle.neochrome_animation.proofs.Speed.{stopped-speed, right-speed, left-speed}
use Rattle.neochrome_animation.proofs.Lists.{high_bit}
use Rattle.neochrome_animation.proofs.Judging.{valid-shown}

-- a test by the high bit says what the byte's size does
high-exactly : (t : Bool) (byte : ℕ) → t ≡ leb 128 byte → (t ≡ true) ↔ (128 ≤ byte)
high-exactly t byte e = (λ h. leb-true 128 byte (sym e ∙ h), λ h. e ∙ le-leb 128 byte h)

-- each of the 256 signed speeds
speed-shown : (a : AnimationAnswer) (byte : ℕ) → a.direction ≡ direction_number (direction_of byte)
    → a.vblanks ≡ vblanks_of byte → SpeedShown byte a
speed-shown a byte d v = record {
  zero = λ e. at 0 e stopped-speed;
  positive = λ x h k e. at x e (right-speed x h k);
  negative = λ x h k e. at (256 - x) (omega arith) (left-speed x h k);
}
  where
    at : (b : ℕ) → byte ≡ b → {direction : Direction} {n : ℕ} → (direction_of b ≡ direction) × (vblanks_of b ≡ n)
        → (a.direction ≡ direction_number direction) × (a.vblanks ≡ n)
    at b e s = (d ∙ ap direction_number (ap direction_of e ∙ s.0), v ∙ ap vblanks_of e ∙ s.1)

-- what both show alike, over the mark of the limits and the step count
module _ (file : List ℕ) (on : Bool) (steps : ℕ) (e : on ≡ leb 128 (get_or file on_start 0)) where
  both-show : (valid : Bool) → BothShow file (animation_answer (Ok (shown file valid on steps)))
  both-show true = record {
    limits = λ _. (omega arith, omega arith);
    no-limits = λ h. let z : ◌≡◌ {A = ℕ} 0 1 = cc in absurd (omega arith);
    on-exactly = high-exactly on (get_or file on_start 0) e;
    speed = speed-shown _ (get_or file speed_start 0) refl refl;
  }
  both-show false = record {
    limits = λ h. let z : ◌≡◌ {A = ℕ} 0 1 = cc in absurd (omega arith);
    no-limits = λ _. (refl, refl);
    on-exactly = high-exactly on (get_or file on_start 0) e;
    speed = speed-shown _ (get_or file speed_start 0) refl refl;
  }

module _ (file : List ℕ) where
  pub shows-1989 : Shows1989 file (animation_answer (Ok (shown1989 file)))
  unfolding shown1989
  shows-1989 = record { both = both-show file _ 0 refl true; valid = refl; steps = refl }

  pub shows-2008 : Bytes file → Shows2008 file (animation_answer (Ok (shown2008 file)))
  unfolding shown2008 word_at
  shows-2008 bytes = record {
    both = both-show file _ _ (sym (high_bit file bytes 50)) (bit15_at file 48);
    valid-exactly =
        high-exactly _ (get_or file 48 0)
        (valid-shown (bit15_at file 48) (limits_at file) ∙ sym (high_bit file bytes 48));
    steps = refl;
  }
