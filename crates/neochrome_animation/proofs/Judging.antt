-- Laws of judging: which list is asked, and what each comes to by how it opens the file.
use Rattle.std.specs.Prelude.{Ok, Err, Some, None}
use mathlib.Core.Path.{◌≡◌, refl}
use mathlib.Core.Bool.{Bool, true, false, cond}
use mathlib.Core.List.{List}
use Prim.Native.Nat.{ℕ}
use native.Mathlib.Omega.{arith}
use borrow.Author.Tests.{eq-eqb, ne_eqb}
use Rattle.outcome.specs.declared.Refusal.{Refusal}
use Rattle.outcome.specs.Outcome.{Outcome, refuse}
use Rattle.outcome.specs.Refusal.{unknown_kind}
use Rattle.resolution.specs.declared.Resolution.{Resolution}
use Rattle.neochrome.specs.Opening.{opening}
use Rattle.neochrome_animation.specs.declared.ColourAnimation.{ColourAnimation}
use Rattle.neochrome_animation.specs.Lists.{opening1989, shown1989, shown2008}
use Rattle.neochrome_animation.specs.declared.Limits.{Limits}
use Rattle.neochrome_animation.specs.Judging.{animation1989, animation2008, animation, are_valid}

module _ (file : List ℕ) where
  -- ---- the list

  pub list-1989 : (list : ℕ) → list ≡ 1 → animation list file ≡ animation1989 file
  unfolding animation
  list-1989 list e = simp (eq-eqb list 1 e)

  pub list-2008 : (list : ℕ) → list ≡ 2 → animation list file ≡ animation2008 file
  unfolding animation
  list-2008 list e = simp (ne_eqb list 1 (omega arith), eq-eqb list 2 e)

  pub list-other : (list : ℕ) → (list ≡ 1 → ⊥) → (list ≡ 2 → ⊥) → animation list file ≡ refuse unknown_kind
  unfolding animation
  list-other list h k = simp (ne_eqb list 1 h, ne_eqb list 2 k)

  -- ---- the opening

  pub opened-1989 : (r : Resolution) → opening1989 file ≡ Ok r → animation1989 file ≡ Ok (shown1989 file)
  unfolding animation1989
  opened-1989 r e = rw e

  pub refused-1989 : (why : Refusal) → opening1989 file ≡ Err why → animation1989 file ≡ Err why
  unfolding animation1989
  refused-1989 why e = rw e

  pub opened-2008 : (r : Resolution) → opening file ≡ Ok r → animation2008 file ≡ Ok (shown2008 file)
  unfolding animation2008
  opened-2008 r e = rw e

  pub refused-2008 : (why : Refusal) → opening file ≡ Err why → animation2008 file ≡ Err why
  unfolding animation2008
  refused-2008 why e = rw e

-- ---- the limits

-- limits are answered as valid where they are shown
pub valid-shown : (valid : Bool) (limits : Limits) → are_valid (cond valid (Some limits) None) ≡ valid
valid-shown true limits = refl
valid-shown false limits = refl
