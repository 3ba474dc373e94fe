-- Laws of a row's width.
use Prim.Native.Nat.{ℕ, ◌≤◌, ◌<◌}
use native.Mathlib.Omega.{arith}
use mathlib.Core.Path.{◌≡◌, refl, ◌∙◌}
use mathlib.Core.Bool.{Bool, true, false, ◌||◌}
use lib.Dec.{ltb, eqb}
use borrow.Author.Tests.{le-ltb, ne_eqb, eqb-false, ltb-false}
use Rattle.packbits.specs.Row.{width_out_of_range}

pub in-range : (width : ℕ) → width_out_of_range width ≡ false → (0 < width) × (width ≤ 128)
in-range width = go (eqb width 0) (ltb 128 width) refl refl
  where
    go : (a b : Bool) → eqb width 0 ≡ a → ltb 128 width ≡ b → (a || b) ≡ false → (0 < width) × (width ≤ 128)
    go true b p q e = let z : ◌≡◌ {A = ℕ} 0 1 = cc in absurd (omega arith)
    go false b p q e = let ne : width ≡ 0 → ⊥ = eqb-false width 0 p in (omega arith, ltb-false 128 width (q ∙ e))

pub of_range : (width : ℕ) → 0 < width → width ≤ 128 → width_out_of_range width ≡ false
of_range width some narrow = simp (ne_eqb width 0 (omega arith), le-ltb 128 width narrow)
