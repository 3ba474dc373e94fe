-- Laws of `judge_raster`.
use Rattle.std.specs.Prelude.{Ok, Err, ⊤}
use mathlib.Core.Path.{◌≡◌}
use mathlib.Core.Bool.{Bool, true, false}
use Prim.Native.Nat.{ℕ, ◌≤◌}
use native.Mathlib.Omega.{arith}
use lib.Dec.{ltb}
use borrow.Author.Tests.{le-ltb, ltb-false}
use Rattle.outcome.specs.declared.Refusal.{Refusal}
use Rattle.outcome.specs.Outcome.{Outcome, refuse_if}
use Rattle.outcome.specs.Refusal.{area_too_short, out_of_range}
use Rattle.outcome.proofs.Outcome.{passed}
use Rattle.packbits.specs.Row.{width_out_of_range}
use Rattle.raster.specs.declared.Raster.{Raster}
use Rattle.raster.specs.Shape.{row_bytes, bytes}
use Rattle.bodies.specs.Body.{judge_raster}

module _ (r : Raster) (room : ℕ) where
  module _ {A : Type 0} (further : Outcome A) where
    -- judged further where neither test holds
    pub judge-room : width_out_of_range (row_bytes r) ≡ false → bytes r ≤ room → judge_raster r room further ≡ further
    judge-room w h = rw (w, le-ltb room (bytes r) h)

    pub judge-accepted : (a : A) → judge_raster r room further ≡ Ok a
        → (width_out_of_range (row_bytes r) ≡ false) × (bytes r ≤ room) × (further ≡ Ok a)
    judge-accepted a e =
        let second = refuse_if (ltb room (bytes r)) area_too_short further in
        let w = passed (width_out_of_range (row_bytes r)) out_of_range second a e in
        let s = passed (ltb room (bytes r)) area_too_short further a w.1 in
        (w.0, ltb-false room (bytes r) s.0, s.1)

  -- what is accepted by itself has rows of a width in range, and an area that holds it
  pub judge-fits : (t : ⊤) → judge_raster r room (Ok tt) ≡ Ok t
      → (width_out_of_range (row_bytes r) ≡ false) × (bytes r ≤ room)
  judge-fits t e = let j = judge-accepted (Ok tt) t e in (j.0, j.1)

  -- what is refused by itself is refused before it is judged further
  pub judge-refused : {A : Type 0} (further : Outcome A) (why : Refusal)
      → judge_raster {A = ⊤} r room (Ok tt) ≡ Err why → judge_raster r room further ≡ Err why
  judge-refused {A} further why = go (width_out_of_range (row_bytes r)) (ltb room (bytes r))
    where
      both : {B : Type 0} → Bool → Bool → Outcome B → Outcome B
      both out short then = refuse_if out out_of_range (refuse_if short area_too_short then)

      go : (out short : Bool) → both {B = ⊤} out short (Ok tt) ≡ Err why → both out short further ≡ Err why
      go true short e = cc
      go false true e = cc
      go false false e = let z : ◌≡◌ {A = ℕ} 0 1 = cc in absurd (omega arith)
