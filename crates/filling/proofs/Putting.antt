-- The loop that puts what each step makes behind what is made, over the front of an output: its invariant, its turn and
-- its end.
use Rattle.outcome.specs.Outcome.{Outcome}
use mathlib.Core.Path.{◌≡◌, refl, ap, ◌∙◌, subst}
use mathlib.Core.List.{List}
use Prim.Native.Nat.{ℕ, ◌+◌, ◌-◌, ◌≤◌}
use lib.ListN.{length, take, drop}
use borrow.Rule.Slice.PartMut.{put_mid}
use Rattle.lists.specs.Over.{over}
use Rattle.lists.proofs.Pieces.{PartlyWritten, writing_start, writing-end, piece-fits, writing_more}
use Rattle.filling.specs.Filling.{Filling, stopped, after}

-- `to` bytes of `out` are put, `rest` is what filling still comes to, `whole` what it comes to in all, and out₀ what
-- `out` was
pub record Putting (whole rest : Filling) (out₀ out : List ℕ) (to : ℕ) : Type 0 where
  pub put : PartlyWritten whole.made rest.made out₀ out to
  pub same : whole.ends ≡ rest.ends

pub putting-start : (whole : Filling) (out : List ℕ) → Putting whole whole out out 0
putting-start whole out = record { put = writing_start whole.made out; same = refl }

module _ {whole rest : Filling} {out₀ out : List ℕ} {to : ℕ} (p : Putting whole rest out₀ out to) where
  -- a step that is accepted
  module _ (made : List ℕ) (further : Filling) (is : rest ≡ after made further)
      (fits : length whole.made ≤ length out₀) where
    begun : PartlyWritten whole.made (after made further).made out₀ out to
    begun = subst (λ (f : Filling). PartlyWritten whole.made f.made out₀ out to) is p.put

    -- its bytes fit the part of the output that is lent
    pub step_fits : length made ≤ length (take (length out - to) (drop to out))
    step_fits = piece-fits made further.made fits begun

    pub putting-turn : (last : List ℕ) → last ≡ over made (take (length out - to) (drop to out))
        → Putting whole further out₀ (put_mid to (length out - to) out last) (to + length made)
    putting-turn last e =
        record {
          put = writing_more made further.made fits begun last e;
          same = p.same ∙ ap (λ (f : Filling). f.ends) is;
        }

  -- no further step
  pub putting-done : (ends : Outcome ℕ) → rest ≡ stopped ends → (whole.ends ≡ ends) × (out ≡ over whole.made out₀)
  putting-done ends is = (
    p.same ∙ ap (λ (f : Filling). f.ends) is,
    (writing-end (subst (λ (f : Filling). PartlyWritten whole.made f.made out₀ out to) is p.put)).all,
  )

-- the same under other names
pub putting-as : {whole rest other : Filling} {out₀ out : List ℕ} {to n : ℕ} → rest ≡ other → to ≡ n
    → Putting whole rest out₀ out to → Putting whole other out₀ out n
putting-as {whole} {rest} {other} {out₀} {out} {to} {n} e f p =
    subst (λ (k : ℕ). Putting whole other out₀ out k) f (subst (λ (g : Filling). Putting whole g out₀ out to) e p)
