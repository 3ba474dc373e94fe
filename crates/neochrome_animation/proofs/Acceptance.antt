-- Which files each list accepts, and how it refuses the others, beside the reader of NEOchrome files.
use Rattle.std.specs.Prelude.{Ok, Err}
use mathlib.Core.Path.{◌≡◌, refl, sym, ap, ◌∙◌}
use mathlib.Core.Logic.{◌↔◌}
use mathlib.Core.List.{List}
use Prim.Native.Nat.{ℕ, ◌≤◌}
use native.Mathlib.Omega.{arith}
use Rattle.lists.proofs.Cond.{cond-eqb}
use Rattle.outcome.specs.declared.Refusal.{Refusal}
use Rattle.outcome.specs.Outcome.{Outcome, map, refusal_of}
use Rattle.resolution.specs.declared.Resolution.{Resolution}
use Rattle.resolution.specs.Shapes.{screen_bytes}
use Rattle.neochrome.specs.Accepts.{AcceptsNeochrome}
use Rattle.neochrome.specs.Opening.{opening}
use Rattle.neochrome.specs.Reading.{read_neochrome}
use Rattle.neochrome.proofs.Opening.{opening-accepted}
use Rattle.neochrome.proofs.Reading.{read-refused, read_opened}
use Rattle.neochrome_animation.specs.declared.ColourAnimation.{ColourAnimation}
use Rattle.neochrome_animation.specs.Lists.{opening1989, flag_as_resolution, shown1989, shown2008}
use Rattle.neochrome_animation.specs.Judging.{animation1989, animation2008, animation}
use Rattle.neochrome_animation.proofs.Lists.{opened-as-1989, refused-as-1989, opened-as-2008, opened-accepts}
use Rattle.neochrome_animation.proofs.Judging.{list-1989, list-2008}
use Rattle.neochrome_animation.proofs.Judging.{opened-1989, refused-1989, opened-2008, refused-2008}

-- ---- accepted exactly when it fits

-- what is made of an opened file's resolution was made of one
mapped : (o : Outcome Resolution) (s a : ColourAnimation) → map (λ _. s) o ≡ Ok a
    → (r : Resolution) × (o ≡ Ok r) × (a ≡ s)
mapped (Ok r) s a e = (r, refl, cc)
mapped (Err why) s a e = let z : ◌≡◌ {A = ℕ} 0 1 = cc in absurd (omega arith)

module _ (file : List ℕ) (a : ColourAnimation) where
  pub acceptance-1989 : (animation 1 file ≡ Ok a) ↔ (AcceptsNeochrome file × (a ≡ shown1989 file))
  unfolding animation1989
  acceptance-1989 = (
    λ e. let m = mapped (opening1989 file) (shown1989 file) a (sym (list-1989 file 1 refl) ∙ e) in
        (opened-accepts file m.0 (opened-as-2008 file m.0 m.1), m.2),
    λ g. let o = opened-as-1989 file g.0.resolution (opening-accepted file g.0) in
        list-1989 file 1 refl ∙ opened-1989 file g.0.resolution o ∙ ap Ok (sym g.1),
  )

  pub acceptance-2008 : (animation 2 file ≡ Ok a) ↔ (AcceptsNeochrome file × (a ≡ shown2008 file))
  unfolding animation2008
  acceptance-2008 = (
    λ e. let m = mapped (opening file) (shown2008 file) a (sym (list-2008 file 2 refl) ∙ e) in
        (opened-accepts file m.0 m.1, m.2),
    λ g. list-2008 file 2 refl ∙ opened-2008 file g.0.resolution (opening-accepted file g.0)
        ∙ ap Ok (sym g.1),
  )

-- whatever the list, the file fits
pub listed-fits : (list : ℕ) (file : List ℕ) (a : ColourAnimation) → animation list file ≡ Ok a
    → AcceptsNeochrome file
unfolding animation
listed-fits list file a =
    cond-eqb Fits list 1
    (λ _ e. ((acceptance-1989 file a).0 (list-1989 file 1 refl ∙ e)).0)
    (λ _.
    cond-eqb Fits list 2
    (λ _ e. ((acceptance-2008 file a).0 (list-2008 file 2 refl ∙ e)).0)
    (λ _ e. let z : ◌≡◌ {A = ℕ} 0 1 = cc in absurd (omega arith)))
  where
    Fits : Outcome ColourAnimation → Type 0
    Fits o = o ≡ Ok a → AcceptsNeochrome file

-- ---- refused as reading refuses into an area of a screen or more

module _ (file : List ℕ) (area : ℕ) (room : screen_bytes ≤ area) where
  abbrev why_read : Refusal
  why_read = refusal_of (read_neochrome file area)

  pub refused-as-read-2008 : refusal_of (animation 2 file) ≡ why_read
  refused-as-read-2008 = ap refusal_of (list-2008 file 2 refl) ∙ go (opening file) refl
    where
      go : (o : Outcome Resolution) → opening file ≡ o → refusal_of (animation2008 file) ≡ why_read
      go (Ok r) e =
          ap refusal_of (opened-2008 file r e) ∙ sym (ap refusal_of (read_opened file area room r e))
      go (Err why) e =
          ap refusal_of (refused-2008 file why e) ∙ sym (ap refusal_of (read-refused file area room why e))

  pub refused-as-read-1989 : refusal_of (animation 1 file) ≡ flag_as_resolution why_read
  refused-as-read-1989 = ap refusal_of (list-1989 file 1 refl) ∙ go (opening file) refl
    where
      go : (o : Outcome Resolution) → opening file ≡ o → refusal_of (animation1989 file) ≡ flag_as_resolution why_read
      go (Ok r) e =
          ap refusal_of (opened-1989 file r (opened-as-1989 file r e))
          ∙ sym (ap (λ o. flag_as_resolution (refusal_of o)) (read_opened file area room r e))
      go (Err why) e =
          ap refusal_of (refused-1989 file (flag_as_resolution why) (refused-as-1989 file why e))
          ∙ sym (ap (λ o. flag_as_resolution (refusal_of o)) (read-refused file area room why e))
