-- Legends whose entries fit: a new one, one with a fitting entry written, and the part that a party owns.
use mathlib.Core.Path.{◌≡◌, refl, sym, ◌∙◌}
use mathlib.Core.Bool.{Bool, true, false, cond}
use Prim.Native.Nat.{ℕ, ◌≤◌, ◌<◌}
use lib.Dec.{ltb, leb, eqb}
use lib.ListN.{length-set}
use borrow.Author.Tests.{ne_eqb, eqb-true, eqb-false, le-leb}
use Rattle.lists.specs.All.{all_below}
use Rattle.lists.proofs.All.{all_below-each, each-all_below}
use Rattle.lists.proofs.Cond.{and-true}
use Rattle.legend.specs.declared.Legend.{Legend}
use Rattle.legend.specs.Entries.{entries, free, is_party, max_party, max_confidence, owns, owner_of, class_of, confidence_of}
use Rattle.legend.specs.Entries.{new_legend, with_entry, entry_fits, legend_fits, WholeLegend}
use Rattle.legend.proofs.Entries.{party-some}
use Rattle.legend.proofs.Setting.{written-here, written-elsewhere}
use Rattle.isolation.proofs.OwnPart.{own_part, own-whole, own-owner, own-class, own-confidence}

-- 16 entries that fit: what is reached from a new legend
pub record Good (l : Legend) : Type 0 where
  pub whole : WholeLegend l
  pub fits : legend_fits l ≡ true

abbrev pub FitsAt : Legend → ℕ → Type 0
FitsAt l v = entry_fits (owner_of l v) (class_of l v) (confidence_of l v) ≡ true

pub fits-at : (l : Legend) → legend_fits l ≡ true → (v : ℕ) → v < entries → FitsAt l v
unfolding legend_fits
fits-at l e v h = all_below-each _ entries e v h

fits_all : (l : Legend) → ((v : ℕ) → v < entries → FitsAt l v) → legend_fits l ≡ true
unfolding legend_fits
fits_all l h = each-all_below _ entries h

pub new-good : Good new_legend
unfolding legend_fits all_below entry_fits
new-good = record { whole = record { owners = refl; classes = refl; confidences = refl }; fits = refl }

-- a party's entry of a confidence that fits, and a free entry, fit
pub party-fits : (party class confidence : ℕ) → is_party party ≡ true → confidence ≤ max_confidence
    → entry_fits party class confidence ≡ true
unfolding is_party entry_fits
party-fits party class confidence known small =
    let p = and-true (ltb free party) (leb party max_party) known in
    rw (
      p.1,
      le-leb confidence max_confidence small,
      ne_eqb party free (λ e. party-some party known (sym e)),
    )

pub free-fits : entry_fits free 0 0 ≡ true
unfolding entry_fits
free-fits = refl

module _ (l : Legend) (good : Good l) where
  pub with-good : (v owner class confidence : ℕ) → v < entries → entry_fits owner class confidence ≡ true
      → Good (with_entry l v owner class confidence)
  unfolding with_entry
  with-good v owner class confidence below fit = record {
    whole = record {
      owners = length-set l.owners v owner ∙ good.whole.owners;
      classes = length-set l.classes v class ∙ good.whole.classes;
      confidences = length-set l.confidences v confidence ∙ good.whole.confidences;
    };
    fits = fits_all _ (λ k h. go k h (eqb k v) refl);
  }
    where
      go : (k : ℕ) → k < entries → (b : Bool) → eqb k v ≡ b → FitsAt (with_entry l v owner class confidence) k
      go k h true e =
          let w = written-here l v owner class confidence good.whole below in
          rw (eqb-true k v e) (rw (w.0, w.1, w.2) fit)
      go k h false e =
          let w = written-elsewhere l v owner class confidence k (eqb-false k v e) in
          rw (w.0, w.1, w.2) (fits-at l good.fits k h)

  pub own-good : (party : ℕ) → Good (own_part party l)
  own-good party = record { whole = own-whole party l; fits = fits_all (own_part party l) at }
    where
      go : (v : ℕ) → v < entries → (b : Bool)
          → entry_fits (cond b (owner_of l v) 0) (cond b (class_of l v) 0) (cond b (confidence_of l v) 0) ≡ true
      go v h true = fits-at l good.fits v h
      go v h false = free-fits

      at : (v : ℕ) → v < entries → FitsAt (own_part party l) v
      at v h =
          rw (own-owner party l v h, own-class party l v h, own-confidence party l v h) (go v h (owns l party v))
