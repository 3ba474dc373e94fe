-- The part of a legend that a party owns, with all other entries free, and what writing an entry does to it.
use mathlib.Core.Path.{◌≡◌, refl, sym, ap, ◌∙◌}
use mathlib.Core.Bool.{Bool, true, false, cond}
use mathlib.Core.List.{List}
use Prim.Native.Nat.{ℕ, ◌<◌}
use native.Mathlib.Omega.{arith}
use lib.Dec.{eqb}
use lib.ListN.{length, get_or, set, length-set}
use lib.Seq.{get_or-set_same, get_or-set_other, set-get_or, ext_get_or}
use borrow.Author.Tests.{eq-eqb, ne_eqb, eqb-true, eqb-false}
use Rattle.lists.specs.Tabulate.{tabulate}
use Rattle.lists.proofs.Tabulate.{length-tabulate, get_or-tabulate}
use Rattle.legend.specs.declared.Legend.{Legend}
use Rattle.legend.specs.Entries.{entries, free, owns, owner_of, class_of, confidence_of, new_legend, with_entry, WholeLegend}

-- the elements whose entry the party owns, and 0 at the others
unfoldable pub masked : ℕ → List ℕ → List ℕ → List ℕ
masked party owners xs = tabulate entries (λ v. cond (eqb (get_or owners v 0) party) (get_or xs v 0) 0)

-- a legend with the entries of all others freed
unfoldable pub own_part : ℕ → Legend → Legend
own_part party l = record {
  owners = masked party l.owners l.owners;
  classes = masked party l.owners l.classes;
  confidences = masked party l.owners l.confidences;
}

length-masked : (party : ℕ) (owners xs : List ℕ) → length (masked party owners xs) ≡ entries
unfolding masked
length-masked party owners xs = length-tabulate entries (λ v. cond (eqb (get_or owners v 0) party) (get_or xs v 0) 0)

get_or-masked : (party : ℕ) (owners xs : List ℕ) (v : ℕ) → v < entries
    → get_or (masked party owners xs) v 0 ≡ cond (eqb (get_or owners v 0) party) (get_or xs v 0) 0
unfolding masked
get_or-masked party owners xs v h =
    get_or-tabulate entries (λ v. cond (eqb (get_or owners v 0) party) (get_or xs v 0) 0) v 0 h

-- an entry is written: what the party sees of it is the new element where the new owner is the party, else 0
masked-set : (party : ℕ) (owners xs : List ℕ) (v owner x : ℕ) → v < entries → length owners ≡ entries
    → length xs ≡ entries
    → masked party (set owners v owner) (set xs v x) ≡ set (masked party owners xs) v (cond (eqb owner party) x 0)
masked-set party owners xs v owner x below os ls =
    ext_get_or 0 _ _
    (length-masked party (set owners v owner) (set xs v x)
    ∙ sym (length-set (masked party owners xs) v new ∙ length-masked party owners xs))
    (λ i h. at i (rw (length-masked party (set owners v owner) (set xs v x)) at h))
  where
    new : ℕ
    new = cond (eqb owner party) x 0

    at : (i : ℕ) → i < entries
        → get_or (masked party (set owners v owner) (set xs v x)) i 0 ≡ get_or (set (masked party owners xs) v new) i 0
    at i h = get_or-masked party (set owners v owner) (set xs v x) i h ∙ go (eqb i v) refl
      where
        go : (b : Bool) → eqb i v ≡ b
            → cond (eqb (get_or (set owners v owner) i 0) party) (get_or (set xs v x) i 0) 0
            ≡ get_or (set (masked party owners xs) v new) i 0
        go true e =
            rw (eqb-true i v e)
            (rw (
              get_or-set_same owners v owner 0 (omega arith),
              get_or-set_same xs v x 0 (omega arith),
              get_or-set_same (masked party owners xs) v new 0 (omega (arith, length-masked party owners xs)),
            ))
        go false e =
            let ne = eqb-false i v e in
            rw (
              get_or-set_other owners v i owner 0 ne,
              get_or-set_other xs v i x 0 ne,
              get_or-set_other (masked party owners xs) v i new 0 ne,
            )
            (sym (get_or-masked party owners xs i h))

-- ---- entries of the own part

module _ (party : ℕ) (l : Legend) where
  module _ (v : ℕ) (below : v < entries) where
    pub own-owner : owner_of (own_part party l) v ≡ cond (owns l party v) (owner_of l v) 0
    unfolding own_part
    own-owner = get_or-masked party l.owners l.owners v below

    pub own-class : class_of (own_part party l) v ≡ cond (owns l party v) (class_of l v) 0
    unfolding own_part
    own-class = get_or-masked party l.owners l.classes v below

    pub own-confidence : confidence_of (own_part party l) v ≡ cond (owns l party v) (confidence_of l v) 0
    unfolding own_part
    own-confidence = get_or-masked party l.owners l.confidences v below

  pub own-whole : WholeLegend (own_part party l)
  unfolding own_part
  own-whole = record {
    owners = length-masked party l.owners l.owners;
    classes = length-masked party l.owners l.classes;
    confidences = length-masked party l.owners l.confidences;
  }

-- ---- entries written

module _ (party : ℕ) (l : Legend) (whole : WholeLegend l) (v : ℕ) (below : v < entries) where
  own-with : (owner class confidence : ℕ) → let seen : ℕ → ℕ = λ x. cond (eqb owner party) x 0 in
      own_part party (with_entry l v owner class confidence)
      ≡ with_entry (own_part party l) v (seen owner) (seen class) (seen confidence)
  unfolding own_part with_entry
  own-with owner class confidence =
      rw (
        masked-set party l.owners l.owners v owner owner below whole.owners whole.owners,
        masked-set party l.owners l.classes v owner class below whole.owners whole.classes,
        masked-set party l.owners l.confidences v owner confidence below whole.owners whole.confidences,
      )

  -- an entry written for the party is written in its own part
  pub own-set : (class confidence : ℕ)
      → own_part party (with_entry l v party class confidence) ≡ with_entry (own_part party l) v party class confidence
  own-set class confidence = own-with party class confidence ∙ rw (eq-eqb party party refl)

  -- an entry that is freed is freed in it
  pub own-freed : (free ≡ party → ⊥)
      → own_part party (with_entry l v free 0 0) ≡ with_entry (own_part party l) v free 0 0
  own-freed ne = own-with free 0 0 ∙ rw (ne_eqb free party ne)

  -- an entry that is not the party's, written for another, leaves it as it was
  pub own-kept : (owner class confidence : ℕ) → (owner ≡ party → ⊥) → (owner_of l v ≡ party → ⊥)
      → own_part party (with_entry l v owner class confidence) ≡ own_part party l
  unfolding own_part with_entry
  own-kept owner class confidence ne was = own-with owner class confidence ∙ rw (ne_eqb owner party ne) same
    where
      same : with_entry (own_part party l) v 0 0 0 ≡ own_part party l
      same =
          let at : (xs : List ℕ) → set (masked party l.owners xs) v 0 ≡ masked party l.owners xs =
          λ xs.
          ap (set (masked party l.owners xs) v)
          (sym (get_or-masked party l.owners xs v below ∙ rw (ne_eqb (owner_of l v) party was)))
          ∙ set-get_or (masked party l.owners xs) v 0
          in
          rw (at l.owners, at l.classes, at l.confidences)

-- nobody owns anything of a new legend
pub own_new : (party : ℕ) → own_part party new_legend ≡ new_legend
unfolding own_part masked tabulate
own_new party = rw (same (eqb free party))
  where
    same : (b : Bool) → cond b free free ≡ free
    same true = refl
    same false = refl
