-- A party's calls on the part of the legend that it owns: a reading and a release come to the same, and so does a set
-- of an entry that is not another's; on the own part none is.
use Rattle.std.specs.Prelude.{Ok}
use mathlib.Core.Path.{◌≡◌, refl, sym, ap, ◌∙◌}
use mathlib.Core.Bool.{Bool, true, false, not, cond, ◌&&◌}
use mathlib.Core.List.{List}
use Prim.Native.Nat.{ℕ, ◌*◌, ◌<◌}
use lib.Dec.{leb, eqb}
use lib.ListN.{get_or}
use borrow.Author.Tests.{ne_eqb}
use Rattle.lists.specs.Sum.{sum}
use Rattle.lists.proofs.Sum.{sum-ext}
use Rattle.outcome.specs.Outcome.{Outcome, refuse_if, map}
use Rattle.outcome.specs.Refusal.{out_of_range, not_owned}
use Rattle.tally.specs.declared.Rectangle.{Rectangle}
use Rattle.tally.specs.Counts.{tallied, tally_answer}
use Rattle.legend.specs.declared.Legend.{Legend}
use Rattle.legend.specs.Entries.{entries, free, is_party, owns, is_anothers, owner_of, class_of, confidence_of, legend_fits}
use Rattle.legend.specs.Entries.{with_entry}
use Rattle.legend.specs.Setting.{call_fits, set_fits, setting, releasing}
use Rattle.legend.proofs.Entries.{party-some}
use Rattle.legend.proofs.Setting.{call_fitting, set_fitting}
use Rattle.pond.specs.declared.PondCounts.{PondCounts}
use Rattle.pond.specs.Entries.{is_sure, is_unsure, is_other}
use Rattle.pond.specs.Reading.{entry_counts, pond_from, pond_reading}
use Rattle.pond.proofs.Reading.{from_counts, pond-determined}
use Rattle.isolation.proofs.Fits.{Good, own-good}
use Rattle.isolation.proofs.OwnPart.{own_part, own-owner, own-class, own-confidence, own-set, own-freed}

module _ (party : ℕ) (known : is_party party ≡ true) (l : Legend) (good : Good l) where
  abbrev own : Legend
  own = own_part party l

  fits-own : legend_fits own ≡ legend_fits l
  fits-own = (own-good l good party).fits ∙ sym good.fits

  owns-own : (v : ℕ) → v < entries → owns own party v ≡ owns l party v
  owns-own v below = rw (own-owner party l v below) (go (owns l party v) refl)
    where
      go : (b : Bool) → owns l party v ≡ b → eqb (cond b (owner_of l v) 0) party ≡ b
      go true e = e
      go false e = ne_eqb free party (party-some party known)

  -- no entry of the own part is another's
  pub anothers-own : (v : ℕ) → v < entries → is_anothers own party v ≡ false
  anothers-own v below = rw (own-owner party l v below) (go (owns l party v) refl)
    where
      and-false : (b : Bool) → b && false ≡ false
      and-false true = refl
      and-false false = refl

      go : (b : Bool) → owns l party v ≡ b
          → not (eqb (cond b (owner_of l v) 0) free) && not (eqb (cond b (owner_of l v) 0) party) ≡ false
      go true e = rw e (and-false (not (eqb (owner_of l v) free)))
      go false e = refl

  -- ---- sets and releases

  pub releasing-own : (v : ℕ) → releasing own party v ≡ map (own_part party) (releasing l party v)
  unfolding releasing
  releasing-own v = rw fits-own (go (call_fits l party v) refl)
    where
      freed : v < entries → (b : Bool) → refuse_if (not b) not_owned (Ok (with_entry own v free 0 0))
          ≡ map (own_part party) (refuse_if (not b) not_owned (Ok (with_entry l v free 0 0)))
      freed below true = ap Ok (sym (own-freed party l good.whole v below (party-some party known)))
      freed below false = refl

      go : (b : Bool) → call_fits l party v ≡ b
          → refuse_if (not b) out_of_range
          (refuse_if (not (owns own party v)) not_owned (Ok (with_entry own v free 0 0)))
          ≡ map (own_part party)
          (refuse_if (not b) out_of_range (refuse_if (not (owns l party v)) not_owned (Ok (with_entry l v free 0 0))))
      go true e =
          let below = (call_fitting l party v e).below in rw (owns-own v below) (freed below (owns l party v))
      go false e = refl

  pub setting-own : (v class confidence : ℕ) → is_anothers l party v ≡ false
      → setting own party v class confidence ≡ map (own_part party) (setting l party v class confidence)
  unfolding setting
  setting-own v class confidence k =
      rw (fits-own, k) (go (set_fits l party v class confidence) refl)
    where
      next : Legend → Outcome Legend
      next m = Ok (with_entry m v party class confidence)

      go : (b : Bool) → set_fits l party v class confidence ≡ b
          → refuse_if (not b) out_of_range (refuse_if (is_anothers own party v) not_owned (next own))
          ≡ map (own_part party) (refuse_if (not b) out_of_range (next l))
      go true e =
          let below = (set_fitting l party v class confidence e).call.below in
          rw (anothers-own v below) (ap Ok (sym (own-set party l good.whole v below class confidence)))
      go false e = refl

  -- ---- readings

  module _ (class floor : ℕ) where
    entry-own : (v n : ℕ) → v < entries → entry_counts own party class floor v n ≡ entry_counts l party class floor v n
    unfolding entry_counts is_sure is_unsure is_other
    entry-own v n below =
        rw (owns-own v below, own-class party l v below, own-confidence party l v below) (go (owns l party v))
      where
        counted : Bool → ℕ → ℕ → PondCounts
        counted b c f = record {
          sure = cond (b && eqb c class) (cond (leb floor f) 1 0) 0 * n;
          unsure = cond (b && eqb c class) (cond (leb floor f) 0 1) 0 * n;
          other = cond (b && eqb c class) 0 1 * n;
        }

        go : (b : Bool) → counted b (cond b (class_of l v) 0) (cond b (confidence_of l v) 0)
            ≡ counted b (class_of l v) (confidence_of l v)
        go true = refl
        go false = refl

    sum-own : (c : List ℕ) (f : PondCounts → ℕ)
        → sum entries (λ v. f (entry_counts own party class floor v (get_or c v 0)))
        ≡ sum entries (λ v. f (entry_counts l party class floor v (get_or c v 0)))
    sum-own c f = sum-ext entries _ _ (λ v h. ap f (entry-own v (get_or c v 0) h))

    from_counts-own : (c : List ℕ) → from_counts party class floor own c ≡ from_counts party class floor l c
    unfolding pond_from
    from_counts-own c =
        rw (
          sum-own c (λ p. p.sure),
          sum-own c (λ p. p.unsure),
          sum-own c (λ p. p.other),
          fits-own,
        )

    -- for every screen, resolution, rectangle, class and floor
    pub reading-own : (s : List ℕ) (resolution : ℕ) (a : Rectangle)
        → pond_reading s resolution a party class floor own ≡ pond_reading s resolution a party class floor l
    reading-own s resolution a =
        pond-determined s resolution a party class floor own
        ∙ rw (from_counts-own (tally_answer (tallied s resolution a)).counts)
        (sym (pond-determined s resolution a party class floor l))
