-- One call: it leaves a legend that fits; a successful call of a party changes its own part as it would alone, and
-- every other call leaves that part as it was.
use Rattle.std.specs.Prelude.{Ok, Err}
use mathlib.Core.Path.{◌≡◌, refl, sym, ap, ◌∙◌}
use mathlib.Core.Bool.{Bool, true, false, false≢true}
use Prim.Native.Nat.{ℕ}
use lib.Dec.{eqb}
use borrow.Author.Tests.{eq-eqb, ne_eqb, eqb-true, eqb-false}
use Rattle.lists.proofs.Cond.{and-true}
use Rattle.outcome.specs.Outcome.{Outcome, map}
use Rattle.legend.specs.declared.Legend.{Legend}
use Rattle.legend.specs.Entries.{free, is_party, owns, is_anothers, owner_of, with_entry}
use Rattle.legend.specs.Setting.{setting, legend_after}
use Rattle.legend.proofs.Entries.{party-some}
use Rattle.legend.proofs.Setting.{Fitting, SetFitting, setting-elim, releasing-elim}
use Rattle.pond.specs.declared.PondCounts.{PondCounts}
use Rattle.pond.specs.Reading.{pond_reading}
use Rattle.isolation.specs.Calls.{Request, set_entry, release_entry, read_pond, Call, outcome_of, step}
use Rattle.isolation.specs.Calls.{is_accepted, is_own_success}
use Rattle.isolation.proofs.Fits.{Good, with-good, party-fits, free-fits}
use Rattle.isolation.proofs.OwnCalls.{reading-own, releasing-own, setting-own}
use Rattle.isolation.proofs.OwnPart.{own_part, own-kept}

-- ---- the legend that a call leaves

-- what holds of the legend before, with an entry set that is not another's, and with an own entry freed, holds of the
-- legend that is left
module _ (P : Legend → Type 0) (l : Legend) (party : ℕ) (stays : P l)
    (written : (v class confidence : ℕ) → SetFitting party v class confidence → is_anothers l party v ≡ false
    → P (with_entry l v party class confidence))
    (freed : (v : ℕ) → Fitting party v → owns l party v ≡ true → P (with_entry l v free 0 0)) where
  abbrev Left : Outcome Legend → Type 0
  Left o = P (legend_after l o)

  left-reading : (o : Outcome PondCounts) → Left (map (λ counts. l) o)
  left-reading (Ok a) = stays
  left-reading (Err why) = stays

  left-elim : (request : Request) → Left (outcome_of l party request)
  unfolding outcome_of
  left-elim (set_entry v class confidence) =
      setting-elim Left stays stays l party v class confidence (written v class confidence)
  left-elim (release_entry v) = releasing-elim Left stays stays l party v (freed v)
  left-elim (read_pond s resolution a class floor) = left-reading (pond_reading s resolution a party class floor l)

-- every call leaves a legend whose entries fit
pub step-good : (l : Legend) → Good l → (c : Call) → Good (step l c)
step-good l good c =
    left-elim Good l c.party good
    (λ v class confidence fit k.
    with-good l good v c.party class confidence fit.call.below
    (party-fits c.party class confidence fit.call.known fit.confidence-le))
    (λ v fit k. with-good l good v free 0 0 fit.below free-fits)
    c.request

-- an entry that another may set is not the party's
set-others : (l : Legend) (party other v : ℕ) → (free ≡ party → ⊥) → (other ≡ party → ⊥)
    → is_anothers l other v ≡ false → owner_of l v ≡ party → ⊥
set-others l party other v some ne e is =
    let unfree : owner_of l v ≡ free → ⊥ = λ k. some (sym k ∙ is) in
    let unowned : owner_of l v ≡ other → ⊥ = λ k. ne (sym k ∙ is) in
    false≢true (sym (rw (ne_eqb (owner_of l v) free unfree, ne_eqb (owner_of l v) other unowned) at e))

-- ---- the part that a party owns

module _ (party : ℕ) (known : is_party party ≡ true) (l : Legend) (good : Good l) where
  -- a call of another leaves it as it was
  other-kept : (other : ℕ) → (other ≡ party → ⊥) → (request : Request)
      → own_part party (legend_after l (outcome_of l other request)) ≡ own_part party l
  other-kept other ne =
      left-elim (λ (next : Legend). own_part party next ≡ own_part party l) l other refl
      (λ v class confidence fit k.
      own-kept party l good.whole v fit.call.below other class confidence ne
      (set-others l party other v (party-some party known) ne k))
      (λ v fit k.
      own-kept party l good.whole v fit.below free 0 0 (party-some party known)
      (λ is. ne (sym (eqb-true (owner_of l v) other k) ∙ is)))

  -- an accepted set is of an entry that is not another's
  accepted-own : (v class confidence : ℕ) → is_accepted (setting l party v class confidence) ≡ true
      → is_anothers l party v ≡ false
  accepted-own v class confidence =
      setting-elim (λ (o : Outcome Legend). is_accepted o ≡ true → is_anothers l party v ≡ false)
      (λ e. absurd (false≢true e))
      (λ e. absurd (false≢true e))
      l
      party
      v
      class
      confidence
      (λ fit k e. k)

  -- an accepted request of the party comes to the same on its own part
  own-outcome : (request : Request) → is_accepted (outcome_of l party request) ≡ true
      → outcome_of (own_part party l) party request ≡ map (own_part party) (outcome_of l party request)
  unfolding outcome_of
  own-outcome (set_entry v class confidence) e =
      setting-own party known l good v class confidence (accepted-own v class confidence e)
  own-outcome (release_entry v) e = releasing-own party known l good v
  own-outcome (read_pond s resolution a class floor) e =
      rw (reading-own party known l good class floor s resolution a)
      (go (pond_reading s resolution a party class floor l))
    where
      go : (o : Outcome PondCounts) → map (λ counts. own_part party l) o ≡ map (own_part party) (map (λ counts. l) o)
      go (Ok a) = refl
      go (Err why) = refl

  -- a successful call of the party succeeds on its own part, and changes it as it changes the whole
  pub own-step : (c : Call) → is_own_success party l c ≡ true
      → (is_own_success party (own_part party l) c ≡ true) × (step (own_part party l) c ≡ own_part party (step l c))
  own-step c e =
      let p = and-true (eqb c.party party) (is_accepted (outcome_of l c.party c.request)) e in
      let is : c.party ≡ party = eqb-true c.party party p.0 in
      rw (is, eq-eqb party party refl, own-outcome c.request (rw is at p.1))
      (go (outcome_of l party c.request) (rw is at p.1))
    where
      go : (o : Outcome Legend) → is_accepted o ≡ true
          → (is_accepted (map (own_part party) o) ≡ true)
          × (legend_after (own_part party l) (map (own_part party) o) ≡ own_part party (legend_after l o))
      go (Ok next) k = (refl, refl)
      go (Err why) k = absurd (false≢true k)

  -- every other call leaves it as it was
  pub kept_step : (c : Call) → is_own_success party l c ≡ false → own_part party (step l c) ≡ own_part party l
  kept_step c e = go (eqb c.party party) refl
    where
      refused-left : (o : Outcome Legend) → is_accepted o ≡ false → legend_after l o ≡ l
      refused-left (Ok a) k = absurd (false≢true (sym k))
      refused-left (Err why) k = refl

      go : (b : Bool) → eqb c.party party ≡ b → own_part party (step l c) ≡ own_part party l
      go true k = ap (own_part party) (refused-left (outcome_of l c.party c.request) (rw k at e))
      go false k = other-kept c.party (eqb-false c.party party k) c.request
