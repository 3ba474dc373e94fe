-- Document 02, ticket 8: over any sequence of calls from a new legend, each given the legend that the last one left,
-- what a party's own successful calls determine, and what the other party can change.
use Rattle.std.specs.Prelude.{Ok, Err}
use mathlib.Core.Path.{◌≡◌, refl, sym, ap, ◌∙◌}
use mathlib.Core.Bool.{Bool, true, false, not, cond, ◌&&◌}
use mathlib.Core.List.{List, [], ◌∷◌}
use Prim.Native.Nat.{ℕ, ◌<◌}
use native.Mathlib.Omega.{arith}
use lib.Dec.{leb, eqb}
use lib.ListN.{length}
use borrow.Author.Tests.{eqb-false, ne_eqb, lt-ltb, ltb-true, not-true}
use Rattle.lists.proofs.Cond.{and-true}
use Rattle.outcome.specs.Outcome.{Outcome, refuse, refusal, refuse_if, map, refusal_of}
use Rattle.outcome.specs.Refusal.{out_of_range, not_owned}
use Rattle.tally.specs.declared.Rectangle.{Rectangle}
use Rattle.tally.specs.Rectangles.{judge_rectangle}
use Rattle.legend.specs.declared.Legend.{Legend}
use Rattle.legend.specs.Entries.{entries, free, max_party, is_party, owns, is_anothers, owner_of, register_fits, class_fits}
use Rattle.legend.specs.Entries.{confidence_fits, entry_fits, legend_fits, new_legend, with_entry}
use Rattle.legend.specs.Entries.{WholeLegend}
use Rattle.legend.specs.Setting.{call_in_range, set_in_range, call_fits, set_fits, setting, releasing}
use Rattle.legend.specs.Setting.{legend_after}
use Rattle.pond.specs.declared.PondCounts.{PondCounts}
use Rattle.pond.specs.Reading.{question_in_range, question_fits, pond_reading}
use Rattle.isolation.specs.Calls.{Call, step, run, reached, is_own_success, cons_if, own_successes_from, own_successes}
use Rattle.isolation.specs.Calls.{Request, set_entry, release_entry, read_pond, outcome_of, set_number, OtherOwns}
use Rattle.isolation.proofs.Fits.{Good, new-good, fits-at}
use Rattle.isolation.proofs.OwnCalls.{reading-own, releasing-own, anothers-own}
use Rattle.isolation.proofs.OwnPart.{own_part, own_new}
use Rattle.isolation.proofs.Steps.{step-good, own-step, kept_step}

-- ---- every reached legend fits

-- from any legend that fits
pub run-good : (l : Legend) → Good l → (calls : List Call) → Good (run l calls)
run-good l good [] = good
run-good l good (c ∷ calls) = run-good (step l c) (step-good l good c) calls

pub reached-good : (calls : List Call) → Good (reached calls)
reached-good calls = run-good new_legend new-good calls

module _ (calls : List Call) where
  pub reached-fits : legend_fits (reached calls) ≡ true
  reached-fits = (reached-good calls).fits

  -- so a reached legend is never what a call is refused for: only its own numbers are
  reached-range : (b : Bool) → b && legend_fits (reached calls) ≡ b
  reached-range true = reached-fits
  reached-range false = refl

  pub reached-set : (party v class confidence : ℕ)
      → set_fits (reached calls) party v class confidence ≡ set_in_range party v class confidence
  reached-set party v class confidence = reached-range (set_in_range party v class confidence)

  pub reached-release : (party v : ℕ) → call_fits (reached calls) party v ≡ call_in_range party v
  reached-release party v = reached-range (call_in_range party v)

  pub reached-question : (party class floor : ℕ)
      → question_fits party class floor (reached calls) ≡ question_in_range party class floor
  reached-question party class floor = reached-range (question_in_range party class floor)

-- ---- the part of a reached legend that a party owns is the legend that its own successful calls make alone

module _ (party : ℕ) (known : is_party party ≡ true) where
  -- from any legend that fits
  pub run-own : (l : Legend) → Good l → (calls : List Call)
      → own_part party (run l calls) ≡ run (own_part party l) (own_successes_from party l calls)
  run-own l good [] = refl
  run-own l good (c ∷ calls) = run-own (step l c) (step-good l good c) calls ∙ go (is_own_success party l c) refl
    where
      rest : List Call
      rest = own_successes_from party (step l c) calls

      go : (b : Bool) → is_own_success party l c ≡ b
          → run (own_part party (step l c)) rest ≡ run (own_part party l) (cons_if b c rest)
      go true e = ap (λ (m : Legend). run m rest) (sym (own-step party known l good c e).1)
      go false e = ap (λ (m : Legend). run m rest) (kept_step party known l good c e)

  reached-own : (calls : List Call) → own_part party (reached calls) ≡ reached (own_successes party calls)
  reached-own calls =
      run-own new_legend new-good calls ∙ ap (λ (m : Legend). run m (own_successes party calls)) (own_new party)

  own-again : (l : Legend) → Good l → (calls : List Call)
      → own_successes_from party (own_part party l) (own_successes_from party l calls) ≡ own_successes_from party l calls
  own-again l good [] = refl
  own-again l good (c ∷ calls) = go (own-again (step l c) (step-good l good c) calls) (is_own_success party l c) refl
    where
      rest : List Call
      rest = own_successes_from party (step l c) calls

      go : own_successes_from party (own_part party (step l c)) rest ≡ rest → (b : Bool) → is_own_success party l c ≡ b
          → own_successes_from party (own_part party l) (cons_if b c rest) ≡ cons_if b c rest
      go again true e =
          let own = own-step party known l good c e in
          rw (own.0, own.1) (ap (λ (cs : List Call). c ∷ cs) again)
      go again false e =
          ap (λ (m : Legend). own_successes_from party m rest) (sym (kept_step party known l good c e)) ∙ again

  -- a party's own successful calls, made alone, all succeed
  pub own-succeed : (calls : List Call) → own_successes party (own_successes party calls) ≡ own_successes party calls
  own-succeed calls =
      ap (λ (m : Legend). own_successes_from party m (own_successes party calls)) (sym (own_new party))
      ∙ own-again new_legend new-good calls

-- ---- what a party reads and releases

-- a call with a number that is no party's is refused whatever the legend is
module _ (party : ℕ) (none : is_party party ≡ false) (l : Legend) where
  no-release : (v : ℕ) → releasing l party v ≡ refuse out_of_range
  unfolding releasing
  no-release v = rw none

  no-reading : (s : List ℕ) (resolution : ℕ) (a : Rectangle) (class floor : ℕ)
      → pond_reading s resolution a party class floor l
      ≡ judge_rectangle (length s) resolution a (λ r. refuse out_of_range)
  unfolding pond_reading
  no-reading s resolution a class floor = rw none

refusal-map : {A B : Type 0} (f : A → B) (o : Outcome A) → refusal_of (map f o) ≡ refusal_of o
refusal-map f (Ok a) = refl
refusal-map f (Err why) = refl

module _ (calls : List Call) (party : ℕ) where
  -- what is the same of a legend and of the part that the party owns, and of any two legends where the number is no
  -- party's, is after these calls what it is after the party's own successful calls alone
  same-alone : {A : Type 0} (f : Legend → A)
      → (is_party party ≡ true → (l : Legend) → Good l → f (own_part party l) ≡ f l)
      → (is_party party ≡ false → (l m : Legend) → f l ≡ f m)
      → f (reached calls) ≡ f (reached (own_successes party calls))
  same-alone f own none = go (is_party party) refl
    where
      go : (b : Bool) → is_party party ≡ b → f (reached calls) ≡ f (reached (own_successes party calls))
      go true e = sym (own e (reached calls) (reached-good calls)) ∙ ap f (reached-own party e calls)
      go false e = none e (reached calls) (reached (own_successes party calls))

  -- "a party's readings .. depend only on its own successful calls, in their order, the screen and its question"
  pub reading-alone : (s : List ℕ) (resolution : ℕ) (a : Rectangle) (class floor : ℕ)
      → pond_reading s resolution a party class floor (reached calls)
      ≡ pond_reading s resolution a party class floor (reached (own_successes party calls))
  reading-alone s resolution a class floor =
      same-alone (pond_reading s resolution a party class floor)
      (λ known l good. reading-own party known l good class floor s resolution a)
      (λ none l m.
      no-reading party none l s resolution a class floor ∙ sym (no-reading party none m s resolution a class floor))

  -- "and the numbers its releases get"
  pub release_alone : (v : ℕ)
      → refusal_of (releasing (reached calls) party v)
      ≡ refusal_of (releasing (reached (own_successes party calls)) party v)
  release_alone v =
      same-alone (λ (l : Legend). refusal_of (releasing l party v))
      (λ known l good.
      ap refusal_of (releasing-own party known l good v) ∙ refusal-map (own_part party) (releasing l party v))
      (λ none l m. ap refusal_of (no-release party none l v ∙ sym (no-release party none m v)))

-- two sequences with the same successful calls of a party, in the same order
module _ (party : ℕ) (calls others : List Call) (same : own_successes party calls ≡ own_successes party others) where
  pub readings-determined : (s : List ℕ) (resolution : ℕ) (a : Rectangle) (class floor : ℕ)
      → pond_reading s resolution a party class floor (reached calls)
      ≡ pond_reading s resolution a party class floor (reached others)
  readings-determined s resolution a class floor =
      reading-alone calls party s resolution a class floor
      ∙ ap (λ (own : List Call). pond_reading s resolution a party class floor (reached own)) same
      ∙ sym (reading-alone others party s resolution a class floor)

  pub releases-determined : (v : ℕ)
      → refusal_of (releasing (reached calls) party v) ≡ refusal_of (releasing (reached others) party v)
  releases-determined v =
      release_alone calls party v
      ∙ ap (λ (own : List Call). refusal_of (releasing (reached own) party v)) same
      ∙ sym (release_alone others party v)

-- ---- one call of another

-- on a legend that does not fit every call is refused, or a reading: it leaves the legend that it is given
unfit-step : (l : Legend) → legend_fits l ≡ false → (c : Call) → step l c ≡ l
unfolding outcome_of setting releasing
unfit-step l unfit c = go c.request
  where
    no-fit : (b : Bool) → b && legend_fits l ≡ false
    no-fit true = unfit
    no-fit false = refl

    unread : (o : Outcome PondCounts) → legend_after l (map (λ counts. l) o) ≡ l
    unread (Ok p) = refl
    unread (Err why) = refl

    go : (request : Request) → legend_after l (outcome_of l c.party request) ≡ l
    go (set_entry v class confidence) = rw (no-fit (set_in_range c.party v class confidence))
    go (release_entry v) = rw (no-fit (call_in_range c.party v))
    go (read_pond s resolution a class floor) = unread (pond_reading s resolution a c.party class floor l)

-- no call of another, accepted or refused, changes a party's readings, on any legend
pub others-step : (l : Legend) → WholeLegend l → (party : ℕ) (c : Call) → (c.party ≡ party → ⊥)
    → (s : List ℕ) (resolution : ℕ) (a : Rectangle) (class floor : ℕ)
    → pond_reading s resolution a party class floor (step l c) ≡ pond_reading s resolution a party class floor l
others-step l whole party c ne s resolution a class floor = go (is_party party) refl (legend_fits l) refl
  where
    reading : Legend → Outcome PondCounts
    reading = pond_reading s resolution a party class floor

    go : (b : Bool) → is_party party ≡ b → (f : Bool) → legend_fits l ≡ f → reading (step l c) ≡ reading l
    go false none f e =
        no-reading party none (step l c) s resolution a class floor
        ∙ sym (no-reading party none l s resolution a class floor)
    go true known false e = ap reading (unfit-step l e c)
    go true known true e =
        let good : Good l = record { whole = whole; fits = e } in
        sym (reading-own party known (step l c) (step-good l good c) class floor s resolution a)
        ∙ ap reading (kept_step party known l good c (rw (ne_eqb c.party party ne)))
        ∙ reading-own party known l good class floor s resolution a

-- ---- the number that a set gets

-- the party and the register of a set that is in range
set-call : (party v class confidence : ℕ) → set_in_range party v class confidence ≡ true → call_in_range party v ≡ true
set-call party v class confidence e =
    (and-true (confidence_fits confidence) (call_in_range party v)
    (and-true (class_fits class) (confidence_fits confidence && call_in_range party v) e).1
    ).1

-- an entry that is another's is a party's other than this
anothers-owner : (l : Legend) → Good l → (party v : ℕ) → v < entries → is_anothers l party v ≡ true
    → OtherOwns l party v
unfolding is_party entry_fits
anothers-owner l good party v below k =
    let owner = owner_of l v in
    let p = and-true (not (eqb owner free)) (not (owns l party v)) k in
    let some : owner ≡ free → ⊥ = eqb-false owner free (not-true (eqb owner free) p.0) in
    let small = (and-true (leb owner max_party) _ (fits-at l good.fits v below)).0 in (
      rw (lt-ltb free owner (omega arith)) small,
      eqb-false owner party (not-true (owns l party v) p.1),
    )

-- after any calls: 10 for its own numbers, then 19 for another's entry
pub set-number : (calls : List Call) (party v class confidence : ℕ)
    → refusal_of (setting (reached calls) party v class confidence)
    ≡ refusal (set_number (reached calls) party v class confidence) 0
unfolding setting
set-number calls party v class confidence =
    rw (reached-set calls party v class confidence)
    (go (set_in_range party v class confidence) (is_anothers (reached calls) party v)
    (with_entry (reached calls) v party class confidence))
  where
    go : (b c : Bool) (next : Legend)
        → refusal_of (refuse_if (not b) out_of_range (refuse_if c not_owned (Ok next)))
        ≡ refusal (cond b (cond c not_owned 0) out_of_range) 0
    go true true next = refl
    go true false next = refl
    go false c next = refl

module _ (calls : List Call) (party v class confidence : ℕ) where
  abbrev alone : Legend
  alone = reached (own_successes party calls)

  -- after its own successful calls alone no entry is another's
  alone-unowned : call_in_range party v ≡ true → is_anothers alone party v ≡ false
  alone-unowned e =
      let p = and-true (is_party party) (register_fits v) e in
      rw (← reached-own party p.0 calls)
      (anothers-own party p.0 (reached calls) (reached-good calls) v (ltb-true v entries p.1))

  pub set-alone : refusal_of (setting alone party v class confidence)
      ≡ refusal (cond (set_in_range party v class confidence) 0 out_of_range) 0
  set-alone =
      set-number (own_successes party calls) party v class confidence
      ∙ ap (λ (number : ℕ). refusal number 0) (go (set_in_range party v class confidence) refl)
    where
      go : (b : Bool) → set_in_range party v class confidence ≡ b
          → cond b (cond (is_anothers alone party v) not_owned 0) out_of_range ≡ cond b 0 out_of_range
      go true e = rw (alone-unowned (set-call party v class confidence e))
      go false e = refl

  -- "The other party can change the number a set gets only by owning the entry", and it is then 19
  pub set-differs : ((refusal_of (setting (reached calls) party v class confidence)).number
      ≡ (refusal_of (setting alone party v class confidence)).number → ⊥)
      → ((refusal_of (setting (reached calls) party v class confidence)).number ≡ not_owned)
      × OtherOwns (reached calls) party v
  set-differs =
      rw (set-number calls party v class confidence, set-alone)
      (go (set_in_range party v class confidence) refl (is_anothers l party v) refl)
    where
      l : Legend
      l = reached calls

      go : (b : Bool) → set_in_range party v class confidence ≡ b → (c : Bool) → is_anothers l party v ≡ c
          → (cond b (cond c not_owned 0) out_of_range ≡ cond b 0 out_of_range → ⊥)
          → (cond b (cond c not_owned 0) out_of_range ≡ not_owned) × OtherOwns l party v
      go true e true k differ =
          let p = and-true (is_party party) (register_fits v) (set-call party v class confidence e) in
          (refl, anothers-owner l (reached-good calls) party v (ltb-true v entries p.1) k)
      go true e false k differ = absurd (differ refl)
      go false e c k differ = absurd (differ refl)
