-- Laws of setting and releasing: what fits of a call, and what holds of every outcome.
use Rattle.std.specs.Prelude.{Ok}
use mathlib.Core.Path.{◌≡◌}
use mathlib.Core.Bool.{true, false, not, ◌&&◌}
use Prim.Native.Nat.{ℕ, ◌≤◌, ◌<◌}
use native.Mathlib.Omega.{arith}
use lib.Seq.{get_or-set_same, get_or-set_other}
use borrow.Author.Tests.{ltb-true, leb-true, not-false}
use Rattle.lists.proofs.Cond.{cond-elim, and-true}
use Rattle.outcome.specs.Outcome.{Outcome, refuse, Judged}
use Rattle.outcome.specs.Refusal.{out_of_range, not_owned}
use Rattle.legend.specs.declared.Legend.{Legend}
use Rattle.legend.specs.Entries.{entries, free, is_party, owns, is_anothers, register_fits, class_fits, max_class}
use Rattle.legend.specs.Entries.{max_confidence, confidence_fits, legend_fits, with_entry}
use Rattle.legend.specs.Entries.{owner_of, class_of, confidence_of, WholeLegend}
use Rattle.legend.specs.Setting.{call_in_range, set_in_range, call_fits, set_fits, setting, releasing}

-- a party and a register that are such
pub record Fitting (party v : ℕ) : Type 0 where
  pub known : is_party party ≡ true
  pub below : v < entries

-- and a class and a confidence
pub record SetFitting (party v class confidence : ℕ) : Type 0 where
  pub class-le : class ≤ max_class
  pub confidence-le : confidence ≤ max_confidence
  pub call : Fitting party v

pub call_fitting : (l : Legend) (party v : ℕ) → call_fits l party v ≡ true → Fitting party v
call_fitting l party v e =
    let p = and-true (call_in_range party v) (legend_fits l) e in
    let q = and-true (is_party party) (register_fits v) p.0 in
    record { known = q.0; below = ltb-true v entries q.1 }

pub set_fitting : (l : Legend) (party v class confidence : ℕ) → set_fits l party v class confidence ≡ true
    → SetFitting party v class confidence
set_fitting l party v class confidence e =
    let p = and-true (set_in_range party v class confidence) (legend_fits l) e in
    let q = and-true (class_fits class) (confidence_fits confidence && call_in_range party v) p.0 in
    let r = and-true (confidence_fits confidence) (call_in_range party v) q.1 in
    record {
      class-le = leb-true class max_class q.0;
      confidence-le = leb-true confidence max_confidence r.0;
      call = call_fitting l party v (rw r.1 p.1);
    }

-- what holds of both refusals, and of the legend with the entry written, holds of the outcome
module _ (P : Outcome Legend → Type 0) (out : P (refuse out_of_range)) (unowned : P (refuse not_owned))
    (l : Legend) (party v : ℕ) where
  pub setting-elim : (class confidence : ℕ)
      → (SetFitting party v class confidence → is_anothers l party v ≡ false
      → P (Ok (with_entry l v party class confidence)))
      → P (setting l party v class confidence)
  unfolding setting
  setting-elim class confidence written =
      let fit = set_fits l party v class confidence in
      cond-elim P (not fit) (λ e. out)
      (λ e.
      cond-elim P (is_anothers l party v) (λ d. unowned)
      (written (set_fitting l party v class confidence (not-false fit e))))

  pub releasing-elim : (Fitting party v → owns l party v ≡ true → P (Ok (with_entry l v free 0 0)))
      → P (releasing l party v)
  unfolding releasing
  releasing-elim written =
      let fit = call_fits l party v in
      cond-elim P (not fit) (λ e. out)
      (λ e.
      cond-elim P (not (owns l party v)) (λ d. unowned)
      (λ d. written (call_fitting l party v (not-false fit e)) (not-false (owns l party v) d)))

-- ---- what an accepted call leaves

-- the entry of register v, and every other as it is in another legend
abbrev pub EntryIs : Legend → ℕ → ℕ → ℕ → ℕ → Type 0
EntryIs l v owner class confidence = (owner_of l v ≡ owner) × (class_of l v ≡ class) × (confidence_of l v ≡ confidence)

abbrev pub OthersKept : Legend → Legend → ℕ → Type 0
OthersKept next l v = (k : ℕ) → (k ≡ v → ⊥) → EntryIs next k (owner_of l k) (class_of l k) (confidence_of l k)

module _ (l : Legend) (v owner class confidence : ℕ) where
  pub written-here : WholeLegend l → v < entries
      → EntryIs (with_entry l v owner class confidence) v owner class confidence
  unfolding with_entry
  written-here whole below = (
    get_or-set_same l.owners v owner 0 (omega (arith, whole.owners)),
    get_or-set_same l.classes v class 0 (omega (arith, whole.classes)),
    get_or-set_same l.confidences v confidence 0 (omega (arith, whole.confidences)),
  )

  pub written-elsewhere : OthersKept (with_entry l v owner class confidence) l v
  unfolding with_entry
  written-elsewhere k ne = (
    get_or-set_other l.owners v k owner 0 ne,
    get_or-set_other l.classes v k class 0 ne,
    get_or-set_other l.confidences v k confidence 0 ne,
  )

-- of a legend that a call leaves: the entry as it was called for, and all others as they were
module _ (l : Legend) (whole : WholeLegend l) (party v : ℕ) where
  abbrev Leaves : ℕ → ℕ → ℕ → Outcome Legend → Type 0
  Leaves owner class confidence = Judged (λ next. EntryIs next v owner class confidence × OthersKept next l v)

  pub set-writes : (class confidence : ℕ) → Leaves party class confidence (setting l party v class confidence)
  set-writes class confidence =
      setting-elim (Leaves party class confidence) (λ z. omega arith) (λ z. omega arith) l party v class confidence
      (λ fit d. (
        written-here l v party class confidence whole fit.call.below,
        written-elsewhere l v party class confidence,
      ))

  pub release-frees : Leaves free 0 0 (releasing l party v)
  release-frees =
      releasing-elim (Leaves free 0 0) (λ z. omega arith) (λ z. omega arith) l party v
      (λ fit d. (written-here l v free 0 0 whole fit.below, written-elsewhere l v free 0 0))
