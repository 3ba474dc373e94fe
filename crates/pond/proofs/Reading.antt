-- Laws of pond readings: the counts add up to the rectangle's pixels, and the tally and the legend determine them.
use Rattle.std.specs.Prelude.{Ok}
use mathlib.Core.Path.{◌≡◌, sym, ap, ◌∙◌}
use mathlib.Core.Bool.{not}
use mathlib.Core.List.{List}
use Prim.Native.Nat.{ℕ, ◌+◌, ◌*◌}
use native.Mathlib.Omega.{arith}
use lib.ListN.{length, get_or}
use Rattle.lists.specs.Sum.{sum}
use Rattle.lists.proofs.Sum.{sum-ext, sum-add}
use Rattle.outcome.specs.Outcome.{Outcome, refuse_if, bind}
use Rattle.outcome.specs.Refusal.{out_of_range}
use Rattle.outcome.proofs.Outcome.{passed}
use Rattle.resolution.specs.declared.Resolution.{Resolution}
use Rattle.resolution.proofs.Choice.{judge_screen-fits}
use Rattle.tally.specs.declared.Rectangle.{Rectangle}
use Rattle.tally.specs.Rectangles.{rectangle_fits}
use Rattle.tally.specs.Counts.{counts, tallied, tally_answer}
use Rattle.tally.proofs.Totals.{rectangle_sum-counts, counts-total, judged_after, after_tally, after-tally}
use Rattle.legend.specs.declared.Legend.{Legend}
use Rattle.legend.specs.Entries.{entries}
use Rattle.pond.specs.declared.PondCounts.{PondCounts}
use Rattle.pond.specs.Entries.{is_sure, is_unsure, is_other}
use Rattle.pond.specs.Reading.{pixels, entry_counts, pond_of, pond_from, question_fits, pond_reading}
use Rattle.pond.proofs.Entries.{entry-total}

-- ---- from the counts

module _ (party class floor : ℕ) (l : Legend) where
  -- the pixels of a rectangle from its counts
  pub pond_of-pond_from : (s : List ℕ) (r : Resolution) (a : Rectangle)
      → pond_of s r a party class floor l ≡ pond_from (counts s r a) party class floor l
  unfolding pond_of pond_from entry_counts
  pond_of-pond_from s r a =
      rw (
        rectangle_sum-counts s r a (is_sure l party class floor),
        rectangle_sum-counts s r a (is_unsure l party class floor),
        rectangle_sum-counts s r a (is_other l party class),
      )

  -- the three add up to the counts
  pond_from-total : (c : List ℕ) → pixels (pond_from c party class floor l) ≡ sum entries (λ v. get_or c v 0)
  unfolding pond_from
  pond_from-total c =
      let e : ℕ → PondCounts = λ v. entry_counts l party class floor v (get_or c v 0) in
      omega (
        arith,
        sum-add entries (λ v. (e v).sure) (λ v. (e v).unsure),
        sum-add entries (λ v. (e v).sure + (e v).unsure) (λ v. (e v).other),
      )
      ∙ sum-ext entries (λ v. pixels (e v)) (λ v. get_or c v 0) (λ v h. entry-total l party class floor v (get_or c v 0))

-- ---- readings

-- what is judged once the counts are known
abbrev pub from_counts : ℕ → ℕ → ℕ → Legend → List ℕ → Outcome PondCounts
from_counts party class floor l c =
    refuse_if (not (question_fits party class floor l)) out_of_range (Ok (pond_from c party class floor l))

module _ (s : List ℕ) (number : ℕ) (a : Rectangle) (party class floor : ℕ) (l : Legend) where
  -- sure, unsure and other add up to the rectangle's pixels
  pub pond-total : (p : PondCounts) → pond_reading s number a party class floor l ≡ Ok p
      → pixels p ≡ a.columns * a.lines
  unfolding pond_reading
  pond-total p e =
      judge_screen-fits (length s) number _ p e
      (λ r known long f.
      let q = passed (not (rectangle_fits r a)) out_of_range _ p f in
      let t = passed (not (question_fits party class floor l)) out_of_range _ p q.1 in
      let same : Ok (pond_of s r a party class floor l) ≡ Ok p = t.1 in
      let is : pond_of s r a party class floor l ≡ p = cc in
      ap pixels (sym is ∙ pond_of-pond_from party class floor l s r a)
      ∙ pond_from-total party class floor l (counts s r a)
      ∙ counts-total s r a)

  -- a pond reading is what is judged of the tally's counts
  pub by_counts : pond_reading s number a party class floor l
      ≡ bind (tallied s number a) (from_counts party class floor l)
  unfolding pond_reading
  by_counts =
      judged_after s number a _ (from_counts party class floor l)
      (λ r.
      ap (λ (p : PondCounts). refuse_if (not (question_fits party class floor l)) out_of_range (Ok p))
      (pond_of-pond_from party class floor l s r a))

  -- the tally's answer and the legend determine a pond reading
  pub pond-determined : pond_reading s number a party class floor l
      ≡ after_tally (tally_answer (tallied s number a)) (from_counts party class floor l)
  pond-determined = by_counts ∙ after-tally s number a (from_counts party class floor l)
