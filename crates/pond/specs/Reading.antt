-- Pond reading for a party (document 01, "Order of judging", "pond reading"; document 02, ticket 8).
use Rattle.std.specs.Prelude.{ℕ, ◌+◌, ◌*◌, Bool, not, ◌&&◌, List, length, get_or, Ok, Err}
use Rattle.lists.specs.Sum.{sum}
use Rattle.outcome.specs.Outcome.{Outcome, none, refuse_if}
use Rattle.outcome.specs.Refusal.{out_of_range}
use Rattle.resolution.specs.declared.Resolution.{Resolution}
use Rattle.tally.specs.declared.Rectangle.{Rectangle}
use Rattle.tally.specs.Rectangles.{judge_rectangle, rectangle_sum}
use Rattle.legend.specs.declared.Legend.{Legend}
use Rattle.legend.specs.Entries.{entries, is_party, class_fits, confidence_fits, legend_fits}
use Rattle.pond.specs.declared.PondAnswer.{PondAnswer}
use Rattle.pond.specs.declared.PondCounts.{PondCounts}
use Rattle.pond.specs.Entries.{is_sure, is_unsure, is_other}

-- the pixels of all three kinds
abbrev pub pixels : PondCounts → ℕ
pixels p = p.sure + p.unsure + p.other

-- the pixels of a rectangle that are sure, unsure and other to a party
unfoldable pub pond_of : List ℕ → Resolution → Rectangle → ℕ → ℕ → ℕ → Legend → PondCounts
pond_of s r a party class floor l = record {
  sure = rectangle_sum s r a (is_sure l party class floor);
  unsure = rectangle_sum s r a (is_unsure l party class floor);
  other = rectangle_sum s r a (is_other l party class);
}

-- the pixels of register v, of which there are count
unfoldable pub entry_counts : Legend → ℕ → ℕ → ℕ → ℕ → ℕ → PondCounts
entry_counts l party class floor v count = record {
  sure = is_sure l party class floor v * count;
  unsure = is_unsure l party class floor v * count;
  other = is_other l party class v * count;
}

-- the pixels of a rectangle from the counts of registers 0 to 15: the same as `pond_of` (proofs/Reading.antt)
unfoldable pub pond_from : List ℕ → ℕ → ℕ → ℕ → Legend → PondCounts
pond_from counts party class floor l = record {
  sure = sum entries (λ v. (entry_counts l party class floor v (get_or counts v 0)).sure);
  unsure = sum entries (λ v. (entry_counts l party class floor v (get_or counts v 0)).unsure);
  other = sum entries (λ v. (entry_counts l party class floor v (get_or counts v 0)).other);
}

-- a party, a class of 0 to 255 and a floor of 0 to 100
abbrev pub question_in_range : ℕ → ℕ → ℕ → Bool
question_in_range party class floor = is_party party && (class_fits class && confidence_fits floor)

-- and a legend whose entries fit
abbrev pub question_fits : ℕ → ℕ → ℕ → Legend → Bool
question_fits party class floor l = question_in_range party class floor && legend_fits l

-- screen, resolution and rectangle are judged as for a tally, then the question and the legend
unfoldable pub pond_reading : List ℕ → ℕ → Rectangle → ℕ → ℕ → ℕ → Legend → Outcome PondCounts
pond_reading s number a party class floor l =
    judge_rectangle (length s) number a
    (λ r. refuse_if (not (question_fits party class floor l)) out_of_range (Ok (pond_of s r a party class floor l)))

-- a refusal gives 0 in all else
abbrev pub pond_answer : Outcome PondCounts → PondAnswer
pond_answer (Ok p) = record { refusal = none; sure = p.sure; unsure = p.unsure; other = p.other }
pond_answer (Err why) = record { refusal = why; sure = 0; unsure = 0; other = 0 }
