-- The record list answers as specs/RecordList.antt says.
use Rattle.std.specs.Prelude.{Ok, Err, None, Some}
use mathlib.Core.Path.{◌≡◌, refl, sym, ◌∙◌}
use Prim.Native.Nat.{ℕ, ◌+◌, ◌-◌}
use mathlib.Core.Logic.{inl, inr}
use mathlib.Core.Bool.{Bool, true, false, not, cond}
use mathlib.Core.List.{List, [], ◌∷◌, ◌++◌}
use lib.ListN.{length, drop}
use lib.Dec.{ltb, eqb}
use borrow.Author.Tests.{eqb-true}
use Rattle.lists.proofs.Cond.{cond-elim, cond-eqb}
use Rattle.outcome.specs.declared.Refusal.{Refusal}
use Rattle.outcome.specs.Outcome.{Outcome, refusal, row_refusal, bind}
use Rattle.outcome.specs.Refusal.{unknown_kind, wrong_length, wrong_tail, out_of_range}
use Rattle.packbits.specs.declared.Record.{Record}
use Rattle.packbits.specs.declared.Record.TheVariants as R
use Rattle.packbits.specs.Records.{fault}
use Rattle.packbits.specs.Stops.{AtRecord}
use Rattle.resolution.specs.declared.Resolution.{Resolution}
use Rattle.resolution.specs.declared.Resolution.TheVariants.{Low, Medium, High}
use Rattle.resolution.specs.Shapes.{row_bytes_of, plane_rows_of}
use Rattle.degas.specs.declared.Header.{Header}
use Rattle.degas.specs.Layout.{header_length, tail_length, packed_most}
use Rattle.degas.specs.Opening.{is_packed, opening}
use Rattle.degas.proofs.Opening.{header_of, opening-elim}
use Rattle.degas_records.specs.declared.RecordCursor.{RecordCursor}
use Rattle.degas_records.specs.declared.Stepped.{Stepped}
use Rattle.degas_records.specs.Opening.{judge_packed, packed_opening}
use Rattle.degas_records.specs.Listing.{Found, cursor_at, record_under, listed_as, moved_over}
use Rattle.degas_records.specs.Steps.{stays, record_step, end_at, outside, body_step, opened_step, stepped}
use Rattle.degas_records.specs.Answers.{cursor_answer, record_answer}
use Rattle.demands.specs.Refusals.{Refuses}
use Rattle.answers.specs.Orders.{Test, first_refusal, row_bytes, plane_rows, degas_resolution, degas_packed}
use Rattle.answers.specs.Orders.{record_order, one_of}
use Rattle.answers.specs.RefusalRows.{BothZero, ZeroUnless}
use Rattle.answers.specs.RecordList.{open_records_order, cursor_tests, next_record_order, open_records_numbers}
use Rattle.answers.specs.RecordList.{next_record_numbers, cursor_out, RecordRefusal}
use Rattle.answers.proofs.Orders.{first-test, first-resolution, record-order, give_only, in_order}

-- ---- a record at fault

fault-at-record : (r : Record) → (fault r ≡ 0 → ⊥) → AtRecord (fault r)
fault-at-record (R.Literal n) e = absurd (e refl)
fault-at-record (R.Repeat n) e = absurd (e refl)
fault-at-record R.Nothing e = absurd (e refl)
fault-at-record R.Truncated e = inl refl
fault-at-record R.Crossing e = inr refl

-- ---- the order

abbrev open_number : Outcome Resolution → ℕ
open_number o = (cursor_answer o).refusal.number

pub open-records-order : (file : List ℕ)
    → (cursor_answer (packed_opening file)).refusal.number ≡ first_refusal (open_records_order file)
unfolding packed_opening opening
open-records-order file =
    first-test opened (λ n. refl) (ltb (length file) header_length) wrong_length (λ _.
    first-resolution opened (λ n. refl) (degas_resolution file) (λ r. Ok (header_of file r))
    (λ _. cond (not (degas_packed file)) 2 (cond (ltb 32065 (length file)) 3 0)) (at Low) (at Medium) (at High))
  where
    opened : Outcome Header → ℕ
    opened o = open_number (bind o (judge_packed (length file)))

    at : (r : Resolution) → open_number (judge_packed (length file) (header_of file r))
        ≡ cond (not (degas_packed file)) 2 (cond (ltb 32065 (length file)) 3 0)
    at r =
        first-test open_number (λ n. refl) (not (degas_packed file)) unknown_kind (λ _.
        first-test open_number (λ n. refl) (ltb packed_most (length file)) wrong_length (λ _. refl))

module _ (file : List ℕ) (c : RecordCursor) where
  abbrev number : Stepped → ℕ
  number s = (record_answer s).refusal.number

  record-number : (width : ℕ) (r : Record) → number (record_step width c r) ≡ fault r
  record-number width r = go (eqb (fault r) 0) refl
    where
      go : (b : Bool) → eqb (fault r) 0 ≡ b
          → number
          (cond b (record { found = Ok (Some (listed_as c r)); next = moved_over width c r })
          (stays c (Err (row_refusal (fault r) c.offset c.plane_row c.good_bytes))))
          ≡ fault r
      go true e = sym (eqb-true _ _ e)
      go false e = refl

  end-number : number (stays c (end_at (length file) c.offset))
      ≡ cond (not (eqb (length file) (c.offset + 32))) 8 0
  unfolding end_at
  end-number = go (eqb (length file) (c.offset + tail_length))
    where
      go : (b : Bool) → number (stays c (cond b (Ok None) (Err (refusal wrong_tail c.offset)))) ≡ cond (not b) 8 0
      go true = refl
      go false = refl

  body-number : (rows width : ℕ) → number (body_step file rows width c) ≡ first_refusal (cursor_tests file rows width c)
  unfolding body_step outside
  body-number rows width = go (outside (length file) rows width c) (ltb c.plane_row rows)
    where
      here : number (record_step width c (record_under file width c))
          ≡ first_refusal (record_order (drop c.offset file) (width - c.good_bytes))
      here =
          record-number width (record_under file width c)
          ∙ record-order (drop c.offset file) (width - c.good_bytes)

      go : (s t : Bool)
          → number
          (cond s (stays c (Err (refusal out_of_range 0)))
          (cond t (record_step width c (record_under file width c)) (stays c (end_at (length file) c.offset))))
          ≡ cond s 10
          (first_refusal
          (cond t (record_order (drop c.offset file) (width - c.good_bytes))
          ((not (eqb (length file) (c.offset + 32)), 8) ∷ [])))
      go true t = refl
      go false true = here
      go false false = end-number

  pub next-record-order : (record_answer (stepped file c)).refusal.number ≡ first_refusal (next_record_order file c)
  unfolding stepped packed_opening opening
  next-record-order =
      first-test opened (λ n. refl) (ltb (length file) header_length) wrong_length (λ _.
      first-resolution opened (λ n. refl) (degas_resolution file) (λ r. Ok (header_of file r))
      (λ n. cond (not (degas_packed file)) 2 (cond (ltb 32065 (length file)) 3
      (first_refusal (cursor_tests file (plane_rows n) (row_bytes n) c)))) (at Low) (at Medium) (at High))
    where
      judged : Outcome Resolution → ℕ
      judged o = number (opened_step file c o)

      opened : Outcome Header → ℕ
      opened o = judged (bind o (judge_packed (length file)))

      at : (r : Resolution) → judged (judge_packed (length file) (header_of file r))
          ≡ cond (not (degas_packed file)) 2 (cond (ltb 32065 (length file)) 3
          (first_refusal (cursor_tests file (plane_rows_of r) (row_bytes_of r) c)))
      at r =
          first-test judged (λ n. refl) (not (degas_packed file)) unknown_kind (λ _.
          first-test judged (λ n. refl) (ltb packed_most (length file)) wrong_length (λ _.
          body-number (plane_rows_of r) (row_bytes_of r)))

-- ---- the numbers

pub open-records-numbers : (file : List ℕ)
    → one_of open_records_numbers (cursor_answer (packed_opening file)).refusal.number ≡ true
open-records-numbers file = in_order open_records_numbers (open_records_order file) (open-records-order file) refl

pub next-record-numbers : (file : List ℕ) (c : RecordCursor)
    → one_of next_record_numbers (record_answer (stepped file c)).refusal.number ≡ true
next-record-numbers file c =
    let n : ℕ = degas_resolution file in
    let out : Test = (cursor_out file (plane_rows n) (row_bytes n) c, 10) in
    in_order next_record_numbers (next_record_order file c) (next-record-order file c)
    (cond-elim (λ (tests : List Test). give_only next_record_numbers (open_records_order file ++ (out ∷ tests)) ≡ true)
    (ltb c.plane_row (plane_rows n)) (λ _. refl) (λ _. refl))

-- ---- the plane row and the good bytes of a refusal: never of an opening, and of a step with 6 and 7 only

-- an opening's refusal has neither
abbrev OpeningZero : Outcome Resolution → Type 0
OpeningZero o = BothZero (cursor_answer o).refusal

opening-zero : (file : List ℕ) → OpeningZero (packed_opening file)
unfolding packed_opening
opening-zero file =
    opening-elim file OpeningZero (judge_packed (length file)) (refl, refl) (refl, refl)
    (λ r e. cond-elim OpeningZero (not (is_packed file)) (λ _. (refl, refl)) (λ _.
    cond-elim OpeningZero (ltb packed_most (length file)) (λ _. (refl, refl)) (λ _. (refl, refl))))

pub open-records-zero : (file : List ℕ) → BothZero (cursor_answer (packed_opening file)).refusal
open-records-zero file = opening-zero file

module _ (file : List ℕ) (c : RecordCursor) where
  -- both zero unless the number is 6 or 7
  abbrev Unless : Stepped → Type 0
  Unless s = ZeroUnless AtRecord (record_answer s).refusal

  at-record : (width : ℕ) (r : Record) → Unless (record_step width c r)
  at-record width r =
      cond-eqb Unless (fault r) 0 (λ _ _. (refl, refl))
      (λ e none. absurd (none (fault-at-record r e)))

  body-unless : (rows width : ℕ) → Unless (body_step file rows width c)
  unfolding body_step end_at
  body-unless rows width =
      cond-elim Unless (outside (length file) rows width c) (λ _ _. (refl, refl)) (λ _.
      cond-elim Unless (ltb c.plane_row rows) (λ _. at-record width (record_under file width c)) (λ _.
      cond-elim (λ (f : Found). Unless (stays c f)) (eqb (length file) (c.offset + tail_length)) (λ _ _. (refl, refl))
      (λ _ _. (refl, refl))))

  pub next-record-at-record : ZeroUnless AtRecord (record_answer (stepped file c)).refusal
  unfolding stepped
  next-record-at-record = go (packed_opening file) (opening-zero file)
    where
      go : (o : Outcome Resolution) → OpeningZero o → Unless (opened_step file c o)
      go (Ok r) zero = body-unless (plane_rows_of r) (row_bytes_of r)
      go (Err why) zero = λ _. zero

-- ---- demand 1: what a refusal gives; nothing is lent but the file, which is only read

module _ (file : List ℕ) (c : RecordCursor) where
  abbrev Gives : Stepped → Type 0
  Gives s = RecordRefusal c (record_answer s)

  -- the cursor stays at a refusal
  refused-stays : (why : Refusal) → Gives (stays c (Err why))
  refused-stays why h = record { kind = refl; offset = refl; plane_row = refl; length = refl; next = refl }

  body-gives : (rows width : ℕ) → Gives (body_step file rows width c)
  unfolding body_step end_at
  body-gives rows width =
      cond-elim Gives (outside (length file) rows width c) (λ _. refused-stays _) (λ _.
      cond-elim Gives (ltb c.plane_row rows)
      (λ _. cond-elim Gives (eqb (fault (record_under file width c)) 0) (λ _ h. absurd (h refl)) (λ _. refused-stays _))
      (λ _. cond-elim (λ (f : Found). Gives (stays c f)) (eqb (length file) (c.offset + tail_length))
      (λ _ h. absurd (h refl)) (λ _. refused-stays _)))

  pub next-record-refused : RecordRefusal c (record_answer (stepped file c))
  unfolding stepped
  next-record-refused = go (packed_opening file)
    where
      go : (o : Outcome Resolution) → Gives (opened_step file c o)
      go (Ok r) = body-gives (plane_rows_of r) (row_bytes_of r)
      go (Err why) = refused-stays why

-- a refused opening gives no cursor
pub open-records-refused : (file : List ℕ) → Refuses (cursor_answer (packed_opening file)).refusal
    → (cursor_answer (packed_opening file)).cursor ≡ cursor_at 0 0 0
open-records-refused file = go (packed_opening file)
  where
    go : (o : Outcome Resolution) → Refuses (cursor_answer o).refusal → (cursor_answer o).cursor ≡ cursor_at 0 0 0
    go (Ok r) h = absurd (h refl)
    go (Err why) h = refl
