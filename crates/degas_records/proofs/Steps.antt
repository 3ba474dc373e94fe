-- Laws of one step: what each test comes to.
use Rattle.std.specs.Prelude.{Ok, Err, Some}
use mathlib.Core.Path.{◌≡◌, ap, ◌∙◌}
use Prim.Native.Nat.{ℕ, zero, suc, ◌+◌, ◌-◌, ◌≤◌, ◌<◌}
use native.Mathlib.Omega.{arith}
use mathlib.Core.Bool.{false, ◌||◌}
use mathlib.Core.List.{List}
use lib.ListN.{length}
use lib.Dec.{ltb, leb}
use borrow.Author.Tests.{lt-ltb, le-ltb, eq-eqb, ne_eqb, lt-leb, ltb-false, leb-false}
use Rattle.lists.proofs.Cond.{or-false}
use Rattle.outcome.specs.declared.Refusal.{Refusal}
use Rattle.outcome.specs.Outcome.{row_refusal}
use Rattle.packbits.specs.declared.Record.{Record}
use Rattle.packbits.specs.Records.{packed_len, row_len, fault}
use Rattle.resolution.specs.declared.Resolution.{Resolution}
use Rattle.resolution.specs.Shapes.{row_bytes_of, plane_rows_of}
use Rattle.degas.specs.Layout.{header_length}
use Rattle.degas_records.specs.Listing.{Found}
use Rattle.degas_records.specs.declared.RecordCursor.{RecordCursor}
use Rattle.degas_records.specs.declared.Stepped.{Stepped}
use Rattle.degas_records.specs.Opening.{packed_opening}
use Rattle.degas_records.specs.Listing.{cursor_at, record_under, listed_as, moved_over}
use Rattle.degas_records.specs.Steps.{stays, record_step, end_at, outside, body_step, opened_step, stepped, steps}

-- ---- a row is finished the moment it is full

module _ (width : ℕ) (c : RecordCursor) (r : Record) where
  pub moved-in-row : c.good_bytes + row_len r < width
      → moved_over width c r ≡ cursor_at (c.offset + packed_len r) c.plane_row (c.good_bytes + row_len r)
  unfolding moved_over
  moved-in-row h = simp (lt-ltb (c.good_bytes + row_len r) width h)

  pub moved-full : width ≤ c.good_bytes + row_len r
      → moved_over width c r ≡ cursor_at (c.offset + packed_len r) (c.plane_row + 1) 0
  unfolding moved_over
  moved-full h = simp (le-ltb (c.good_bytes + row_len r) width h)

  -- ---- a record

  pub record-whole : fault r ≡ 0
      → record_step width c r ≡ record { found = Ok (Some (listed_as c r)); next = moved_over width c r }
  record-whole e = simp (eq-eqb (fault r) 0 e)

  pub record-fault : (fault r ≡ 0 → ⊥)
      → record_step width c r
      ≡ stays c (Err (row_refusal (fault r) c.offset c.plane_row c.good_bytes))
  record-fault e = simp (ne_eqb (fault r) 0 e)

-- ---- a cursor out of range

module _ (size rows width : ℕ) (c : RecordCursor) where
  pub in-range : header_length ≤ c.offset → c.offset ≤ size → c.plane_row ≤ rows → c.good_bytes < width
      → outside size rows width c ≡ false
  unfolding outside
  in-range from to last room =
      simp (
        le-ltb c.offset header_length from,
        le-ltb size c.offset to,
        le-ltb rows c.plane_row last,
        lt-leb width c.good_bytes room,
      )

  -- in range: a plane row or the place after the last, and a row that is not full
  pub inside : outside size rows width c ≡ false → (c.plane_row ≤ rows) × (c.good_bytes < width)
  unfolding outside
  inside e =
      let before = ltb c.offset header_length || ltb size c.offset in
      let a = or-false (before || ltb rows c.plane_row) (leb width c.good_bytes) e in
      let b = or-false before (ltb rows c.plane_row) a.0 in
      (ltb-false rows c.plane_row b.1, leb-false width c.good_bytes a.1)

-- ---- one step over rows

module _ (file : List ℕ) (rows width : ℕ) (c : RecordCursor) where
  module _ (o : outside (length file) rows width c ≡ false) where
    pub step-record : c.plane_row < rows
        → body_step file rows width c ≡ record_step width c (record_under file width c)
    unfolding body_step
    step-record h = simp (o, lt-ltb c.plane_row rows h)

    pub step_end : rows ≤ c.plane_row → body_step file rows width c ≡ stays c (end_at (length file) c.offset)
    unfolding body_step
    step_end h = simp (o, le-ltb c.plane_row rows h)

-- ---- one step over a file

module _ (file : List ℕ) (c : RecordCursor) where
  pub stepped-opened : (r : Resolution) → packed_opening file ≡ Ok r
      → stepped file c ≡ body_step file (plane_rows_of r) (row_bytes_of r) c
  unfolding stepped
  stepped-opened r e = ap (opened_step file c) e

  pub stepped-refused : (why : Refusal) → packed_opening file ≡ Err why → stepped file c ≡ stays c (Err why)
  unfolding stepped
  stepped-refused why e = ap (opened_step file c) e

-- ---- where the cursor stays, each step gives the same

pub steps-stay : (file : List ℕ) (c : RecordCursor) (found : Found) → stepped file c ≡ stays c found → (k : ℕ)
    → steps file c k ≡ found
unfolding steps
steps-stay file c found e zero = ap (λ (s : Stepped). s.found) e
steps-stay file c found e (suc k) =
    ap (λ (s : Stepped). steps file s.next k) e ∙ steps-stay file c found e k

-- ---- the first of the steps, and those after it

module _ (file : List ℕ) (c : RecordCursor) (k i : ℕ) where
  pub steps-turn : i < k → steps file c (k - i) ≡ steps file (stepped file c).next (k - (i + 1))
  unfolding steps
  steps-turn h = let more : k - i ≡ suc (k - (i + 1)) = omega arith in ap (steps file c) more

  pub steps-last : k ≤ i → steps file c (k - i) ≡ (stepped file c).found
  unfolding steps
  steps-last h = let none : k - i ≡ 0 = omega arith in ap (steps file c) none
