-- What the record list answers (document 02, ticket 13), stated a second time: the order of judging as the ticket and
-- document 01 give it, the numbers, and what comes with a refusal. That the contracts' definitions answer so is proved
-- (proofs/RecordList.antt).
use Rattle.std.specs.Prelude.{ℕ, ◌+◌, ◌-◌, ◌≡◌, Bool, not, cond, ◌||◌, List, [], ◌∷◌, ◌++◌, length, drop, ltb, leb, eqb}
use Rattle.degas_records.specs.declared.RecordAnswer.{RecordAnswer}
use Rattle.degas_records.specs.declared.RecordCursor.{RecordCursor}
use Rattle.demands.specs.Refusals.{Refuses}
use Rattle.answers.specs.Orders.{Test, row_bytes, plane_rows, record_order, degas_resolution, degas_packed}

-- "Length and first word are judged at opening, in 01's order for reading"; "2 for a file that is not packed, judged
-- after 5"
abbrev pub open_records_order : List ℕ → List Test
open_records_order file =
    (ltb (length file) 34, 3)
    ∷ (ltb 2 (degas_resolution file), 5)
    ∷ (not (degas_packed file), 2)
    ∷ (ltb 32065 (length file), 3)
    ∷ []

-- a cursor out of range (house)
abbrev pub cursor_out : List ℕ → ℕ → ℕ → RecordCursor → Bool
cursor_out file rows width c =
    ltb c.offset 34 || ltb (length file) c.offset || ltb rows c.plane_row || leb width c.good_bytes

-- in a plane row one record, and after the last row "8 comes in place of done"
abbrev pub cursor_tests : List ℕ → ℕ → ℕ → RecordCursor → List Test
cursor_tests file rows width c =
    (cursor_out file rows width c, 10)
    ∷ cond (ltb c.plane_row rows) (record_order (drop c.offset file) (width - c.good_bytes))
    ((not (eqb (length file) (c.offset + 32)), 8) ∷ [])

-- "After a refused opening each step gives that refusal"
abbrev pub next_record_order : List ℕ → RecordCursor → List Test
next_record_order file c =
    open_records_order file
    ++ cursor_tests file (plane_rows (degas_resolution file)) (row_bytes (degas_resolution file)) c

abbrev pub open_records_numbers : List ℕ
open_records_numbers = 0 ∷ 2 ∷ 3 ∷ 5 ∷ []

abbrev pub next_record_numbers : List ℕ
next_record_numbers = 0 ∷ 2 ∷ 3 ∷ 5 ∷ 6 ∷ 7 ∷ 8 ∷ 10 ∷ []

-- a refusal gives zero in all else, and the cursor stays
pub record NoRecord (c : RecordCursor) (a : RecordAnswer) : Type 0 where
  pub kind : a.kind ≡ 0
  pub offset : a.offset ≡ 0
  pub plane_row : a.plane_row ≡ 0
  pub length : a.length ≡ 0
  pub next : a.next ≡ c

abbrev pub RecordRefusal : RecordCursor → RecordAnswer → Type 0
RecordRefusal c a = Refuses a.refusal → NoRecord c a
