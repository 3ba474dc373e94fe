-- A row read record by record from an offset of a file: the invariant of the loop that reads it, and its laws.
use Rattle.std.specs.Prelude.{Ok, Err}
use mathlib.Core.Path.{◌≡◌, refl, sym, ap, ◌∙◌}
use Prim.Native.Nat.{ℕ, ◌+◌, ◌-◌, ◌≤◌, ◌<◌}
use native.Mathlib.Omega.{arith}
use mathlib.Core.List.{List}
use lib.ListN.{length, drop, length-append}
use lib.Seq.{drop-drop}
use borrow.Author.Tests.{eq-eqb, ne_eqb}
use Rattle.outcome.specs.Outcome.{row_refusal, map}
use Rattle.packbits.specs.declared.Record.{Record}
use Rattle.packbits.specs.Records.{packed_len, row_len, row_bytes, fault, record_at}
use Rattle.packbits.specs.Row.{row_packed}
use Rattle.packbits.specs.Unpack.{Progress, stopped, after, progress, outcome_of, unpack_at}
use Rattle.packbits.proofs.Records.{WholeAt, whole-at}
use Rattle.packbits.proofs.Unpack.{progress-full, progress-whole, progress-fault}

-- what unpacking comes to from an offset on, with room left in the row
abbrev pub left : List ℕ → ℕ → ℕ → Progress
left file from room = progress (drop from file) room

-- the row that starts at `at` is read up to `from`, `records` records of it, and what is left of the file gives the
-- rest
pub record RecordsRead (file : List ℕ) (at width from room records : ℕ) : Type 0 where
  pub counted : at + records ≤ from
  pub bytes : from + (left file from room).bytes ≡ at + (left file at width).bytes
  pub total : records + (left file from room).records ≡ (left file at width).records
  pub fault : (left file from room).fault ≡ (left file at width).fault
  pub made : width + length (left file from room).made ≡ room + length (left file at width).made

pub read-start : (file : List ℕ) (at width : ℕ) → RecordsRead file at width at width 0
read-start file at width =
    record { counted = omega arith; bytes = refl; total = omega arith; fault = refl; made = refl }

-- ---- no room left

pub left-full : (file : List ℕ) (from room : ℕ) → room ≤ 0 → left file from room ≡ stopped 0
left-full file from room h = let none : room ≡ 0 = omega arith in rw none (progress-full (drop from file))

-- ---- the next record

module _ (file : List ℕ) (from room : ℕ) (r : Record) (is : r ≡ record_at (drop from file) room) (h : 0 < room) where
  pub left-fault : (fault r ≡ 0 → ⊥) → left file from room ≡ stopped (fault r)
  left-fault e = progress-fault (drop from file) room r is h e

  module _ (ok : fault r ≡ 0) where
    pub left-whole : left file from room
        ≡ after (packed_len r) (row_bytes r (drop from file)) (left file (from + packed_len r) (room - row_len r))
    left-whole = progress-whole (drop from file) room r is h ok ∙ rw (drop-drop (packed_len r) from file)

    pub read-turn : {at width records : ℕ} → RecordsRead file at width from room records
        → RecordsRead file at width (from + packed_len r) (room - row_len r) (records + 1)
    read-turn g =
        let w : WholeAt r file from room = whole-at file from room r is ok in
        let longer =
        length-append (row_bytes r (drop from file)) (left file (from + packed_len r) (room - row_len r)).made in
        record {
          counted = omega (arith, w.takes, g.counted);
          bytes = omega (arith, ap (λ (p : Progress). p.bytes) left-whole, g.bytes);
          total = omega (arith, ap (λ (p : Progress). p.records) left-whole, g.total);
          fault = sym (ap (λ (p : Progress). p.fault) left-whole) ∙ g.fault;
          made = omega (arith, ap (λ (p : Progress). length p.made) left-whole, longer, w.makes, w.fits, g.made);
        }

-- ---- the answer, where no record is left or the next is at fault

module _ {file : List ℕ} {at width from room records number : ℕ} (g : RecordsRead file at width from room records)
    (stop : left file from room ≡ stopped number) where
  abbrev all : Progress
  all = left file at width

  fault-is : all.fault ≡ number
  fault-is = sym g.fault ∙ ap (λ (p : Progress). p.fault) stop

  place_is : at + all.bytes ≡ from
  place_is = omega (arith, ap (λ (p : Progress). p.bytes) stop, g.bytes)

  bytes-is : all.bytes ≡ from - at
  bytes-is = omega (arith, place_is)

  records_is : all.records ≡ records
  records_is = omega (arith, ap (λ (p : Progress). p.records) stop, g.total)

  made-is : {to : ℕ} → width ≡ room + to → length all.made ≡ to
  made-is e = omega (arith, ap (λ (p : Progress). length p.made) stop, g.made)

  pub answer-refused : {to : ℕ} → width ≡ room + to → (number ≡ 0 → ⊥)
      → map row_packed (unpack_at file at width) ≡ Err (row_refusal number from 0 to)
  unfolding outcome_of
  answer-refused reached e = rw fault-is (simp (ne_eqb number 0 e, place_is, made-is reached))

  pub answer-accepted : number ≡ 0
      → map row_packed (unpack_at file at width) ≡ Ok (record { bytes = from - at; records = records })
  unfolding outcome_of
  answer-accepted e = simp (eq-eqb all.fault 0 (fault-is ∙ e), bytes-is, records_is)
