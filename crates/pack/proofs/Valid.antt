-- `least row` is one record and then the least body of what the record leaves; so it unpacks to the row, and is least.
use Prim.Native.Nat.{ℕ, zero, suc, ◌-◌, ◌≤◌, ◌<◌, suc-le-suc}
use native.Mathlib.Omega.{arith}
use mathlib.Core.Path.{◌≡◌, refl, sym, ap, ◌∙◌, subst}
use mathlib.Core.List.{List, [], ◌∷◌, ◌++◌}
use lib.ListN.{length, replicate, take, drop, length-drop, take-append-drop}
use lib.Seq.{length-take-le}
use Rattle.packbits.specs.Unpacks.{Unpacks, full, literal, repeat}
use Rattle.pack.specs.IsLeast.{IsLeast}
use Rattle.pack.specs.Least.{Body, size, Opening, Run, literal_body, repeat_body, scan, least, least_records}
use Rattle.pack.proofs.Least.{opening-cases, run-cases, best-cases, run-byte, more-bound}
use Rattle.pack.proofs.Optimal.{least_first}

-- ---- where an opening literal ends

record OpeningEnds (x : ℕ) (t : List ℕ) (o : Opening) : Type 0 where
  bytes : o.rest.bytes ≡ x ∷ (take o.more t ++ least (drop o.more t))
  records : o.rest.records ≡ least_records (drop o.more t)

opening-ends : (x : ℕ) (t : List ℕ) → OpeningEnds x t (scan (x ∷ t)).opening
unfolding scan
opening-ends x [] =
    opening-cases x (scan []) (OpeningEnds x [])
    (λ e. record { bytes = refl; records = refl })
    (λ e. absurd (omega arith))
opening-ends x (y ∷ t) =
    let ih : OpeningEnds y t (scan (y ∷ t)).opening = opening-ends y t in
    opening-cases x (scan (y ∷ t)) (OpeningEnds x (y ∷ t))
    (λ e. record { bytes = refl; records = refl })
    (λ e. record { bytes = ap (λ (l : List ℕ). x ∷ l) ih.bytes; records = ih.records })

-- ---- where a run ends: after k bytes more

record RunEnds (x : ℕ) (t : List ℕ) (r : Run) : Type 0 where
  k : ℕ
  count : r.count ≡ suc k
  within : k ≤ length t
  equal : take k t ≡ replicate k x
  beyond : r.beyond ≡ (scan (drop k t)).best

run_ends : (x : ℕ) (t : List ℕ) → RunEnds x t (scan (x ∷ t)).run
unfolding scan
run_ends x [] =
    run-cases x (scan []) (RunEnds x [])
    (λ e. record { k = 0; count = refl; within = omega arith; equal = refl; beyond = refl })
    (λ e. record { k = 0; count = refl; within = omega arith; equal = refl; beyond = refl })
run_ends x (y ∷ t) =
    let ih : RunEnds y t (scan (y ∷ t)).run = run_ends y t in
    run-cases x (scan (y ∷ t)) (RunEnds x (y ∷ t))
    (λ e.
    let q : x ≡ y = e ∙ run-byte y t in
    record {
      k = suc ih.k;
      count = ap suc ih.count;
      within = suc-le-suc ih.within;
      equal = rw q (ap (λ (l : List ℕ). y ∷ l) ih.equal);
      beyond = ih.beyond;
    })
    (λ e. record { k = 0; count = refl; within = omega arith; equal = refl; beyond = refl })

-- ---- the first record of the least body of x ∷ t: it stands for x and the k bytes after it

pub data FirstRecord (x : ℕ) (t : List ℕ) : Body → Type 0 where
  a-literal : (k : ℕ) → k ≤ length t
      → FirstRecord x t
      (record { bytes = k ∷ x ∷ (take k t ++ least (drop k t)); records = suc (least_records (drop k t)) })
  a-repeat : (k : ℕ) → 1 ≤ k → k ≤ length t → take k t ≡ replicate k x
      → FirstRecord x t (record { bytes = (256 - k) ∷ x ∷ least (drop k t); records = suc (least_records (drop k t)) })

from-literal : (x : ℕ) (t : List ℕ) (o : Opening) → o.more ≤ length t → OpeningEnds x t o
    → FirstRecord x t (literal_body o)
from-literal x t o l q = rw (q.bytes, q.records) (a-literal o.more l)

from-repeat : (x : ℕ) (t : List ℕ) (r : Run) → r.byte ≡ x → 2 ≤ r.count → RunEnds x t r
    → FirstRecord x t (repeat_body r)
from-repeat x t r e l q =
    let c : 257 - r.count ≡ 256 - q.k = omega (arith, q.count) in
    rw (c, e, q.beyond) (a-repeat q.k (omega (arith, q.count)) q.within q.equal)

-- a run of one byte is never written as a repeat
opening≤ : (x : ℕ) (t : List ℕ) → size (scan (x ∷ t)).opening.rest ≤ suc (size (scan t).best)
unfolding scan
opening≤ x t =
    opening-cases x (scan t) (λ o. size o.rest ≤ suc (size (scan t).best)) (λ e. omega arith) (λ e. omega arith)

run-of-two : (x : ℕ) (t : List ℕ) (k count : ℕ) (beyond : Body) → count ≡ suc k → beyond ≡ (scan (drop k t)).best
    → suc (size beyond) < size (scan (x ∷ t)).opening.rest → 2 ≤ count
run-of-two x t zero count beyond p q h = absurd (omega (arith, opening≤ x t, ap size q))
run-of-two x t (suc k) count beyond p q h = omega arith

pub first-record : (x : ℕ) (t : List ℕ) → FirstRecord x t (scan (x ∷ t)).best
unfolding scan
first-record x t =
    let q : RunEnds x t (scan (x ∷ t)).run = run_ends x t in
    best-cases x (scan t) (FirstRecord x t)
    (λ h. from-literal x t (scan (x ∷ t)).opening (more-bound x t) (opening-ends x t))
    (λ h. from-repeat x t (scan (x ∷ t)).run (run-byte x t) (run-of-two x t q.k _ _ q.count q.beyond h) q)

-- ---- that record, and what follows it, unpack to the row

unpacks-first : (x : ℕ) (t : List ℕ) (b : Body) → suc (length t) ≤ 128 → FirstRecord x t b
    → ((k : ℕ) → Unpacks (least (drop k t)) (drop k t) (least_records (drop k t)))
    → Unpacks b.bytes (x ∷ t) b.records
unpacks-first x t b h (a-literal k l) ih =
    subst (λ (r : List ℕ). Unpacks (k ∷ x ∷ (take k t ++ least (drop k t))) (x ∷ r) (suc (least_records (drop k t))))
    (take-append-drop k t)
    (literal (x ∷ take k t) (omega arith) (omega (arith, length-take-le k t l)) (ih k))
unpacks-first x t b h (a-repeat k one l e) ih =
    let n : 257 - (256 - k) ≡ suc k = omega arith in
    subst (λ (r : List ℕ). Unpacks ((256 - k) ∷ x ∷ least (drop k t)) r (suc (least_records (drop k t))))
    (ap (λ (m : ℕ). replicate m x ++ drop k t) n
    ∙ ap (λ (r : List ℕ). x ∷ (r ++ drop k t)) (sym e)
    ∙ ap (λ (r : List ℕ). x ∷ r) (take-append-drop k t))
    (repeat (omega arith) (omega arith) (ih k))

unpacks-below : (f : ℕ) (s : List ℕ) → length s ≤ f → length s ≤ 128 → Unpacks (least s) s (least_records s)
unfolding scan
unpacks-below zero [] l h = full
unpacks-below zero (x ∷ t) l h = absurd (omega arith)
unpacks-below (suc f) [] l h = full
unpacks-below (suc f) (x ∷ t) l h =
    unpacks-first x t (scan (x ∷ t)).best h (first-record x t)
    (λ k. unpacks-below f (drop k t) (omega (arith, length-drop k t)) (omega (arith, length-drop k t)))

-- ---- the least body of a row of at most 128 bytes is least

pub least-is-least : (row : List ℕ) → length row ≤ 128 → IsLeast row (least row) (least_records row)
least-is-least row h = record { unpacks = unpacks-below (length row) row (omega arith) h; first = λ u. least_first h u }
