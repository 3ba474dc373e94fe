-- Laws of a record: what its control byte says, and its judgement.
use mathlib.Core.Path.{◌≡◌, ap, ◌∙◌}
use mathlib.Core.List.{List}
use Prim.Native.Nat.{ℕ, ◌+◌, ◌-◌, ◌≤◌, ◌<◌}
use native.Mathlib.Omega.{arith}
use lib.ListN.{length, get_or, take, drop, replicate, length-drop, length-replicate}
use lib.Seq.{length-take-le}
use borrow.Author.Tests.{lt-ltb, le-ltb, lt-leb, le-leb}
use Rattle.lists.proofs.Cond.{cond-leb, cond-ltb}
use Rattle.outcome.specs.Refusal.{input_ends, record_crosses}
use Rattle.spectrum_data_map.specs.Records.{least_repeat, makes, takes, control, record_bytes, fault_at}

-- ---- by its control byte

-- a literal or a repeat
pub by_kind : {P : Type 0} (x : ℕ) → (x < least_repeat → P) → (least_repeat ≤ x → P) → P
by_kind {P} x literal repeat = cond-ltb {A = ℕ} (λ u. P) {a = 0} {b = 0} x least_repeat literal repeat

module _ (x : ℕ) where
  pub makes-literal : x < least_repeat → makes x ≡ x + 1
  unfolding makes
  makes-literal h = rw (lt-ltb x least_repeat h)

  pub makes-repeat : least_repeat ≤ x → makes x ≡ 256 - x + 2
  unfolding makes
  makes-repeat h = rw (le-ltb x least_repeat h)

  pub takes-literal : x < least_repeat → takes x ≡ x + 2
  unfolding takes
  takes-literal h = rw (lt-ltb x least_repeat h)

  pub takes-repeat : least_repeat ≤ x → takes x ≡ 2
  unfolding takes
  takes-repeat h = rw (le-ltb x least_repeat h)

  pub makes-some : 0 < makes x
  unfolding makes
  makes-some = cond-ltb (λ n. 0 < n) x least_repeat (λ h. omega arith) (λ h. omega arith)

-- ---- at an offset of a map

module _ (map : List ℕ) (at : ℕ) where
  pub bytes-literal : control map at < least_repeat
      → record_bytes map at ≡ take (makes (control map at)) (drop (at + 1) map)
  unfolding record_bytes
  bytes-literal h = rw (lt-ltb (control map at) least_repeat h, makes-literal (control map at) h)

  pub bytes-repeat : least_repeat ≤ control map at
      → record_bytes map at ≡ replicate (makes (control map at)) (get_or map (at + 1) 0)
  unfolding record_bytes
  bytes-repeat h = rw (le-ltb (control map at) least_repeat h, makes-repeat (control map at) h)

  -- the bytes of a record that is there whole
  pub length-bytes : at + takes (control map at) ≤ length map → length (record_bytes map at) ≡ makes (control map at)
  length-bytes has =
      by_kind (control map at)
      (λ h.
      ap length (bytes-literal h)
      ∙ length-take-le (makes (control map at)) (drop (at + 1) map)
      (omega (arith, length-drop (at + 1) map, makes-literal (control map at) h, takes-literal (control map at) h)))
      (λ h. ap length (bytes-repeat h) ∙ length-replicate (makes (control map at)) (get_or map (at + 1) 0))

  -- ---- judged, with so much room

  -- a whole record, with room for what it makes
  pub record Whole (room : ℕ) : Type 0 where
    pub here : at < length map
    pub fits : makes (control map at) ≤ room
    pub has : at + takes (control map at) ≤ length map

  pub fault-end : (room : ℕ) → length map ≤ at → fault_at map at room ≡ input_ends
  unfolding fault_at
  fault-end room h = rw (le-leb (length map) at h)

  pub fault-crosses : (room : ℕ) → at < length map → room < makes (control map at)
      → fault_at map at room ≡ record_crosses
  unfolding fault_at
  fault-crosses room h k = rw (lt-leb (length map) at h, lt-ltb room (makes (control map at)) k)

  pub fault-cut : (room : ℕ) → at < length map → makes (control map at) ≤ room
      → length map < at + takes (control map at)
      → fault_at map at room ≡ input_ends
  unfolding fault_at
  fault-cut room h k l =
      rw (
        lt-leb (length map) at h,
        le-ltb room (makes (control map at)) k,
        lt-ltb (length map) (at + takes (control map at)) l,
      )

  pub fault-whole : (room : ℕ) → Whole room → fault_at map at room ≡ 0
  unfolding fault_at
  fault-whole room w =
      rw (
        lt-leb (length map) at w.here,
        le-ltb room (makes (control map at)) w.fits,
        le-ltb (length map) (at + takes (control map at)) w.has,
      )

  -- what holds in each case holds of the number
  pub fault-elim : (room : ℕ) (P : ℕ → Type 0) → (length map ≤ at → P input_ends)
      → (at < length map → room < makes (control map at) → P record_crosses)
      → (at < length map → makes (control map at) ≤ room → length map < at + takes (control map at) → P input_ends)
      → (Whole room → P 0) → P (fault_at map at room)
  unfolding fault_at
  fault-elim room P none crosses cut whole =
      cond-leb P (length map) at none
      (λ h. cond-ltb P room (makes (control map at)) (crosses h)
      (λ k. cond-ltb P (length map) (at + takes (control map at)) (cut h k)
      (λ l. whole (record { here = h; fits = k; has = l }))))

  pub whole_here : (room : ℕ) → fault_at map at room ≡ 0 → Whole room
  whole_here room =
      fault-elim room (λ k. k ≡ 0 → Whole room)
      (λ h e. absurd (omega arith))
      (λ h k e. absurd (omega arith))
      (λ h k l e. absurd (omega arith))
      (λ w e. w)
