-- Laws of a record: its kinds by its first two bytes, and what a whole one takes and makes.
use mathlib.Core.Path.{◌≡◌, refl, sym, ap, ◌∙◌}
use mathlib.Core.Bool.{true, false}
use mathlib.Core.List.{List}
use Prim.Native.Nat.{ℕ, ◌+◌, ◌-◌, ◌*◌, ◌^◌, ◌≤◌, ◌<◌, min}
use native.Mathlib.Decide.{dec_lt}
use native.Mathlib.Omega.{arith}
use lib.ListN.{length, get_or, take, drop, length-drop, length-replicate, get_or-eq_default}
use lib.Seq.{length-take-le}
use borrow.Author.Tests.{eq-eqb, ne_eqb, lt-ltb, le-ltb}
use Rattle.lists.proofs.Cond.{cond-ltb, cond-eqb}
use Rattle.lists.proofs.Repeated.{length-repeated}
use Rattle.outcome.specs.Refusal.{input_ends, record_crosses}
use Rattle.gem_img_records.specs.declared.Record.{Record}
use Rattle.gem_img_records.specs.declared.Record.TheVariants.{ScanlineRun, PatternRun, Literal, SolidRun}
use Rattle.gem_img_records.specs.Records.{control, record_at, is_scanline_run, scanline_run_len, solid_len, solid_byte}
use Rattle.gem_img_records.specs.Records.{misplaced_fault, packed_len, line_len, line_bytes, fit_fault, fault, fault_at}

-- ---- by its first two bytes

module _ (x n : ℕ) where
  pub control-scanline : x ≡ 0 → n ≡ 0 → control x n ≡ ScanlineRun
  unfolding control
  control-scanline h k = rw (eq-eqb x 0 h, eq-eqb n 0 k)

  pub control-pattern : x ≡ 0 → (n ≡ 0 → ⊥) → control x n ≡ PatternRun n
  unfolding control
  control-pattern h k = rw (eq-eqb x 0 h, ne_eqb n 0 k)

  pub control-literal : x ≡ 128 → control x n ≡ Literal n
  unfolding control
  control-literal h = rw h

  pub control-solid : (x ≡ 0 → ⊥) → (x ≡ 128 → ⊥) → control x n ≡ SolidRun x
  unfolding control
  control-solid h k = rw (ne_eqb x 0 h, ne_eqb x 128 k)

pub solid-cleared : (x : ℕ) → x < 128 → solid_byte x ≡ 0
unfolding solid_byte
solid-cleared x h = rw (lt-ltb x 128 h)

pub solid-set : (x : ℕ) → 128 ≤ x → solid_byte x ≡ 255
unfolding solid_byte
solid-set x h = rw (le-ltb x 128 h)

-- by its two bytes as the code reads them: at the largest number no byte stands
pub record-read : (file : List ℕ) (at x n next : ℕ) (r : Record) → length file < 2 ^ 64 → x ≡ get_or file at 0
    → next ≡ min (at + 1) (2 ^ 64 - 1) → n ≡ get_or file next 0 → r ≡ control x n → r ≡ record_at file at
unfolding record_at
record-read file at x n next r most e f g is =
    is ∙ ap (λ (k : ℕ). control k n) e ∙ ap (control (get_or file at 0)) (g ∙ behind (dec_lt (at + 1) (2 ^ 64 - 1)))
  where
    behind : Dec (at + 1 < 2 ^ 64 - 1) → get_or file next 0 ≡ get_or file (at + 1) 0
    behind (yes h) = let same : next ≡ at + 1 = omega arith in ap (λ (k : ℕ). get_or file k 0) same
    behind (no h) =
        get_or-eq_default file 0 {n = next} (omega arith) ∙ sym (get_or-eq_default file 0 {n = at + 1} (omega arith))

-- a scanline run's two bytes
pub scanline-zeros : (file : List ℕ) (at : ℕ) → record_at file at ≡ ScanlineRun
    → (get_or file at 0 ≡ 0) × (get_or file (at + 1) 0 ≡ 0)
unfolding record_at control
scanline-zeros file at =
    cond-eqb (λ r. r ≡ ScanlineRun → (get_or file at 0 ≡ 0) × (get_or file (at + 1) 0 ≡ 0)) (get_or file at 0) 0
    (λ x. cond-eqb (λ r. r ≡ ScanlineRun → (get_or file at 0 ≡ 0) × (get_or file (at + 1) 0 ≡ 0)) (get_or file (at + 1) 0) 0
    (λ n e. (x, n)) (λ n e. let z : ◌≡◌ {A = ℕ} 0 1 = cc in absurd (omega arith)))
    (λ x. cond-eqb (λ r. r ≡ ScanlineRun → (get_or file at 0 ≡ 0) × (get_or file (at + 1) 0 ≡ 0)) (get_or file at 0) 128
    (λ l e. let z : ◌≡◌ {A = ℕ} 0 1 = cc in absurd (omega arith))
    (λ l e. let z : ◌≡◌ {A = ℕ} 0 1 = cc in absurd (omega arith)))

-- ---- judged

pub misplaced-some : (left : ℕ) → misplaced_fault left ≡ 0 → ⊥
misplaced-some left = cond-ltb (λ k. k ≡ 0 → ⊥) left scanline_run_len (λ h e. omega arith) (λ h e. omega arith)

module _ (pattern : ℕ) (r : Record) (left room : ℕ) where
  pub fit-crosses : room < line_len pattern r → fit_fault pattern r left room ≡ record_crosses
  fit-crosses h = rw (lt-ltb room (line_len pattern r) h)

  pub fit-ends : line_len pattern r ≤ room → left < packed_len pattern r → fit_fault pattern r left room ≡ input_ends
  fit-ends h k = rw (le-ltb room (line_len pattern r) h, lt-ltb left (packed_len pattern r) k)

  pub fit-whole : line_len pattern r ≤ room → packed_len pattern r ≤ left → fit_fault pattern r left room ≡ 0
  fit-whole h k = rw (le-ltb room (line_len pattern r) h, le-ltb left (packed_len pattern r) k)

  pub fitted : fit_fault pattern r left room ≡ 0 → (line_len pattern r ≤ room) × (packed_len pattern r ≤ left)
  fitted =
      cond-ltb (λ k. k ≡ 0 → (line_len pattern r ≤ room) × (packed_len pattern r ≤ left)) room (line_len pattern r)
      (λ h e. absurd (omega arith))
      (λ h. cond-ltb (λ k. k ≡ 0 → (line_len pattern r ≤ room) × (packed_len pattern r ≤ left)) left
      (packed_len pattern r) (λ k e. absurd (omega arith)) (λ k e. (h, k)))

pub scanline-known : (r : Record) → is_scanline_run r ≡ true → r ≡ ScanlineRun
scanline-known ScanlineRun e = refl
scanline-known (PatternRun n) e = let z : ◌≡◌ {A = ℕ} 0 1 = cc in absurd (omega arith)
scanline-known (Literal n) e = let z : ◌≡◌ {A = ℕ} 0 1 = cc in absurd (omega arith)
scanline-known (SolidRun x) e = let z : ◌≡◌ {A = ℕ} 0 1 = cc in absurd (omega arith)

pub fault-scanline : (pattern : ℕ) (r : Record) (left room : ℕ) → r ≡ ScanlineRun
    → fault pattern r left room ≡ misplaced_fault left
fault-scanline pattern r left room is = rw is

pub fault-other : (pattern : ℕ) (r : Record) (left room : ℕ) → is_scanline_run r ≡ false
    → fault pattern r left room ≡ fit_fault pattern r left room
fault-other pattern ScanlineRun left room e = let z : ◌≡◌ {A = ℕ} 0 1 = cc in absurd (omega arith)
fault-other pattern (PatternRun n) left room e = refl
fault-other pattern (Literal n) left room e = refl
fault-other pattern (SolidRun x) left room e = refl

-- of the record at an offset
pub fault-at : (pattern : ℕ) (file : List ℕ) (at room : ℕ) (r : Record) (left number : ℕ) → r ≡ record_at file at
    → left ≡ length file - at → number ≡ fault pattern r left room → number ≡ fault_at pattern file at room
unfolding fault_at
fault-at pattern file at room r left number is few e = rw (← is, ← few) e

-- a record that is not at fault is no scanline run
pub not-run : (pattern : ℕ) (file : List ℕ) (at room : ℕ) → fault_at pattern file at room ≡ 0
    → is_scanline_run (record_at file at) ≡ false
unfolding fault_at
not-run pattern file at room = go (record_at file at)
  where
    go : (r : Record) → fault pattern r (length file - at) room ≡ 0 → is_scanline_run r ≡ false
    go ScanlineRun e = absurd (misplaced-some (length file - at) e)
    go (PatternRun n) e = refl
    go (Literal n) e = refl
    go (SolidRun x) e = refl

-- ---- a whole record at an offset of a file, with room for it in its line

module _ (pattern : ℕ) (file : List ℕ) (at room : ℕ) where
  pub record Whole (r : Record) : Type 0 where
    pub fits : line_len pattern r ≤ room
    pub has : at + packed_len pattern r ≤ length file
    pub takes : 0 < packed_len pattern r
    pub makes : length (line_bytes pattern r file at) ≡ line_len pattern r

  bytes-behind : (n : ℕ) → at + (2 + n) ≤ length file → length (take n (drop (at + 2) file)) ≡ n
  bytes-behind n h = length-take-le n (drop (at + 2) file) (omega (arith, length-drop (at + 2) file))

  pub whole : (r : Record) → fault pattern r (length file - at) room ≡ 0 → Whole r
  whole ScanlineRun e = absurd (misplaced-some (length file - at) e)
  whole (PatternRun n) e =
      let f = fitted pattern (PatternRun n) (length file - at) room e in
      let has : at + (2 + pattern) ≤ length file = omega (arith, f.1) in
      record {
        fits = f.0;
        has = has;
        takes = omega arith;
        makes =
            length-repeated n (take pattern (drop (at + 2) file))
            ∙ ap (λ (k : ℕ). n * k) (bytes-behind pattern has);
      }
  whole (Literal n) e =
      let f = fitted pattern (Literal n) (length file - at) room e in
      let has : at + (2 + n) ≤ length file = omega (arith, f.1) in
      record { fits = f.0; has = has; takes = omega arith; makes = bytes-behind n has }
  whole (SolidRun x) e =
      let f = fitted pattern (SolidRun x) (length file - at) room e in
      record {
        fits = f.0;
        has = omega (arith, f.1);
        takes = omega arith;
        makes = length-replicate (solid_len x) (solid_byte x);
      }
