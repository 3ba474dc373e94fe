-- Laws of `Known`: its start, the control byte that it tells, and the place after the record of that control byte.
use Prim.Native.Nat.{ℕ, zero, suc, ◌+◌, ◌-◌, ◌≤◌, ◌<◌}
use native.Mathlib.Omega.{arith}
use native.Mathlib.Nat.{eq-or-lt_of_le}
use mathlib.Core.Path.{◌≡◌, refl, sym, ap, ◌∙◌}
use mathlib.Core.Logic.{⊎_elim}
use mathlib.Core.List.{List}
use lib.ListN.{length, get_or, drop}
use borrow.Author.Tests.{lt-ltb, le-ltb}
use Rattle.pack.specs.Controls.{taken_by}
use Rattle.pack.specs.Least.{Body, Opening, least}
use Rattle.pack.proofs.Controls.{taken-literal, taken-repeat}
use Rattle.pack.specs.declared.Ahead.{Ahead}
use Rattle.pack.specs.Plan.{run, runs, closed, longest, run_before, planned}
use Rattle.pack.specs.Runs.{run_length, end_of}
use Rattle.pack.specs.ShortRuns.{ahead_at, control_at, LongRun, Known}
use Rattle.pack.proofs.Plan.{le-or-lt, before-joined, before-repeated, plan-bytes}
use Rattle.pack.proofs.Runs.{end-other, run_ends, three-ends, run-bounds, planned-here}
use Rattle.pack.proofs.ShortRuns.{Answer, literal_at, pair_more, literal-single, literal-pair, literal-long}
use Rattle.pack.proofs.ShortRuns.{short-short, short-long, nothing-at-end, ahead-ends}

pub known-answer : (row : List ℕ) (i : ℕ) (r : Ahead) → Answer row i r → Known row i r
known-answer row i r a =
    record {
      literal = omega (arith, ap (λ (t : Ahead). t.single) a.0);
      short = sym (ap (λ (t : Ahead). t.end) a.0);
      long = sym (ap (λ (t : Ahead). t.count) a.0);
      next = a.1.0.0;
      order = a.1.0.1;
      within = a.1.0.2;
      after = a.1.1;
    }

pub known-ahead : (row : List ℕ) (i : ℕ) (r : Ahead) → i ≤ length row → r ≡ ahead_at row i → Known row i r
known-ahead row i r h e = rw e (known-answer row i (ahead_at row i) (ahead-ends row i h).0)

-- ---- the first byte of the least body of a suffix

first-literal : (k m : ℕ) (b : Body) → k ≡ suc m → get_or (closed k b).bytes 0 0 ≡ m
first-literal zero m b e = absurd (omega arith)
first-literal (suc k) m b e = omega arith

pub control-literal : (row : List ℕ) (i m : ℕ) → literal_at row i ≡ suc m → get_or (least (drop i row)) 0 0 ≡ m
control-literal row i m e =
    ap (λ (b : List ℕ). get_or b 0 0) (sym (plan-bytes (drop i row)))
    ∙ first-literal (literal_at row i) m (planned (runs (drop i row))).rest e

first-repeat : (x n : ℕ) (o p : Opening) → 1 ≤ n → p ≡ run_before (run x n) o → p.more ≡ 0
    → get_or (closed p.more p.rest).bytes 0 0 ≡ 257 - n
first-repeat x n o p h e z =
    ⊎_elim
    (λ l. absurd (omega (arith, ap (λ (q : Opening). q.more) (e ∙ before-joined x n o l))))
    (λ l. ap (λ (q : Opening). get_or (closed q.more q.rest).bytes 0 0) (e ∙ before-repeated x n o l))
    (le-or-lt n (longest o.more))

pub control-repeat : (row : List ℕ) (i n : ℕ) → i < length row → n ≡ run_length (drop i row) → literal_at row i ≡ 0
    → get_or (least (drop i row)) 0 0 ≡ 257 - n
control-repeat row i n h e z =
    ap (λ (b : List ℕ). get_or b 0 0) (sym (plan-bytes (drop i row)))
    ∙ first-repeat (get_or (drop i row) 0 0) n (planned (runs (drop (i + n) row))) (planned (runs (drop i row)))
    (run-bounds row i n h e).0 (planned-here row i n h e) z

-- ---- with short runs that are known

not-pair : (k : ℕ) → 0 ≡ pair_more k → k ≡ 0
not-pair zero e = refl
not-pair (suc k) e = absurd (omega arith)

module _ (row : List ℕ) (i : ℕ) (s : Ahead) (known : Known row i s) (h : i < length row) where
  -- after the literal and before the end of the short runs there is a pair
  pair-here : s.single ≤ i → i < s.end → run_length (drop i row) ≡ 2
  pair-here l m =
      let n : ℕ = run_length (drop i row) in
      ⊎_elim
      (λ q.
      ⊎_elim
      (λ two. two)
      (λ one.
      let q : n ≡ 1 = omega (arith, (run-bounds row i n h refl).0) in
      absurd (omega (arith, literal-single row i n h refl q, known.literal)))
      (eq-or-lt_of_le q))
      (λ q. absurd (omega (arith, (short-long row i n h refl q).0, known.short)))
      (le-or-lt n 2)

  -- at their end there is a longer run
  long-here : s.end ≤ i → (2 < s.count) × (run_length (drop i row) ≡ s.count) × (i + s.count ≤ length row)
  long-here l =
      let n : ℕ = run_length (drop i row) in
      ⊎_elim
      (λ q. absurd (omega (arith, (short-short row i n h refl q).0, known.short, (run-bounds row i n h refl).0)))
      (λ q. omega (arith, (short-long row i n h refl q).1, known.long, (run-bounds row i n h refl).1))
      (le-or-lt n 2)

  -- there is a short run or a longer one
  pub ahead-some : i < s.end + s.count
  ahead-some = ⊎_elim (λ l. omega (arith, long-here l)) (λ l. omega arith) (le-or-lt s.end i)

  -- before the end of the short runs: the control byte is that of the least body
  module _ (m : i < s.end) where
    pub known-control : control_at i s ≡ get_or (least (drop i row)) 0 0
    known-control =
        ⊎_elim
        (λ l.
        let e = control-repeat row i 2 h (sym (pair-here l m)) (omega (arith, known.literal)) in
        rw (le-ltb i s.single l) (sym e))
        (λ l.
        let e = control-literal row i (s.single - i - 1) (omega (arith, known.literal)) in
        rw (lt-ltb i s.single l) (sym e))
        (le-or-lt s.single i)

    -- of a single byte alone it is 0
    pub known-one : s.end ≡ i + 1 → 0 ≡ get_or (least (drop i row)) 0 0
    known-one e =
        let literal : i < s.single =
        ⊎_elim
        (λ l. absurd (omega (arith, (short-short row i 2 h (sym (pair-here l m)) (omega arith)).0, known.short)))
        (λ l. l)
        (le-or-lt s.single i) in
        sym (control-literal row i 0 (omega (arith, known.literal, known.order)))

    -- after the literal
    known-literal : Known row s.single s
    known-literal =
        known-answer row s.single s (known.next, ((known.next, known.order, known.within), known.after))

    -- after a pair
    known-pair : s.single ≤ i → Known row (i + 2) s
    known-pair l =
        let e : 2 ≡ run_length (drop i row) = sym (pair-here l m) in
        let q = literal-pair row i 2 h e refl in
        let z : literal_at row (i + 2) ≡ 0 = not-pair (literal_at row (i + 2)) (omega (arith, q, known.literal)) in
        let w = short-short row i 2 h e (omega arith) in
        record {
          literal = omega arith;
          short = omega (arith, known.short, w.0);
          long = sym w.1 ∙ known.long;
          next = known.next;
          order = known.order;
          within = known.within;
          after = known.after;
        }

    -- after the record of the control byte
    pub known_next : length row ≤ 128
        → (i + taken_by (control_at i s) ≤ s.end) × Known row (i + taken_by (control_at i s)) s
    known_next narrow =
        ⊎_elim
        (λ l.
        let k : i + taken_by 255 ≡ i + 2 = omega (arith, taken-repeat 255 (omega arith)) in
        let p : Known row (i + 2) s = known-pair l in
        let w : i + 2 ≤ s.end = omega (arith, p.short) in
        rw (le-ltb i s.single l, k) (w, p))
        (λ l.
        let t = taken-literal (s.single - i - 1) (omega (arith, known.order, known.within)) in
        let k : i + taken_by (s.single - i - 1) ≡ s.single = omega (arith, t) in
        rw (lt-ltb i s.single l, k) (known.order, known-literal))
        (le-or-lt s.single i)

-- ---- the run after the short ones

pub long-bounds : {row : List ℕ} {s : Ahead} → LongRun row s → s.end + s.count ≤ length row
long-bounds {row} {s} l = (run-bounds row s.end s.count l.inside l.run).1

pub long-control : {row : List ℕ} {s : Ahead} → LongRun row s
    → 257 - s.count ≡ get_or (least (drop s.end row)) 0 0
long-control {row} {s} l =
    sym (control-repeat row s.end s.count l.inside l.run
    (literal-long row s.end s.count l.inside l.run l.long))

-- ---- a run of three or more at a place, or after one single byte there

module _ (row : List ℕ) (i : ℕ) (h : i + 3 < length row) where
  module _ (e : get_or row i 0 ≡ get_or row (i + 1) 0) (f : get_or row (i + 1) 0 ≡ get_or row (i + 2) 0) (n : ℕ)
      (is : n ≡ end_of (get_or row i 0) row (i + 3) - i) where
    pub near-run : LongRun row (record { single = i; end = i; count = n })
    near-run =
        let r = three-ends row i (i + 1) (i + 2) (i + 3) refl refl refl (omega arith) e f in
        record { long = omega arith; inside = omega arith; run = omega (arith, r) }

  pub near-single : (get_or row i 0 ≡ get_or row (i + 1) 0 → ⊥) → get_or row (i + 1) 0 ≡ get_or row (i + 2) 0
      → get_or row (i + 2) 0 ≡ get_or row (i + 3) 0 → 0 ≡ get_or (least (drop i row)) 0 0
  near-single d e f =
      let x = get_or row i 0 in
      let o = end-other x row (i + 1) (omega arith) (λ q. d (sym q)) in
      let one : 1 ≡ run_length (drop i row) = omega (arith, o, run_ends row i (omega arith)) in
      let r = three-ends row (i + 1) (i + 2) (i + 3) (i + 4) (omega arith) (omega arith) (omega arith) h e f in
      let l = literal-long row (i + 1) (run_length (drop (i + 1) row)) (omega arith) refl (omega (arith, r)) in
      let s = literal-single row i 1 (omega arith) one refl in
      sym (control-literal row i 0 (omega (arith, s, l)))

-- ---- the last byte, or the last two

last-literal : (row : List ℕ) (i : ℕ) → suc i ≡ length row → literal_at row i ≡ 1
last-literal row i e =
    let b = run-bounds row i (run_length (drop i row)) (omega arith) refl in
    let one : 1 ≡ run_length (drop i row) = omega (arith, b) in
    let s = literal-single row i 1 (omega arith) one refl in
    omega (arith, s, (nothing-at-end row (i + 1) (omega arith)).0)

module _ (row : List ℕ) (i : ℕ) (h : i < length row) (few : length row ≤ i + 2) where
  pub last-pair : i + 2 ≡ end_of (get_or row i 0) row (i + 1) → 255 ≡ get_or (least (drop i row)) 0 0
  last-pair e =
      let two : 2 ≡ run_length (drop i row) = omega (arith, run_ends row i h) in
      let b = run-bounds row i 2 h two in
      let p = literal-pair row i 2 h two refl in
      let z = p ∙ ap pair_more (nothing-at-end row (i + 2) (omega (arith, b))).0 in
      sym (control-repeat row i 2 h two z)

  pub last-other : (end_of (get_or row i 0) row (i + 1) ≡ i + 2 → ⊥)
      → length row - i - 1 ≡ get_or (least (drop i row)) 0 0
  last-other e =
      let b = run-bounds row i (run_length (drop i row)) h refl in
      let one : 1 ≡ run_length (drop i row) = omega (arith, run_ends row i h, b) in
      let s = literal-single row i 1 h one refl in
      let l : literal_at row i ≡ suc (length row - i - 1) =
      ⊎_elim
      (λ q. omega (arith, last-literal row i (omega arith)))
      (λ q. omega (arith, s, last-literal row (i + 1) (omega arith)))
      (le-or-lt (length row) (i + 1)) in
      sym (control-literal row i (length row - i - 1) l)
