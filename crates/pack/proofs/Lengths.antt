-- Counting a row's runs from the left gives the length of its least body.
use Prim.Native.Nat.{ℕ, zero, suc, ◌+◌, ◌*◌, ◌≤◌, ◌<◌}
use native.Mathlib.Omega.{arith}
use mathlib.Core.Path.{◌≡◌, refl, sym, ap, ◌∙◌}
use mathlib.Core.Bool.{Bool, true, false, cond}
use mathlib.Core.List.{List, []}
use lib.ListN.{length, get_or, drop}
use lib.Seq.{drop-length}
use Rattle.lists.proofs.Cond.{cond-eqb}
use Rattle.pack.specs.Least.{Body, size, with_byte, Opening, repeat_body, least}
use Rattle.pack.specs.declared.Count.{Count}
use Rattle.pack.specs.Plan.{run, runs, taking, run_before, planned}
use Rattle.pack.specs.Lengths.{count_run, bytes_left}
use Rattle.pack.specs.Runs.{run_length}
use Rattle.pack.proofs.Plan.{closing, with-more, repeated, before-joined, before-repeated, before-single}
use Rattle.pack.proofs.Plan.{longest-two, plan-length}
use Rattle.pack.proofs.Runs.{run-bounds, planned-here}

-- ---- one run

left-single : (t : Bool) (x : ℕ) (o : Opening) → bytes_left t (with-more x o) ≡ cond t 1 2 + size o.rest
left-single true x o = omega arith
left-single false x o = omega arith

left-pair : (t : Bool) (x k : ℕ) (b : Body)
    → bytes_left t (run_before (run x 2) (taking k b)) ≡ 2 + bytes_left t (taking k b)
left-pair t x zero b = rw (before-repeated x 2 (taking 0 b) (omega arith)) (go t)
  where
    go : (t : Bool) → bytes_left t (taking 0 (repeat_body (repeated x 2 (taking 0 b)))) ≡ 2 + bytes_left t (taking 0 b)
    go true = omega arith
    go false = omega arith
left-pair t x (suc k) b =
    let n : 2 + suc k ≡ suc (suc (suc k)) = omega arith in
    rw (before-joined x 2 (taking (suc k) b) (omega arith), n) (go t)
  where
    go : (t : Bool)
        → bytes_left t (taking (suc (suc (suc k))) (with_byte x (with_byte x b))) ≡ 2 + bytes_left t (taking (suc k) b)
    go true = omega arith
    go false = omega arith

left-long : (t : Bool) (x n : ℕ) (o : Opening) → 2 < n → bytes_left t (run_before (run x n) o) ≡ 2 + size (closing o)
left-long t x n o h = rw (before-repeated x n o (omega (arith, longest-two o.more))) (go t)
  where
    go : (t : Bool) → bytes_left t (taking 0 (repeat_body (repeated x n o))) ≡ 2 + size (closing o)
    go true = omega arith
    go false = omega arith

count_left : (n x : ℕ) (c : Count) (o : Opening) → 1 ≤ n
    → (count_run n c).len + bytes_left (count_run n c).literal o ≡ c.len + bytes_left c.literal (run_before (run x n) o)
count_left n x c o h =
    let all = c.len + bytes_left c.literal (run_before (run x n) o) in
    cond-eqb (λ (r : Count). r.len + bytes_left r.literal o ≡ all) n 1
    (λ e. rw (e, before-single x o) (omega (arith, left-single c.literal x o)))
    (λ e.
    cond-eqb (λ (t : Bool). c.len + 2 + bytes_left t o ≡ all) n 2
    (λ q. rw q (omega (arith, left-pair c.literal x o.more o.rest)))
    (λ q. omega (arith, left-long c.literal x n o (omega arith))))

-- ---- the loop of `body_len`

-- the runs before the place at are counted
pub record Counted (row : List ℕ) (at : ℕ) (c : Count) : Type 0 where
  pub within : at ≤ length row
  pub few : c.len ≤ 2 * at
  pub left : c.len + bytes_left c.literal (planned (runs (drop at row))) ≡ length (least row)

pub counted_start : (row : List ℕ) → Counted row 0 (record { len = 0; literal = false })
counted_start row = record { within = omega arith; few = omega arith; left = omega (arith, plan-length row) }

few-more : (n at : ℕ) (c : Count) → 1 ≤ n → c.len ≤ 2 * at → (count_run n c).len ≤ 2 * (at + n)
few-more n at c h l =
    cond-eqb (λ (r : Count). r.len ≤ 2 * (at + n)) n 1
    (λ e. omega (arith, two c.literal))
    (λ e. omega arith)
  where
    two : (t : Bool) → cond t 1 2 ≤ 2
    two true = omega arith
    two false = omega arith

pub counted-more : (row : List ℕ) (at n : ℕ) (c : Count) → at < length row → n ≡ run_length (drop at row)
    → Counted row at c → Counted row (at + n) (count_run n c)
counted-more row at n c h e q =
    let b = run-bounds row at n h e in
    let p = ap (λ (o : Opening). c.len + bytes_left c.literal o) (sym (planned-here row at n h e)) in
    record {
      within = b.1;
      few = few-more n at c b.0 q.few;
      left = count_left n (get_or (drop at row) 0 0) c (planned (runs (drop (at + n) row))) b.0 ∙ p ∙ q.left;
    }

none_left : (t : Bool) → bytes_left t (planned (runs [])) ≡ 0
unfolding planned runs
none_left true = refl
none_left false = refl

pub counted-end : {row : List ℕ} {at : ℕ} {c : Count} → length row ≤ at → Counted row at c → c.len ≡ length (least row)
counted-end {row} {at} {c} h q =
    let e : at ≡ length row = omega (arith, q.within) in
    let d : drop at row ≡ [] = ap (λ (k : ℕ). drop k row) e ∙ drop-length row in
    omega (arith, q.left, ap (λ (s : List ℕ). bytes_left c.literal (planned (runs s))) d, none_left c.literal)
