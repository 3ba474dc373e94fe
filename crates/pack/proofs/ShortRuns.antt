-- Laws of the short runs from a place of a row on: the scan of them from the left.
use Prim.Native.Nat.{ℕ, zero, suc, ◌+◌, ◌≤◌, ◌<◌}
use native.Mathlib.Omega.{arith}
use native.Mathlib.Nat.{eq-or-lt_of_le}
use mathlib.Core.Path.{◌≡◌, refl, sym, ap, ◌∙◌, subst}
use mathlib.Core.Logic.{⊎_elim}
use mathlib.Core.List.{List, []}
use lib.ListN.{length, get_or, drop}
use lib.Seq.{drop-length}
use borrow.Author.Tests.{le-leb, lt-leb}
use Rattle.pack.specs.Least.{Body, Opening}
use Rattle.pack.specs.declared.Ahead.{Ahead}
use Rattle.pack.specs.Plan.{run, runs, taking, run_before, planned}
use Rattle.pack.specs.Runs.{run_length, end_of}
use Rattle.pack.specs.ShortRuns.{short_bytes, long_count, ahead_at, LongRun, FourSingles}
use Rattle.pack.proofs.Plan.{le-or-lt, before-joined, before-repeated, before-single, longest-two}
use Rattle.pack.proofs.Runs.{end-other, run_ends, run-bounds, runs_here, planned-here}

-- ---- what the run at a place makes of what follows it

abbrev pub literal_at : List ℕ → ℕ → ℕ
literal_at row i = (planned (runs (drop i row))).more

abbrev pub short_at : List ℕ → ℕ → ℕ
short_at row i = short_bytes (runs (drop i row))

abbrev pub long_at : List ℕ → ℕ → ℕ
long_at row i = long_count (runs (drop i row))

-- a pair joins the k bytes that a literal takes after it, where there are some
abbrev pub pair_more : ℕ → ℕ
pair_more zero = 0
pair_more (suc k) = suc (suc (suc k))

pub pair-more : (x k : ℕ) (b : Body) → (run_before (run x 2) (taking k b)).more ≡ pair_more k
pair-more x zero b = ap (λ (o : Opening). o.more) (before-repeated x 2 (taking 0 b) (omega arith))
pair-more x (suc k) b =
    ap (λ (o : Opening). o.more) (before-joined x 2 (taking (suc k) b) (omega arith)) ∙ omega arith

module _ (row : List ℕ) (at n : ℕ) (h : at < length row) (e : n ≡ run_length (drop at row)) where
  -- the literal that is under way before the run, by the one under way after it
  abbrev before : ℕ → Opening
  before k = run_before (run (get_or (drop at row) 0 0) k) (planned (runs (drop (at + n) row)))

  more-here : (k : ℕ) → n ≡ k → literal_at row at ≡ (before k).more
  more-here k q = ap (λ (o : Opening). o.more) (planned-here row at n h e ∙ ap before q)

  pub literal-single : n ≡ 1 → literal_at row at ≡ suc (literal_at row (at + n))
  literal-single q =
      more-here 1 q
      ∙ ap (λ (o : Opening). o.more) (before-single (get_or (drop at row) 0 0) (planned (runs (drop (at + n) row))))

  pub literal-pair : n ≡ 2 → literal_at row at ≡ pair_more (literal_at row (at + n))
  literal-pair q =
      more-here 2 q
      ∙ pair-more (get_or (drop at row) 0 0) (literal_at row (at + n)) (planned (runs (drop (at + n) row))).rest

  pub literal-long : 2 < n → literal_at row at ≡ 0
  literal-long q =
      let o = planned (runs (drop (at + n) row)) in
      let l = longest-two o.more in
      more-here n refl ∙ ap (λ (o : Opening). o.more) (before-repeated (get_or (drop at row) 0 0) n o (omega arith))

  pub short-short : n ≤ 2 → (short_at row at ≡ n + short_at row (at + n)) × (long_at row at ≡ long_at row (at + n))
  unfolding short_bytes long_count
  short-short q = rw (runs_here row at n h e, le-leb n 2 q) (refl, refl)

  pub short-long : 2 < n → (short_at row at ≡ 0) × (long_at row at ≡ n)
  unfolding short_bytes long_count
  short-long q = rw (runs_here row at n h e, lt-leb n 2 q) (refl, refl)

pub nothing-at-end : (row : List ℕ) (at : ℕ) → length row ≡ at
    → (literal_at row at ≡ 0) × (short_at row at ≡ 0) × (long_at row at ≡ 0)
unfolding planned runs short_bytes long_count
nothing-at-end row at e =
    let d : drop at row ≡ [] = ap (λ (k : ℕ). drop k row) (sym e) ∙ drop-length row in (
      ap (λ (s : List ℕ). (planned (runs s)).more) d,
      ap (λ (s : List ℕ). short_bytes (runs s)) d,
      ap (λ (s : List ℕ). long_count (runs s)) d,
    )

-- ---- the loop of `short_runs`

-- where the literal ends, if it takes k bytes from the place at on, and `single` is the end of the last single byte
-- before that place
abbrev reached : ℕ → ℕ → ℕ → ℕ
reached single at zero = single
reached single at (suc k) = at + suc k

-- the runs from i to at are short
pub record Scanning (row : List ℕ) (i single at : ℕ) : Type 0 where
  pub within : at ≤ length row
  pub literal : i + literal_at row i ≡ reached single at (literal_at row at)
  pub short : i + short_at row i ≡ at + short_at row at
  pub long : long_at row i ≡ long_at row at

reached-self : (i k : ℕ) → i + k ≡ reached i i k
reached-self i zero = omega arith
reached-self i (suc k) = refl

pub scanning-start : (row : List ℕ) (i : ℕ) → i ≤ length row → Scanning row i i i
scanning-start row i h = record { within = h; literal = reached-self i (literal_at row i); short = refl; long = refl }

reached-single : (single at n k : ℕ) → n ≡ 1 → reached single at (suc k) ≡ reached (at + n) (at + n) k
reached-single single at n zero e = omega arith
reached-single single at n (suc k) e = omega arith

reached-pair : (single at n k : ℕ) → n ≡ 2 → reached single at (pair_more k) ≡ reached single (at + n) k
reached-pair single at n zero e = refl
reached-pair single at n (suc k) e = omega arith

module _ (row : List ℕ) (i single at n : ℕ) (h : at < length row) (e : n ≡ run_length (drop at row))
    (s : Scanning row i single at) where
  pub scanning-single : n ≡ 1 → Scanning row i (at + n) (at + n)
  scanning-single q =
      let w = short-short row at n h e (omega arith) in
      record {
        within = (run-bounds row at n h e).1;
        literal =
            s.literal
            ∙ ap (reached single at) (literal-single row at n h e q)
            ∙ reached-single single at n (literal_at row (at + n)) q;
        short = omega (arith, s.short, w.0);
        long = s.long ∙ w.1;
      }

  pub scanning-pair : n ≤ 2 → (n ≡ 1 → ⊥) → Scanning row i single (at + n)
  scanning-pair l q =
      let two : n ≡ 2 = omega (arith, (run-bounds row at n h e).0) in
      let w = short-short row at n h e l in
      record {
        within = (run-bounds row at n h e).1;
        literal =
            s.literal
            ∙ ap (reached single at) (literal-pair row at n h e two)
            ∙ reached-pair single at n (literal_at row (at + n)) two;
        short = omega (arith, s.short, w.0);
        long = s.long ∙ w.1;
      }

  pub scanning-long : 2 < n → ◌≡◌ {A = Ahead} (record { single = single; end = at; count = n }) (ahead_at row i)
  scanning-long l =
      let a : i + literal_at row i ≡ single = s.literal ∙ ap (reached single at) (literal-long row at n h e l) in
      let b : i + short_at row i ≡ at = omega (arith, s.short, (short-long row at n h e l).0) in
      let d : long_at row i ≡ n = s.long ∙ (short-long row at n h e l).1 in
      rw (a, b, d) refl

pub scanning-end : (row : List ℕ) (i single at : ℕ) → length row ≤ at → Scanning row i single at
    → ◌≡◌ {A = Ahead} (record { single = single; end = at; count = 0 }) (ahead_at row i)
scanning-end row i single at h s =
    let z = nothing-at-end row at (omega (arith, s.within)) in
    let a : i + literal_at row i ≡ single = s.literal ∙ ap (reached single at) z.0 in
    let b : i + short_at row i ≡ at = omega (arith, s.short, z.1) in
    let d : long_at row i ≡ 0 = s.long ∙ z.2 in
    rw (a, b, d) refl

-- the same holds from the end of the last single byte on
pub record ScanningOn (row : List ℕ) (i single at : ℕ) : Type 0 where
  pub whole : Scanning row i single at
  pub next : Scanning row single single at
  pub order : single ≤ at

pub on-start : (row : List ℕ) (i : ℕ) → i ≤ length row → ScanningOn row i i i
on-start row i h = record { whole = scanning-start row i h; next = scanning-start row i h; order = omega arith }

-- the answer of `short_runs`
abbrev pub Answer : List ℕ → ℕ → Ahead → Type 0
Answer row i r =
    (r ≡ ahead_at row i)
    × (((r ≡ ahead_at row r.single) × (r.single ≤ r.end) × (r.end ≤ length row))
    × ((r.count ≡ 0 → ⊥) → LongRun row r))

module _ {row : List ℕ} {i single at n : ℕ} (h : at < length row) (e : n ≡ run_length (drop at row))
    (s : ScanningOn row i single at) where
  pub on-single : n ≡ 1 → ScanningOn row i (at + n) (at + n)
  on-single q =
      record {
        whole = scanning-single row i single at n h e s.whole q;
        next = scanning-start row (at + n) (run-bounds row at n h e).1;
        order = omega arith;
      }

  pub on-pair : n ≤ 2 → (n ≡ 1 → ⊥) → ScanningOn row i single (at + n)
  on-pair l q =
      record {
        whole = scanning-pair row i single at n h e s.whole l q;
        next = scanning-pair row single single at n h e s.next l q;
        order = omega (arith, s.order);
      }

  pub on-long : 2 < n → Answer row i (record { single = single; end = at; count = n })
  on-long l = (
    scanning-long row i single at n h e s.whole l,
    (
      (scanning-long row single single at n h e s.next l, s.order, s.whole.within),
      λ q. record { long = l; inside = h; run = e },
    ),
  )

-- a byte that differs from the next, at the place j
on-differing : {row : List ℕ} {i single : ℕ} (at j : ℕ) → j ≡ at + 1 → j < length row
    → (get_or row at 0 ≡ get_or row j 0 → ⊥) → ScanningOn row i single at → ScanningOn row i j j
on-differing {row} at j e h d s =
    let o = end-other (get_or row at 0) row j h (λ q. d (sym q)) in
    let r = run_ends row at (omega arith) in
    let one : 1 ≡ run_length (drop at row) = omega (arith, o, r, ap (end_of (get_or row at 0) row) e) in
    rw e (on-single (omega arith) one s refl)

pub on-four : {row : List ℕ} {i single at : ℕ} → FourSingles row at → ScanningOn row i single at
    → ScanningOn row i (at + 4) (at + 4)
on-four {row} {i} {single} {at} f s =
    let h = f.inside in
    on-differing (at + 3) (at + 4) (omega arith) h f.fourth
    (on-differing (at + 2) (at + 3) (omega arith) (omega arith) f.third
    (on-differing (at + 1) (at + 2) (omega arith) (omega arith) f.second
    (on-differing at (at + 1) refl (omega arith) f.first s)))

pub on-end : {row : List ℕ} {i single at : ℕ} → length row ≤ at → ScanningOn row i single at
    → Answer row i (record { single = single; end = at; count = 0 })
on-end {row} {i} {single} {at} h s = (
  scanning-end row i single at h s.whole,
  ((scanning-end row single single at h s.next, s.order, s.whole.within), λ q. absurd (q refl)),
)

-- ---- what the short runs from a place on are, in itself

-- an answer, which ends the row where no run follows
abbrev pub Ends : List ℕ → ℕ → Ahead → Type 0
Ends row i r = Answer row i r × (r.count ≡ 0 → r.end ≡ length row)

module _ (row : List ℕ) (i : ℕ) where
  ends : (r : Ahead) → Answer row i r → (r.count ≡ 0 → r.end ≡ length row) → Ends row i (ahead_at row i)
  ends r a e = subst (Ends row i) a.0 (a, e)

  ends-over : (single at : ℕ) → length row ≤ at → ScanningOn row i single at → Ends row i (ahead_at row i)
  ends-over single at h s =
      ends (record { single = single; end = at; count = 0 }) (on-end h s) (λ z. omega (arith, s.whole.within))

  -- k bytes are left at most
  ends-scanned : (k single at : ℕ) → length row ≤ at + k → ScanningOn row i single at → Ends row i (ahead_at row i)
  ends-scanned zero single at h s = ends-over single at (omega arith) s
  ends-scanned (suc k) single at h s =
      let n = run_length (drop at row) in
      ⊎_elim
      (λ l. ends-over single at l s)
      (λ l.
      let b = run-bounds row at n l refl in
      ⊎_elim
      (λ q.
      ⊎_elim
      (λ two. ends-scanned k single (at + n) (omega (arith, b)) (on-pair l refl s q (λ one. omega arith)))
      (λ one. ends-scanned k (at + n) (at + n) (omega (arith, b)) (on-single l refl s (omega (arith, b))))
      (eq-or-lt_of_le q))
      (λ q. ends (record { single = single; end = at; count = n }) (on-long l refl s q) (λ z. absurd (omega arith)))
      (le-or-lt n 2))
      (le-or-lt (length row) at)

  pub ahead-ends : i ≤ length row → Ends row i (ahead_at row i)
  ahead-ends h = ends-scanned (length row) i i (omega arith) (on-start row i h)
