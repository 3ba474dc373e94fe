-- The plan of a row is its least body.
use Prim.Native.Nat.{ℕ, zero, suc, ◌+◌, ◌≤◌, ◌<◌}
use native.Mathlib.Omega.{arith}
use mathlib.Core.Path.{◌≡◌, refl, sym, ap, ◌∙◌}
use mathlib.Core.Logic.{◌⊎◌, inl, inr, ⊎_elim}
use mathlib.Core.Bool.{Bool, true, false, cond}
use mathlib.Core.List.{List, [], ◌∷◌, ◌++◌}
use borrow.Author.Tests.{leb-true, leb-false, le-leb, lt-leb}
use lib.ListN.{length, replicate, length-append, length-replicate}
use lib.Dec.{leb}
use Rattle.lists.proofs.Cond.{cond-leb, cond-eqb}
use Rattle.pack.proofs.Least.{best-cases, run-cases}
use Rattle.pack.specs.Least.{Body, size, with_byte, Opening, Run, Suffix, literal_body, repeat_body, prepend, scan}
use Rattle.pack.specs.Least.{least}
use Rattle.pack.specs.Plan.{EqualRun, run, byte_before, runs, taking, longest, closed, run_before, planned, plan}

-- what a literal under way before a suffix takes of it: it ends there, or goes on where that is shorter
inside : Suffix → Opening
inside s =
    cond (leb (size s.best) (size s.opening.rest))
    (taking 0 s.best)
    (taking (suc s.opening.more) s.opening.rest)

abbrev pub closing : Opening → Body
closing o = closed o.more o.rest

-- one byte more in a literal
abbrev pub with-more : ℕ → Opening → Opening
with-more x o = taking (suc o.more) (with_byte x o.rest)

-- so begins the literal of one byte more
abbrev begun : ℕ → Opening → Opening
begun x o = taking o.more (with_byte x o.rest)

opening-inside : (x : ℕ) (s : Suffix) → (prepend x s).opening ≡ begun x (inside s)
unfolding prepend inside
opening-inside x s = go (leb (size s.best) (size s.opening.rest))
  where
    go : (t : Bool)
        → cond t (taking 0 (with_byte x s.best)) (taking (suc s.opening.more) (with_byte x s.opening.rest))
        ≡ begun x (cond t (taking 0 s.best) (taking (suc s.opening.more) s.opening.rest))
    go true = refl
    go false = refl

inside-cases : (s : Suffix) (P : Opening → Type 0)
    → (size s.best ≤ size s.opening.rest → P (taking 0 s.best))
    → (size s.opening.rest < size s.best → P (taking (suc s.opening.more) s.opening.rest))
    → P (inside s)
unfolding inside
inside-cases s P f g = cond-leb P (size s.best) (size s.opening.rest) f g

-- ---- one byte more, by whether going on with the literal is longer than what follows the byte's run

module _ (x : ℕ) (s : Suffix) where
  opening-size : size (prepend x s).opening.rest ≡ suc (size (inside s).rest)
  opening-size = ap (λ (o : Opening). size o.rest) (opening-inside x s)

  best-joined : size (inside s).rest ≤ size (prepend x s).run.beyond
      → (prepend x s).best ≡ closing (with-more x (inside s))
  best-joined h =
      best-cases x s (λ b. b ≡ closing (with-more x (inside s)))
      (λ l. ap literal_body (opening-inside x s))
      (λ l. absurd (omega (arith, opening-size)))

  best-repeated : size (prepend x s).run.beyond < size (inside s).rest
      → (prepend x s).best ≡ repeat_body (prepend x s).run
  best-repeated h =
      best-cases x s (λ b. b ≡ repeat_body (prepend x s).run)
      (λ l. absurd (omega (arith, opening-size)))
      (λ l. refl)

  inside-joined : size (inside s).rest ≤ size (prepend x s).run.beyond
      → inside (prepend x s) ≡ with-more x (inside s)
  inside-joined h =
      inside-cases (prepend x s) (λ o. o ≡ with-more x (inside s))
      (λ l. absurd (omega (arith, opening-size, ap size (best-joined h))))
      (λ l. ap (λ (o : Opening). taking (suc o.more) o.rest) (opening-inside x s))

  inside-repeated : size (prepend x s).run.beyond < size (inside s).rest
      → inside (prepend x s) ≡ taking 0 (repeat_body (prepend x s).run)
  inside-repeated h =
      inside-cases (prepend x s) (λ o. o ≡ taking 0 (repeat_body (prepend x s).run))
      (λ l. ap (λ (b : Body). taking 0 b) (best-repeated h))
      (λ l. absurd (omega (arith, opening-size, ap size (best-repeated h))))

-- ---- a run in front

pub le-or-lt : (m n : ℕ) → (m ≤ n) ⊎ (n < m)
le-or-lt m n = go (leb m n) refl
  where
    go : (t : Bool) → leb m n ≡ t → (m ≤ n) ⊎ (n < m)
    go true e = inl (leb-true m n e)
    go false e = inr (leb-false m n e)

longest-some : (k : ℕ) → 1 ≤ longest k
longest-some zero = omega arith
longest-some (suc k) = omega arith

pub longest-two : (k : ℕ) → longest k ≤ 2
longest-two zero = omega arith
longest-two (suc k) = omega arith

pub closed-size : (k : ℕ) (b : Body) → size (closed k b) + 1 ≡ size b + longest k
closed-size zero b = refl
closed-size (suc k) b = omega arith

-- the run as part of a literal, and as a repeat
abbrev pub joined : ℕ → ℕ → Opening → Opening
joined x c o =
    taking (c + o.more) (record { bytes = replicate c x ++ o.rest.bytes; records = o.rest.records })

abbrev pub repeated : ℕ → ℕ → Opening → Run
repeated x c o = record { byte = x; count = c; beyond = closing o }

module _ (x c : ℕ) (o : Opening) where
  pub before-joined : c ≤ longest o.more → run_before (run x c) o ≡ joined x c o
  unfolding run_before
  before-joined h = rw (le-leb c (longest o.more) h) refl

  pub before-repeated : longest o.more < c → run_before (run x c) o ≡ taking 0 (repeat_body (repeated x c o))
  unfolding run_before
  before-repeated h = rw (lt-leb c (longest o.more) h) refl

  joined-longer : with-more x (joined x c o) ≡ joined x (suc c) o
  joined-longer =
      let n : suc (c + o.more) ≡ suc c + o.more = omega arith in
      ap (λ (k : ℕ). taking k (joined x (suc c) o).rest) n

  pub joined-size : size (joined x c o).rest ≡ c + size o.rest
  joined-size = omega (arith, length-append (replicate c x) o.rest.bytes, length-replicate c x)

  before-size : size (run_before (run x c) o).rest < size (closing o) + 1 → c + size o.rest < size (closing o) + 1
  before-size l =
      ⊎_elim
      (λ h. omega (arith, joined-size, ap (λ (p : Opening). size p.rest) (before-joined h)))
      (λ h. absurd (omega (arith, ap (λ (p : Opening). size p.rest) (before-repeated h))))
      (le-or-lt c (longest o.more))

-- the same run, one byte longer
run_step : (x c : ℕ) (o : Opening) (s : Suffix) → inside s ≡ run_before (run x c) o
    → (prepend x s).run ≡ repeated x (suc c) o
    → (inside (prepend x s) ≡ run_before (run x (suc c)) o) × ((prepend x s).best ≡ closing (run_before (run x (suc c)) o))
run_step x c o s e r =
    let a : size (prepend x s).run.beyond ≡ size (closing o) = ap (λ (t : Run). size t.beyond) r in
    let z : size (closing o) + 1 ≡ size o.rest + longest o.more = closed-size o.more o.rest in
    ⊎_elim
    (λ h.
    let i : inside s ≡ joined x c o = e ∙ before-joined x c o (omega arith) in
    let j : size (inside s).rest ≤ size (prepend x s).run.beyond =
    omega (arith, ap (λ (p : Opening). size p.rest) i, joined-size x c o) in
    let k : with-more x (inside s) ≡ run_before (run x (suc c)) o =
    ap (with-more x) i ∙ joined-longer x c o ∙ sym (before-joined x (suc c) o h) in
    (inside-joined x s j ∙ k, best-joined x s j ∙ ap closing k))
    (λ h.
    let j : size (prepend x s).run.beyond < size (inside s).rest =
    ⊎_elim
    (λ l. absurd (omega (arith, before-size x c o (omega (arith, ap (λ (p : Opening). size p.rest) e)))))
    (λ l. l)
    (le-or-lt (size (inside s).rest) (size (prepend x s).run.beyond)) in
    let k : taking 0 (repeat_body (prepend x s).run) ≡ run_before (run x (suc c)) o =
    ap (λ (t : Run). taking 0 (repeat_body t)) r ∙ sym (before-repeated x (suc c) o h) in
    (inside-repeated x s j ∙ k, best-repeated x s j ∙ ap closing k))
    (le-or-lt (suc c) (longest o.more))

-- no run
pub before-none : (x : ℕ) (o : Opening) → run_before (run x 0) o ≡ o
before-none x o =
    let n : 0 + o.more ≡ o.more = omega arith in
    before-joined x 0 o (omega arith) ∙ ap (λ (k : ℕ). taking k o.rest) n

-- a single byte
pub before-single : (x : ℕ) (o : Opening) → run_before (run x 1) o ≡ with-more x o
before-single x o =
    before-joined x 1 o (longest-some o.more)
    ∙ sym (joined-longer x 0 o)
    ∙ ap (with-more x) (sym (before-joined x 0 o (omega arith)) ∙ before-none x o)

-- ---- the runs of a suffix and its scan

-- the first run, and what the runs after it become
abbrev RunAgrees : List EqualRun → Run → Type 0
RunAgrees [] r = r ≡ repeated 0 0 (planned [])
RunAgrees (q ∷ rs) r = r ≡ repeated q.byte q.count (planned rs)

record Agrees (rs : List EqualRun) (s : Suffix) : Type 0 where
  taken : inside s ≡ planned rs
  whole : s.best ≡ closing (planned rs)
  first : RunAgrees rs s.run

agrees_start : Agrees [] (scan [])
unfolding scan planned inside
agrees_start = record { taken = refl; whole = refl; first = refl }

-- a run that the byte starts
agrees-new : (x : ℕ) (rs : List EqualRun) (s : Suffix) → Agrees rs s → (prepend x s).run ≡ repeated x 1 (planned rs)
    → Agrees (run x 1 ∷ rs) (prepend x s)
unfolding planned
agrees-new x rs s a r =
    let e = run_step x 0 (planned rs) s (a.taken ∙ sym (before-none x (planned rs))) r in
    record { taken = e.0; whole = e.1; first = r }

agrees-before : (x : ℕ) (rs : List EqualRun) (s : Suffix) → Agrees rs s → Agrees (byte_before x rs) (prepend x s)
unfolding planned
agrees-before x [] s a =
    agrees-new x [] s a
    (run-cases x s (λ r. r ≡ repeated x 1 (planned []))
    (λ e. ap (λ (t : Run). record { byte = x; count = suc t.count; beyond = t.beyond }) a.first)
    (λ e. ap (λ (b : Body). record { byte = x; count = 1; beyond = b }) a.whole))
agrees-before x (q ∷ rs) s a =
    cond-eqb (λ (l : List EqualRun). Agrees l (prepend x s)) x q.byte
    (λ e.
    let r : (prepend x s).run ≡ repeated x (suc q.count) (planned rs) =
    run-cases x s (λ r. r ≡ repeated x (suc q.count) (planned rs))
    (λ h. ap (λ (t : Run). record { byte = x; count = suc t.count; beyond = t.beyond }) a.first)
    (λ h. absurd (h (e ∙ sym (ap (λ (t : Run). t.byte) a.first)))) in
    let t = a.taken ∙ ap (λ (y : ℕ). run_before (run y q.count) (planned rs)) (sym e) in
    let f = run_step x q.count (planned rs) s t r in
    record { taken = f.0; whole = f.1; first = r })
    (λ e.
    agrees-new x (q ∷ rs) s a
    (run-cases x s (λ r. r ≡ repeated x 1 (planned (q ∷ rs)))
    (λ h. absurd (e (h ∙ ap (λ (t : Run). t.byte) a.first)))
    (λ h. ap (λ (b : Body). record { byte = x; count = 1; beyond = b }) a.whole)))

agrees : (row : List ℕ) → Agrees (runs row) (scan row)
unfolding scan runs
agrees [] = agrees_start
agrees (x ∷ row) = agrees-before x (runs row) (scan row) (agrees row)

-- ---- the plan is the least body, of a row of any width

pub plan-is-least : (row : List ℕ) → (scan row).best ≡ plan row
plan-is-least row = (agrees row).whole

pub plan-bytes : (row : List ℕ) → (plan row).bytes ≡ least row
plan-bytes row = sym (ap (λ (b : Body). b.bytes) (plan-is-least row))

pub plan-length : (row : List ℕ) → size (plan row) ≡ length (least row)
plan-length row = ap length (plan-bytes row)
