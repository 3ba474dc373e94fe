-- Laws of `scan`: its step by cases, and the sizes of what it keeps of a suffix.
use Prim.Native.Nat.{ℕ, suc, ◌≤◌, ◌<◌}
use native.Mathlib.Omega.{arith}
use mathlib.Core.Path.{◌≡◌, refl}
use mathlib.Core.List.{List, [], ◌∷◌}
use lib.ListN.{length}
use Rattle.lists.proofs.Cond.{cond-leb, cond-eqb}
use Rattle.pack.specs.Least.{Body, size, with_byte, Opening, Run, Suffix, opening_of, run_of, literal_body}
use Rattle.pack.specs.Least.{repeat_body, prepend, scan}

-- ---- one step, for any suffix s

module _ (x : ℕ) (s : Suffix) where
  -- by cases on whether the literal ends after x
  pub opening-cases : (P : Opening → Type 0)
      → (size s.best ≤ size s.opening.rest → P (record { more = 0; rest = with_byte x s.best }))
      → (size s.opening.rest < size s.best
      → P (record { more = suc s.opening.more; rest = with_byte x s.opening.rest }))
      → P (prepend x s).opening
  unfolding prepend
  opening-cases P f g = cond-leb P (size s.best) (size s.opening.rest) f g

  -- by cases on whether x lengthens the run
  pub run-cases : (P : Run → Type 0)
      → (x ≡ s.run.byte → P (record { byte = x; count = suc s.run.count; beyond = s.run.beyond }))
      → ((x ≡ s.run.byte → ⊥) → P (record { byte = x; count = 1; beyond = s.best }))
      → P (prepend x s).run
  unfolding prepend
  run-cases P f g = cond-eqb P x s.run.byte f g

  -- by cases on whether the least body begins with a literal
  pub best-cases : (P : Body → Type 0)
      → (size (prepend x s).opening.rest ≤ suc (size (prepend x s).run.beyond)
      → P (literal_body (prepend x s).opening))
      → (suc (size (prepend x s).run.beyond) < size (prepend x s).opening.rest → P (repeat_body (prepend x s).run))
      → P (prepend x s).best
  unfolding prepend
  best-cases P f g = cond-leb P (size (opening_of x s).rest) (suc (size (run_of x s).beyond)) f g

  -- the least body costs at most what either kind of first record does
  pub best≤literal : size (prepend x s).best ≤ suc (size (prepend x s).opening.rest)
  best≤literal =
      best-cases (λ b. size b ≤ suc (size (prepend x s).opening.rest)) (λ h. omega arith) (λ h. omega arith)

  best≤repeat : size (prepend x s).best ≤ suc (suc (size (prepend x s).run.beyond))
  best≤repeat =
      best-cases (λ b. size b ≤ suc (suc (size (prepend x s).run.beyond))) (λ h. omega arith) (λ h. omega arith)

-- ---- the first run

pub run-byte : (x : ℕ) (s : List ℕ) → (scan (x ∷ s)).run.byte ≡ x
unfolding scan
run-byte x s = run-cases x (scan s) (λ r. r.byte ≡ x) (λ e. refl) (λ e. refl)

pub no_run : (s : List ℕ) → (scan s).run.count ≡ 0 → (scan s).run.beyond ≡ (scan s).best
unfolding scan
no_run [] e = refl
no_run (x ∷ s) e = absurd (run-cases x (scan s) (λ r. r.count ≡ 0 → ⊥) (λ q p. omega arith) (λ q p. omega arith) e)

-- ---- no first record stands for more than the suffix

pub more-bound : (x : ℕ) (s : List ℕ) → (scan (x ∷ s)).opening.more ≤ length s
unfolding scan
more-bound x [] = opening-cases x (scan []) (λ o. o.more ≤ 0) (λ e. omega arith) (λ e. omega arith)
more-bound x (y ∷ s) =
    opening-cases x (scan (y ∷ s)) (λ o. o.more ≤ suc (length s))
    (λ e. omega arith)
    (λ e. omega (arith, more-bound y s))

pub count-bound : (s : List ℕ) → (scan s).run.count ≤ length s
unfolding scan
count-bound [] = omega arith
count-bound (x ∷ s) =
    run-cases x (scan s) (λ r. r.count ≤ suc (length s)) (λ e. omega (arith, count-bound s)) (λ e. omega arith)

-- ---- a suffix never costs more than the suffix one byte longer

best≤open : (s : List ℕ) → size (scan s).best ≤ suc (size (scan s).opening.rest)
unfolding scan
best≤open [] = omega arith
best≤open (x ∷ s) = best≤literal x (scan s)

best≤run : (s : List ℕ) → size (scan s).best ≤ suc (suc (size (scan s).run.beyond))
unfolding scan
best≤run [] = omega arith
best≤run (x ∷ s) = best≤repeat x (scan s)

best-grows : (x : ℕ) (s : List ℕ) → size (scan s).best ≤ size (scan (x ∷ s)).best
unfolding scan
best-grows x s =
    best-cases x (scan s) (λ b. size (scan s).best ≤ size b)
    (λ h. opening-cases x (scan s) (λ o. size (scan s).best ≤ suc (size o.rest))
    (λ e. omega arith)
    (λ e. omega (arith, best≤open s)))
    (λ h. run-cases x (scan s) (λ r. size (scan s).best ≤ suc (suc (size r.beyond)))
    (λ e. best≤run s)
    (λ e. omega arith))

pub beyond≤best : (s : List ℕ) → size (scan s).run.beyond ≤ size (scan s).best
unfolding scan
beyond≤best [] = omega arith
beyond≤best (x ∷ s) =
    run-cases x (scan s) (λ r. size r.beyond ≤ size (scan (x ∷ s)).best)
    (λ e. omega (arith, beyond≤best s, best-grows x s))
    (λ e. best-grows x s)
