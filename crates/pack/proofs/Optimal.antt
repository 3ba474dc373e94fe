-- `least row` is preferred to every body that unpacks to the row.
use Prim.Native.Nat.{ℕ, zero, suc, ◌-◌, ◌≤◌, ◌<◌, suc-le-suc}
use native.Mathlib.Omega.{arith}
use native.Mathlib.Nat.{eq-or-lt_of_le}
use mathlib.Core.Path.{◌≡◌, refl, sym, subst, subst₂}
use mathlib.Core.Logic.{inl, ⊎_elim}
use mathlib.Core.List.{List, [], ◌∷◌, ◌++◌}
use lib.ListN.{length, replicate, length-append}
use Rattle.packbits.specs.Unpacks.{Unpacks, full, literal, repeat, nothing}
use Rattle.pack.specs.IsLeast.{Preferred}
use Rattle.pack.specs.Least.{size, Run, Suffix, literal_body, repeat_body, prepend, scan, least}
use Rattle.pack.proofs.Order.{preferred-refl, preferred-length, preferred-trans, preferred-cons}
use Rattle.pack.proofs.Order.{preferred-append, preferred-control, preferred-longer}
use Rattle.pack.proofs.Least.{opening-cases, run-cases, best-cases, run-byte, no_run, more-bound, count-bound}
use Rattle.pack.proofs.Least.{beyond≤best}

-- ---- what a step makes is preferred to both kinds of first record

module _ (x : ℕ) (s : Suffix) where
  best-literal : Preferred (prepend x s).best.bytes (literal_body (prepend x s).opening).bytes
  best-literal =
      best-cases x s (λ b. Preferred b.bytes (literal_body (prepend x s).opening).bytes)
      (λ h. preferred-refl _)
      (λ h. inl (omega arith))

  -- where the literal's control byte is the smaller one
  best-repeat : (prepend x s).opening.more < 257 - (prepend x s).run.count
      → Preferred (prepend x s).best.bytes (repeat_body (prepend x s).run).bytes
  best-repeat l =
      best-cases x s (λ b. Preferred b.bytes (repeat_body (prepend x s).run).bytes)
      (λ h. preferred-control l h)
      (λ h. preferred-refl _)

-- ---- a first literal of any length does not come before the one that `scan` opens

literal-first : (x : ℕ) (xs r : List ℕ)
    → Preferred (literal_body (scan (x ∷ (xs ++ r))).opening).bytes (length xs ∷ x ∷ (xs ++ least r))
unfolding scan
literal-first x [] r =
    opening-cases x (scan r) (λ o. Preferred (literal_body o).bytes (0 ∷ x ∷ least r))
    (λ e. preferred-refl _)
    (λ e. inl (omega arith))
literal-first x (y ∷ ys) r =
    opening-cases x (scan (y ∷ (ys ++ r)))
    (λ o. Preferred (literal_body o).bytes (suc (length ys) ∷ x ∷ y ∷ (ys ++ least r)))
    (λ e. preferred-control (omega arith) (omega (arith, preferred-length (literal-first y ys r))))
    (λ e. preferred-longer x (literal-first y ys r))

least-literal : (x : ℕ) (xs r b : List ℕ) → Preferred (least r) b
    → Preferred (least (x ∷ (xs ++ r))) (length xs ∷ x ∷ (xs ++ b))
unfolding scan
least-literal x xs r b p =
    preferred-trans (best-literal x (scan (xs ++ r)))
    (preferred-trans (literal-first x xs r) (preferred-append (length xs ∷ x ∷ xs) p))

-- ---- a first repeat of any length does not come before that of the whole run

record Reaches (k : ℕ) (r : List ℕ) (run : Run) : Type 0 where
  longest : suc k ≤ run.count
  shortest : size run.beyond ≤ size (scan r).best
  exact : suc k ≡ run.count → run.beyond ≡ (scan r).best

run-reaches : (k x : ℕ) (r : List ℕ) → Reaches k r (scan (x ∷ (replicate k x ++ r))).run
unfolding scan
run-reaches zero x r =
    run-cases x (scan r) (Reaches 0 r)
    (λ e. record { longest = omega arith; shortest = beyond≤best r; exact = λ q. no_run r (omega arith) })
    (λ e. record { longest = omega arith; shortest = omega arith; exact = λ q. refl })
run-reaches (suc k) x r =
    let ih : Reaches k r (scan (x ∷ (replicate k x ++ r))).run = run-reaches k x r in
    run-cases x (scan (x ∷ (replicate k x ++ r))) (Reaches (suc k) r)
    (λ e. record { longest = suc-le-suc ih.longest; shortest = ih.shortest; exact = λ q. ih.exact (omega arith) })
    (λ e. absurd (e (sym (run-byte x (replicate k x ++ r)))))

repeat-first : (k x : ℕ) (r : List ℕ) (run : Run) → suc k ≤ 128 → run.byte ≡ x → Reaches k r run
    → Preferred (repeat_body run).bytes ((257 - suc k) ∷ x ∷ least r)
repeat-first k x r run h e q =
    ⊎_elim
    (λ p. subst (λ (b : List ℕ). Preferred (repeat_body run).bytes b) (same_bytes p) (preferred-refl _))
    (λ p. preferred-control (omega arith) (suc-le-suc q.shortest))
    (eq-or-lt_of_le q.longest)
  where
    same_bytes : suc k ≡ run.count → (repeat_body run).bytes ≡ (257 - suc k) ∷ x ∷ least r
    same_bytes p = cc (q.exact p, e, p)

least-repeat : (k x : ℕ) (r b : List ℕ) → length (replicate (suc k) x ++ r) ≤ 128 → suc k ≤ 128 → Preferred (least r) b
    → Preferred (least (replicate (suc k) x ++ r)) ((257 - suc k) ∷ x ∷ b)
unfolding scan
least-repeat k x r b h l p =
    let s : List ℕ = replicate k x ++ r in
    preferred-trans (best-repeat x (scan s) (omega (arith, more-bound x s, count-bound (x ∷ s))))
    (preferred-trans (repeat-first k x r _ l (run-byte x s) (run-reaches k x r))
    (preferred-cons (257 - suc k) (preferred-cons x p)))

-- ---- so no body comes before the least one

pub least_first : {b s : List ℕ} {n : ℕ} → length s ≤ 128 → Unpacks b s n → Preferred (least s) b
unfolding scan
least_first h full = preferred-refl []
least_first h (literal [] l long d) = absurd (omega arith)
least_first h (literal {x = c} (x ∷ xs) {body = b} {row = r} l long d) =
    let e : length xs ≡ c = omega arith in
    subst (λ (k : ℕ). Preferred (least (x ∷ (xs ++ r))) (k ∷ x ∷ (xs ++ b))) e
    (least-literal x xs r b (least_first (omega (arith, length-append xs r)) d))
least_first h (repeat {x = c} {byte = x} {body = b} {row = r} l u d) =
    let k : ℕ = 256 - c in
    let e : suc k ≡ 257 - c = omega arith in
    let f : 257 - suc k ≡ c = omega arith in
    let p = least_first (omega (arith, length-append (replicate (257 - c) x) r)) d in
    subst₂ (λ (n m : ℕ). Preferred (least (replicate n x ++ r)) (m ∷ x ∷ b)) e f
    (least-repeat k x r b (subst (λ (n : ℕ). length (replicate n x ++ r) ≤ 128) (sym e) h) (omega arith) p)
least_first h (nothing d) = inl (omega (arith, preferred-length (least_first h d)))
