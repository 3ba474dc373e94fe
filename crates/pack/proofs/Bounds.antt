-- The least body's length: at most one more than the row's, and exactly that where no two neighbours are equal.
use Prim.Native.Nat.{ℕ, zero, suc, ◌+◌, ◌≤◌}
use native.Mathlib.Omega.{arith}
use native.Mathlib.Numerals.{add-one}
use mathlib.Core.Path.{◌≡◌, refl, sym, ap, ◌∙◌}
use mathlib.Core.List.{List, [], ◌∷◌}
use lib.ListN.{length}
use Rattle.lists.specs.Tabulate.{tabulate}
use Rattle.pack.specs.Least.{size, scan, least}
use Rattle.pack.proofs.Least.{opening-cases, run-cases, best-cases, best≤literal, run-byte}

-- ---- for any row

pub opening-bound : (x : ℕ) (t : List ℕ) → size (scan (x ∷ t)).opening.rest ≤ suc (length t)
unfolding scan
opening-bound x [] = opening-cases x (scan []) (λ o. size o.rest ≤ 1) (λ e. omega arith) (λ e. omega arith)
opening-bound x (y ∷ t) =
    opening-cases x (scan (y ∷ t)) (λ o. size o.rest ≤ suc (suc (length t)))
    (λ e. omega (arith, opening-bound y t))
    (λ e. omega (arith, opening-bound y t))

pub least-bound : (row : List ℕ) → length (least row) ≤ length row + 1
unfolding scan
least-bound [] = omega arith
least-bound (x ∷ t) = omega (arith, opening-bound x t, best≤literal x (scan t))

-- ---- for a row in which no two neighbours are equal: one literal is best

abbrev pub Separate : List ℕ → Type 0
Separate [] = Unit {0}
Separate (x ∷ []) = Unit {0}
Separate (x ∷ y ∷ t) = (x ≡ y → ⊥) × Separate (y ∷ t)

pub separate-tabulate : (n : ℕ) (f : ℕ → ℕ) → ((k : ℕ) → f k ≡ f (suc k) → ⊥) → Separate (tabulate n f)
unfolding tabulate
separate-tabulate zero f h = tt
separate-tabulate (suc zero) f h = tt
separate-tabulate (suc (suc n)) f h = (h 0, separate-tabulate (suc n) (λ k. f (suc k)) (λ k. h (suc k)))

separate-sizes : (x : ℕ) (t : List ℕ) → Separate (x ∷ t)
    → (size (scan (x ∷ t)).opening.rest ≡ suc (length t)) × (size (scan (x ∷ t)).best ≡ suc (suc (length t)))
unfolding scan
separate-sizes x [] d =
    let o : size (scan (x ∷ [])).opening.rest ≡ 1 =
    opening-cases x (scan []) (λ o. size o.rest ≡ 1) (λ e. refl) (λ e. absurd (omega arith)) in
    (o, best-cases x (scan []) (λ b. size b ≡ 2) (λ h. ap suc o) (λ h. absurd (omega arith)))
separate-sizes x (y ∷ t) d =
    let ih = separate-sizes y t d.1 in
    let o : size (scan (x ∷ y ∷ t)).opening.rest ≡ suc (suc (length t)) =
    opening-cases x (scan (y ∷ t)) (λ o. size o.rest ≡ suc (suc (length t)))
    (λ e. absurd (omega arith))
    (λ e. ap suc ih.0) in
    let r : size (scan (x ∷ y ∷ t)).run.beyond ≡ suc (suc (length t)) =
    run-cases x (scan (y ∷ t)) (λ r. size r.beyond ≡ suc (suc (length t)))
    (λ e. absurd (d.0 (e ∙ run-byte y t)))
    (λ e. ih.1) in
    let all = suc (suc (suc (length t))) in
    (o, best-cases x (scan (y ∷ t)) (λ b. size b ≡ all) (λ h. ap suc o) (λ h. absurd (omega arith)))

pub separate-length : (row : List ℕ) → 1 ≤ length row → Separate row → length (least row) ≡ length row + 1
separate-length [] h d = absurd (omega arith)
separate-length (x ∷ t) h d = (separate-sizes x t d).1 ∙ sym (add-one (suc (length t)))
