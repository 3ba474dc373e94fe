-- Laws of `sum`.
use mathlib.Core.Path.{◌≡◌, refl, sym, ap, ◌∙◌}
use Prim.Native.Nat.{ℕ, zero, suc, ◌+◌, ◌*◌, ◌≤◌, ◌<◌}
use native.Mathlib.Nat.{add-zero, add-suc, zero-mul, suc-mul, mul-add, mul-zero, le_refl}
use native.Mathlib.Omega.{arith}
use Rattle.lists.specs.Sum.{sum}

pub sum-ext : (n : ℕ) (f g : ℕ → ℕ) → ((k : ℕ) → k < n → f k ≡ g k) → sum n f ≡ sum n g
unfolding sum
sum-ext zero f g e = refl
sum-ext (suc n) f g e = omega (arith, sum-ext n f g (λ k h. e k (omega arith)), e n (le_refl (suc n)))

pub sum-le : (n b : ℕ) (f : ℕ → ℕ) → ((k : ℕ) → f k ≤ b) → sum n f ≤ n * b
unfolding sum
sum-le zero b f h = omega arith
sum-le (suc n) b f h = omega (arith, suc-mul n b, sum-le n b f h, h n)

-- the first n, and the m after them
pub sum-split : (n m : ℕ) (f : ℕ → ℕ) → sum (n + m) f ≡ sum n f + sum m (λ k. f (n + k))
unfolding sum
sum-split n zero f = ap (λ (i : ℕ). sum i f) (add-zero n) ∙ sym (add-zero (sum n f))
sum-split n (suc m) f = ap (λ (i : ℕ). sum i f) (add-suc n m) ∙ omega (arith, sum-split n m f)

-- n rows of m
pub sum_rows : (n m : ℕ) (f : ℕ → ℕ) → sum (n * m) f ≡ sum n (λ i. sum m (λ k. f (i * m + k)))
unfolding sum
sum_rows zero m f = ap (λ (i : ℕ). sum i f) (zero-mul m)
sum_rows (suc n) m f =
    ap (λ (i : ℕ). sum i f) (suc-mul n m)
    ∙ sum-split (n * m) m f
    ∙ ap (λ (i : ℕ). i + sum m (λ k. f (n * m + k))) (sum_rows n m f)

pub sum-const : (n b : ℕ) → sum n (λ k. b) ≡ n * b
unfolding sum
sum-const zero b = omega arith
sum-const (suc n) b = omega (arith, suc-mul n b, sum-const n b)

pub sum-add : (n : ℕ) (f g : ℕ → ℕ) → sum n (λ k. f k + g k) ≡ sum n f + sum n g
unfolding sum
sum-add zero f g = refl
sum-add (suc n) f g = omega (arith, sum-add n f g)

pub sum-mul : (n c : ℕ) (f : ℕ → ℕ) → sum n (λ k. c * f k) ≡ c * sum n f
unfolding sum
sum-mul zero c f = omega (arith, mul-zero c)
sum-mul (suc n) c f = omega (arith, sum-mul n c f, mul-add c (sum n f) (f n))

-- two sums in either order
pub sum-swap : (n m : ℕ) (f : ℕ → ℕ → ℕ) → sum n (λ i. sum m (λ j. f i j)) ≡ sum m (λ j. sum n (λ i. f i j))
unfolding sum
sum-swap zero m f = omega (arith, sum-const m 0)
sum-swap (suc n) m f =
    ap (λ (k : ℕ). k + sum m (λ j. f n j)) (sum-swap n m f)
    ∙ omega (arith, sum-add m (λ j. sum n (λ i. f i j)) (λ j. f n j))
