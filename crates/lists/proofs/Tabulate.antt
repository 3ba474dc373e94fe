-- Laws of `tabulate`.
use mathlib.Core.Path.{◌≡◌, refl, ap, ◌∙◌}
use mathlib.Core.List.{List, [], ◌∷◌, map}
use Prim.Native.Nat.{ℕ, zero, suc, ◌≤◌, ◌<◌, suc-le-suc, zero-le}
use native.Mathlib.Nat.{not-suc-le-zero, le_of_suc-le-suc, le_refl, zero-lt-suc}
use lib.ListN.{length, get_or, take}
use lib.Seq.{take-length}
use Rattle.lists.specs.Tabulate.{tabulate}

module _ {A : Type 0} where
  pub length-tabulate : (n : ℕ) (f : ℕ → A) → length (tabulate n f) ≡ n
  unfolding tabulate
  length-tabulate zero f = refl
  length-tabulate (suc n) f = ap suc (length-tabulate n (λ k. f (suc k)))

  pub get_or-tabulate : (n : ℕ) (f : ℕ → A) (k : ℕ) (d : A) → k < n → get_or (tabulate n f) k d ≡ f k
  unfolding tabulate
  get_or-tabulate zero f k d h = absurd (not-suc-le-zero h)
  get_or-tabulate (suc n) f zero d h = refl
  get_or-tabulate (suc n) f (suc k) d h = get_or-tabulate n (λ k. f (suc k)) k d (le_of_suc-le-suc h)

  -- rules that agree below n make the same list
  pub tabulate-ext : (n : ℕ) (f g : ℕ → A) → ((k : ℕ) → k < n → f k ≡ g k) → tabulate n f ≡ tabulate n g
  unfolding tabulate
  tabulate-ext zero f g e = refl
  tabulate-ext (suc n) f g e =
      ap (λ (x : A). x ∷ tabulate n (λ k. f (suc k))) (e 0 (zero-lt-suc n))
      ∙ ap (λ (l : List A). g 0 ∷ l)
      (tabulate-ext n (λ k. f (suc k)) (λ k. g (suc k)) (λ k h. e (suc k) (suc-le-suc h)))

  -- the front of a list is made of its first elements
  pub tabulate-take : (n : ℕ) (l : List A) (d : A) → n ≤ length l → tabulate n (λ k. get_or l k d) ≡ take n l
  unfolding tabulate
  tabulate-take zero l d h = refl
  tabulate-take (suc n) [] d h = absurd (not-suc-le-zero h)
  tabulate-take (suc n) (x ∷ xs) d h = ap (λ (t : List A). x ∷ t) (tabulate-take n xs d (le_of_suc-le-suc h))

  -- and the list of all
  pub tabulate-get_or : (l : List A) (d : A) → tabulate (length l) (λ k. get_or l k d) ≡ l
  tabulate-get_or l d = tabulate-take (length l) l d (le_refl (length l)) ∙ take-length l

  -- what holds of every value of the rule, and of d, holds of every element
  pub tabulate-all : (P : A → Type 0) (n : ℕ) (f : ℕ → A) (d : A) → P d → ((k : ℕ) → P (f k)) → (k : ℕ)
      → P (get_or (tabulate n f) k d)
  unfolding tabulate
  tabulate-all P zero f d e h k = e
  tabulate-all P (suc n) f d e h zero = h 0
  tabulate-all P (suc n) f d e h (suc k) = tabulate-all P n (λ k. f (suc k)) d e (λ k. h (suc k)) k

-- a bound on the rule is one on every element
pub tabulate-le : (n : ℕ) (f : ℕ → ℕ) (b : ℕ) → ((k : ℕ) → f k ≤ b) → (k : ℕ) → get_or (tabulate n f) k 0 ≤ b
tabulate-le n f b h = tabulate-all (λ x. x ≤ b) n f 0 zero-le h

pub map-tabulate : {A B : Type 0} (f : A → B) (n : ℕ) (g : ℕ → A) → map f (tabulate n g) ≡ tabulate n (λ k. f (g k))
unfolding tabulate
map-tabulate f zero g = refl
map-tabulate {B = B} f (suc n) g = ap (λ (l : List B). f (g 0) ∷ l) (map-tabulate f n (λ k. g (suc k)))
