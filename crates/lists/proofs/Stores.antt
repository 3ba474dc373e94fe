-- Laws of `stores`.
use mathlib.Core.Path.{◌≡◌, refl, sym, ap, ◌∙◌}
use mathlib.Core.List.{List}
use mathlib.Core.Logic.{◌⊎◌, inl, inr}
use Prim.Native.Nat.{ℕ, zero, suc, ◌+◌, ◌<◌}
use native.Mathlib.Nat.{not-suc-le-zero, le_of_suc-le-suc, le_refl, eq-or-lt_of_le}
use native.Mathlib.Numerals.{add-one}
use native.Mathlib.Omega.{arith}
use lib.ListN.{length, get_or, set, length-set}
use lib.Seq.{get_or-set_same, get_or-set_other}
use Rattle.lists.specs.Stores.{stores}

-- a turn of the loop that stores
pub stores-turn : (n : ℕ) (at v : ℕ → ℕ) (d out : List ℕ) (i x : ℕ) → out ≡ stores n at v d → i ≡ at n → x ≡ v n
    → set out i x ≡ stores (n + 1) at v d
unfolding stores
stores-turn n at v d out i x is e f = rw (is, e, f, add-one)

pub length-stores : (n : ℕ) (at v : ℕ → ℕ) (d : List ℕ) → length (stores n at v d) ≡ length d
unfolding stores
length-stores zero at v d = refl
length-stores (suc n) at v d = length-set (stores n at v d) (at n) (v n) ∙ length-stores n at v d

-- a place that no store reaches
pub get_or-stores-other : (n : ℕ) (at v : ℕ → ℕ) (d : List ℕ) (o : ℕ) → ((k : ℕ) → k < n → o ≡ at k → ⊥)
    → get_or (stores n at v d) o 0 ≡ get_or d o 0
unfolding stores
get_or-stores-other zero at v d o h = refl
get_or-stores-other (suc n) at v d o h =
    get_or-set_other (stores n at v d) (at n) o (v n) 0 (h n (le_refl (suc n)))
    ∙ get_or-stores-other n at v d o (λ k l. h k (omega arith))

-- a place that a store reaches, where `back` tells the places apart
pub get_or-stores-at : (n : ℕ) (at v back : ℕ → ℕ) (d : List ℕ) → ((k : ℕ) → k < n → at k < length d)
    → ((k : ℕ) → k < n → back (at k) ≡ k)
    → (k : ℕ) → k < n → get_or (stores n at v d) (at k) 0 ≡ v k
unfolding stores
get_or-stores-at zero at v back d within e k h = absurd (not-suc-le-zero h)
get_or-stores-at (suc n) at v back d within e k h =
    go (get_or-stores-at n at v back d (λ j m. within j (omega arith)) (λ j m. e j (omega arith)) k)
    (eq-or-lt_of_le (le_of_suc-le-suc h))
  where
    go : (k < n → get_or (stores n at v d) (at k) 0 ≡ v k) → (k ≡ n) ⊎ (k < n)
        → get_or (stores (suc n) at v d) (at k) 0 ≡ v k
    go ih (inl q) =
        ap (λ (j : ℕ). get_or (set (stores n at v d) (at n) (v n)) (at j) 0) q
        ∙ get_or-set_same (stores n at v d) (at n) (v n) 0
        (omega (arith, within n (le_refl (suc n)), length-stores n at v d))
        ∙ ap v (sym q)
    go ih (inr l) =
        get_or-set_other (stores n at v d) (at n) (at k) (v n) 0
        (λ q. omega (arith, ap back q, e k h, e n (le_refl (suc n)), l))
        ∙ ih l
