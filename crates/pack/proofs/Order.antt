-- Laws of the order of bodies, shorter first and then by the dictionary.
use Prim.Native.Nat.{ℕ, suc, ◌≤◌, ◌<◌, suc-le-suc}
use native.Mathlib.Omega.{arith}
use native.Mathlib.Nat.{lt_trans, eq-or-lt_of_le}
use mathlib.Core.Path.{◌≡◌, refl, ap, ◌∙◌}
use mathlib.Core.Logic.{inl, inr, ⊎_elim}
use mathlib.Core.List.{List, [], ◌∷◌, ◌++◌}
use lib.ListN.{length}
use Rattle.pack.specs.IsLeast.{Dictionary, end, less, same, Preferred}

dictionary-refl : (a : List ℕ) → Dictionary a a
dictionary-refl [] = end
dictionary-refl (x ∷ a) = same (dictionary-refl a)

dictionary-trans : {a b c : List ℕ} → Dictionary a b → Dictionary b c → Dictionary a c
dictionary-trans end q = end
dictionary-trans (less h) (less k) = less (lt_trans h k)
dictionary-trans (less h) (same q) = less h
dictionary-trans (same p) (less k) = less k
dictionary-trans (same p) (same q) = same (dictionary-trans p q)

pub preferred-refl : (a : List ℕ) → Preferred a a
preferred-refl a = inr (refl, dictionary-refl a)

pub preferred-length : {a b : List ℕ} → Preferred a b → length a ≤ length b
preferred-length (inl h) = omega arith
preferred-length (inr (e, d)) = omega arith

pub preferred-trans : {a b c : List ℕ} → Preferred a b → Preferred b c → Preferred a c
preferred-trans (inl h) q = inl (omega (arith, preferred-length q))
preferred-trans (inr p) (inl h) = inl (omega arith)
preferred-trans (inr p) (inr q) = inr (p.0 ∙ q.0, dictionary-trans p.1 q.1)

pub preferred-cons : (x : ℕ) {a b : List ℕ} → Preferred a b → Preferred (x ∷ a) (x ∷ b)
preferred-cons x (inl h) = inl (omega arith)
preferred-cons x (inr p) = inr (ap suc p.0, same p.1)

pub preferred-append : (xs : List ℕ) {a b : List ℕ} → Preferred a b → Preferred (xs ++ a) (xs ++ b)
preferred-append [] p = p
preferred-append (x ∷ xs) p = preferred-cons x (preferred-append xs p)

-- the smaller control byte first, where the rest is no longer
pub preferred-control : {x y : ℕ} {a b : List ℕ} → x < y → length a ≤ length b → Preferred (x ∷ a) (y ∷ b)
preferred-control h l = ⊎_elim (λ e. inr (ap suc e, less h)) (λ k. inl (omega arith)) (eq-or-lt_of_le l)

-- two literals lengthened by the same byte
dictionary-longer : (x : ℕ) {c d : ℕ} {a b : List ℕ} → Dictionary (c ∷ a) (d ∷ b)
    → Dictionary (suc c ∷ x ∷ a) (suc d ∷ x ∷ b)
dictionary-longer x (less h) = less (suc-le-suc h)
dictionary-longer x (same p) = same (same p)

pub preferred-longer : (x : ℕ) {c d : ℕ} {a b : List ℕ} → Preferred (c ∷ a) (d ∷ b)
    → Preferred (suc c ∷ x ∷ a) (suc d ∷ x ∷ b)
preferred-longer x (inl h) = inl (omega arith)
preferred-longer x (inr p) = inr (ap suc p.0, dictionary-longer x p.1)

-- there is only one least string
dictionary-antisym : {a b c d : List ℕ} → a ≡ d → b ≡ c → length a ≡ length b → Dictionary a b → Dictionary c d
    → a ≡ b
dictionary-antisym f g e end end = cc
dictionary-antisym f g e end (less k) = cc
dictionary-antisym f g e end (same q) = cc
dictionary-antisym f g e (less h) end = cc
dictionary-antisym f g e (less {x} {y} h) (less {x = u} {y = v} k) =
    let l : x ≡ v = cc in
    let r : y ≡ u = cc in
    absurd (omega arith)
dictionary-antisym f g e (less {x} {y} h) (same {x = u} q) =
    let l : x ≡ u = cc in
    let r : y ≡ u = cc in
    absurd (omega arith)
dictionary-antisym f g e (same p) end = cc
dictionary-antisym f g e (same {x} p) (less {x = u} {y = v} k) =
    let l : x ≡ v = cc in
    let r : x ≡ u = cc in
    absurd (omega arith)
dictionary-antisym f g e (same {x} {a} {b} p) (same {a = c} {b = d} q) =
    let l : a ≡ d = cc in
    let r : b ≡ c = cc in
    ap (λ (l : List ℕ). x ∷ l) (dictionary-antisym l r (omega arith) p q)

pub preferred-antisym : {a b : List ℕ} → Preferred a b → Preferred b a → a ≡ b
preferred-antisym (inl h) q = absurd (omega (arith, preferred-length q))
preferred-antisym (inr p) (inl k) = absurd (omega arith)
preferred-antisym (inr p) (inr q) = dictionary-antisym refl refl p.0 p.1 q.1
