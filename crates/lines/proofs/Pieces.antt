-- Pieces of a list given by a rule, written from an offset on, and where they lie.
use mathlib.Core.Path.{◌≡◌, refl, sym, ap, ap₂, ◌∙◌}
use mathlib.Core.List.{List, ◌++◌, append_assoc}
use Prim.Native.Nat.{ℕ, ◌+◌, ◌*◌, ◌≤◌, ◌<◌}
use borrow.Rule.Slice.PartMut.{put_mid}
use native.Mathlib.Nat.{suc-mul, mul-le-mul_right}
use native.Mathlib.Numerals.{add-one}
use native.Mathlib.Omega.{arith}
use lib.ListN.{length, take, drop}
use lib.Seq.{length-take-le, take-append-add, drop-append-add}
use Rattle.lists.specs.Over.{over, over_at}
use Rattle.lists.specs.Tabulate.{tabulate}
use Rattle.lists.proofs.Over.{tabulate-piece}

pub over_at-piece : (at n m : ℕ) (f w : ℕ → ℕ) (d out : List ℕ) (k : ℕ) → at ≤ length d → k + m ≤ n
    → out ≡ over_at at (take k (tabulate n f)) d → ((i : ℕ) → i < m → w i ≡ f (k + i))
    → over_at (at + k) (tabulate m w) out ≡ over_at at (take (k + m) (tabulate n f)) d
over_at-piece at n m f w d out k room h is e =
    let p : List ℕ = take at d in
    let x : List ℕ = over (take k (tabulate n f)) (drop at d) in
    let t : List ℕ = tabulate m w in
    let l : length p ≡ at = length-take-le at d room in
    ap (over_at (at + k) t) is
    ∙ ap (λ (j : ℕ). over_at (j + k) t (p ++ x)) (sym l)
    ∙ ap₂ (λ (a b : List ℕ). a ++ over t b) (take-append-add p x k) (drop-append-add p x k)
    ∙ append_assoc p (take k x) (over t (drop k x))
    ∙ ap (λ (u : List ℕ). p ++ u) (tabulate-piece n m f w (drop at d) x k h refl e)

-- piece k of n, each of m elements, lies before the last one's end
pub piece-within : (k n m : ℕ) → k < n → k * m + m ≤ n * m
piece-within k n m h = omega (arith, suc-mul k m, mul-le-mul_right m h)

-- the next piece begins where this one ends
pub piece-next : (k m : ℕ) → k * m + m ≡ (k + 1) * m
piece-next k m = omega (arith, suc-mul k m, ap (λ (n : ℕ). n * m) (add-one k))

-- a part of a list copied from another
pub part-over : (x k : ℕ) (d part s : List ℕ) → k ≡ length s → part ≡ s → put_mid x k d part ≡ over_at x s d
part-over x k d part s e is = rw (e, is) refl
