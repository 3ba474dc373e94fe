-- Laws of the first run of a suffix of a row.
use Prim.Native.Nat.{ℕ, suc, ◌+◌, ◌/◌, ◌≤◌, ◌<◌}
use native.Mathlib.Omega.{arith}
use native.Mathlib.Nat.{zero-add}
use native.Mathlib.Numerals.{add-one}
use mathlib.Core.Path.{◌≡◌, refl, sym, ap, ◌∙◌, subst}
use mathlib.Core.Bool.{Bool, true, false, cond}
use mathlib.Core.List.{List, [], ◌∷◌, ◌++◌}
use borrow.Author.Tests.{eqb-true, eq-eqb, ne_eqb}
use lib.Count.{count_trailing_zeros}
use lib.ListN.{length, get_or, drop, length-drop, drop_of_length-le}
use lib.Seq.{drop-cons, drop-drop}
use lib.Dec.{eqb}
use Rattle.lists.proofs.Cond.{cond-eqb}
use Rattle.pack.specs.Plan.{EqualRun, run, byte_before, runs, run_before, planned}
use Rattle.pack.specs.Runs.{leading, run_length, end_of, FirstOther}

-- ---- counting from the left

pub leading-same : (x y : ℕ) (s : List ℕ) → x ≡ y → leading x (y ∷ s) ≡ suc (leading x s)
unfolding leading
leading-same x y s e = rw (eq-eqb x y e) refl

pub leading-other : (x y : ℕ) (s : List ℕ) → (x ≡ y → ⊥) → leading x (y ∷ s) ≡ 0
unfolding leading
leading-other x y s e = rw (ne_eqb x y e) refl

leading-bound : (x : ℕ) (s : List ℕ) → leading x s ≤ length s
unfolding leading
leading-bound x [] = omega arith
leading-bound x (y ∷ s) =
    cond-eqb (λ (n : ℕ). n ≤ suc (length s)) x y (λ e. omega (arith, leading-bound x s)) (λ e. omega arith)

-- the bytes x of s, and those of t where all of s are
leading-all : (x : ℕ) (s t : List ℕ) → leading x s ≡ length s → leading x (s ++ t) ≡ length s + leading x t
unfolding leading
leading-all x [] t e = sym (zero-add (leading x t))
leading-all x (y ∷ s) t e = go (eqb x y) e (leading-all x s t)
  where
    go : (b : Bool) → cond b (suc (leading x s)) 0 ≡ suc (length s)
        → (leading x s ≡ length s → leading x (s ++ t) ≡ length s + leading x t)
        → cond b (suc (leading x (s ++ t))) 0 ≡ suc (length s) + leading x t
    go true e f = omega (arith, f (omega arith))
    go false e f = absurd (omega arith)

leading-some : (x : ℕ) (s t : List ℕ) → leading x s < length s → leading x (s ++ t) ≡ leading x s
unfolding leading
leading-some x [] t h = absurd (omega arith)
leading-some x (y ∷ s) t h = go (eqb x y) h (leading-some x s t)
  where
    go : (b : Bool) → cond b (suc (leading x s)) 0 < suc (length s)
        → (leading x s < length s → leading x (s ++ t) ≡ leading x s)
        → cond b (suc (leading x (s ++ t))) 0 ≡ cond b (suc (leading x s)) 0
    go true e f = ap suc (f (omega arith))
    go false e f = refl

-- ---- where the bytes x from a place on end

module _ (x : ℕ) (row : List ℕ) (n : ℕ) where
  pub end_same : (m : ℕ) → m ≡ suc n → n < length row → get_or row n 0 ≡ x → end_of x row m ≡ end_of x row n
  end_same m k h e =
      let d = ap (leading x) (drop-cons row n 0 h) ∙ leading-same x (get_or row n 0) (drop (suc n) row) (sym e) in
      rw k (omega (arith, d))

  pub end-other : n < length row → (get_or row n 0 ≡ x → ⊥) → n ≡ end_of x row n
  end-other h e =
      let d = leading-other x (get_or row n 0) (drop (suc n) row) (λ q. e (sym q)) in
      omega (arith, ap (leading x) (drop-cons row n 0 h), d)

  pub end-over : length row ≤ n → n ≡ end_of x row n
  unfolding leading
  end-over h = omega (arith, ap (leading x) (drop_of_length-le row h))

  -- eight bytes of which d tells the first other than x
  abbrev eight : List ℕ
  eight =
      get_or row n 0 ∷ get_or row (n + 1) 0 ∷ get_or row (n + 2) 0 ∷ get_or row (n + 3) 0 ∷ get_or row (n + 4) 0
      ∷ get_or row (n + 5) 0 ∷ get_or row (n + 6) 0 ∷ get_or row (n + 7) 0 ∷ []

  module _ (h : n + 8 ≤ length row) (d : ℕ) (told : FirstOther x eight d) where
    drop-next : (k m : ℕ) → m ≡ suc k → k < length row → drop k row ≡ get_or row k 0 ∷ drop m row
    drop-next k m e l = drop-cons row k 0 l ∙ ap (λ (j : ℕ). get_or row k 0 ∷ drop j row) (sym e)

    drop-eight : drop n row ≡ eight ++ drop (n + 8) row
    drop-eight =
        rw (
          drop-next n (n + 1) (omega arith) (omega arith),
          drop-next (n + 1) (n + 2) (omega arith) (omega arith),
          drop-next (n + 2) (n + 3) (omega arith) (omega arith),
          drop-next (n + 3) (n + 4) (omega arith) (omega arith),
          drop-next (n + 4) (n + 5) (omega arith) (omega arith),
          drop-next (n + 5) (n + 6) (omega arith) (omega arith),
          drop-next (n + 6) (n + 7) (omega arith) (omega arith),
          drop-next (n + 7) (n + 8) (omega arith) (omega arith),
        ) refl

    pub end-past : d ≡ 0 → end_of x row (n + 8) ≡ end_of x row n
    end-past e = omega (arith, ap (leading x) drop-eight, leading-all x eight (drop (n + 8) row) (told.none e))

    pub end-within : (d ≡ 0 → ⊥) → n + count_trailing_zeros 64 d / 8 ≡ end_of x row n
    end-within e =
        omega (arith, told.place, ap (leading x) drop-eight, leading-some x eight (drop (n + 8) row) (told.some e))

-- the run at a place, by where its bytes end
pub run_ends : (row : List ℕ) (at : ℕ) → at < length row
    → end_of (get_or row at 0) row (at + 1) ≡ at + run_length (drop at row)
run_ends row at h = rw (drop-cons row at 0 h, add-one at) (omega arith)

-- the same of a run whose first three bytes, at the places at, j and k, are equal
pub three-ends : (row : List ℕ) (at j k m : ℕ) → j ≡ at + 1 → k ≡ at + 2 → m ≡ at + 3 → k < length row
    → get_or row at 0 ≡ get_or row j 0 → get_or row j 0 ≡ get_or row k 0
    → end_of (get_or row at 0) row m ≡ at + run_length (drop at row)
three-ends row at j k m ej ek em h e f =
    let x = get_or row at 0 in
    end_same x row k m (omega arith) h (sym (e ∙ f))
    ∙ end_same x row j k (omega arith) (omega arith) (sym e)
    ∙ ap (end_of x row) ej
    ∙ run_ends row at (omega arith)

-- ---- the runs of a row: the first, and those of what is left

-- a byte y and n more like it come first, and rs are the runs after them
runs-before : (x y n : ℕ) (s : List ℕ) (rs : List EqualRun) (t : Bool) → eqb x y ≡ t → n ≡ leading y s
    → run y (suc n) ∷ rs ≡ runs (y ∷ s) → rs ≡ runs (drop n s)
    → cond t (run x (suc (suc n)) ∷ rs) (run x 1 ∷ run y (suc n) ∷ rs)
    ≡ run x (suc (cond t (suc (leading x s)) 0)) ∷ runs (drop (cond t (suc (leading x s)) 0) (y ∷ s))
runs-before x y n s rs true e l r q =
    let m : n ≡ leading x s = l ∙ ap (λ (z : ℕ). leading z s) (sym (eqb-true x y e)) in
    rw (← m, q) refl
runs-before x y n s rs false e l r q = ap (λ (z : List EqualRun). run x 1 ∷ z) r

pub runs-cons : (x : ℕ) (s : List ℕ) → runs (x ∷ s) ≡ run x (suc (leading x s)) ∷ runs (drop (leading x s) s)
unfolding runs leading
runs-cons x [] = refl
runs-cons x (y ∷ s) =
    ap (byte_before x) (runs-cons y s)
    ∙ runs-before x y (leading y s) s (runs (drop (leading y s) s)) (eqb x y) refl refl (sym (runs-cons y s)) refl

-- the first run of a suffix that is not empty
record FirstRun (s : List ℕ) (n : ℕ) : Type 0 where
  some : 1 ≤ n
  within : n ≤ length s
  runs : runs s ≡ run (get_or s 0 0) n ∷ runs (drop n s)

first_run : (s : List ℕ) → 1 ≤ length s → FirstRun s (run_length s)
first_run [] h = absurd (omega arith)
first_run (x ∷ s) h = record { some = omega arith; within = omega (arith, leading-bound x s); runs = runs-cons x s }

-- the run at the place at, of n bytes
module _ (row : List ℕ) (at n : ℕ) (h : at < length row) (e : n ≡ run_length (drop at row)) where
  run-here : FirstRun (drop at row) n
  run-here = subst (FirstRun (drop at row)) (sym e) (first_run (drop at row) (omega (arith, length-drop at row)))

  pub run-bounds : (1 ≤ n) × (at + n ≤ length row)
  run-bounds = (run-here.some, omega (arith, run-here.within, length-drop at row))

  pub runs_here : runs (drop at row) ≡ run (get_or (drop at row) 0 0) n ∷ runs (drop (at + n) row)
  runs_here =
      run-here.runs ∙ ap (λ (s : List ℕ). run (get_or (drop at row) 0 0) n ∷ runs s) (drop-drop n at row)

  pub planned-here : planned (runs (drop at row))
      ≡ run_before (run (get_or (drop at row) 0 0) n) (planned (runs (drop (at + n) row)))
  unfolding planned
  planned-here = ap planned runs_here
