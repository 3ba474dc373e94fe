-- Laws of rows of one width.
use mathlib.Core.Path.{◌≡◌, ap, ◌∙◌}
use Prim.Native.Nat.{ℕ, zero, suc, ◌+◌, ◌*◌, ◌<◌}
use native.Mathlib.Nat.{zero-mul, suc-mul}
use native.Mathlib.Omega.{arith}
use mathlib.Core.List.{List, [], ◌∷◌, ◌++◌, flatten}
use lib.ListN.{length, get_or, drop, length-append, get_or-append}
use lib.Seq.{get_or-append-add}
use Rattle.lists.specs.Tabulate.{tabulate}
use Rattle.lists.specs.Wide.{Wide}

pub wide_at : (width : ℕ) (rows : List (List ℕ)) → Wide width rows → (k : ℕ) → k < length rows
    → length (get_or rows k []) ≡ width
wide_at width [] w k h = absurd (omega arith)
wide_at width (row ∷ rows) w zero h = w.0
wide_at width (row ∷ rows) w (suc k) h = wide_at width rows w.1 k (omega arith)

pub wide-tabulate : (width n : ℕ) (f : ℕ → List ℕ) → ((k : ℕ) → length (f k) ≡ width) → Wide width (tabulate n f)
unfolding tabulate
wide-tabulate width zero f h = tt
wide-tabulate width (suc n) f h = (h 0, wide-tabulate width n (λ k. f (suc k)) (λ k. h (suc k)))

pub wide-drop : (width n : ℕ) (rows : List (List ℕ)) → Wide width rows → Wide width (drop n rows)
wide-drop width zero rows w = w
wide-drop width (suc n) [] w = tt
wide-drop width (suc n) (row ∷ rows) w = wide-drop width n rows w.1

-- the rows joined: element c of row n
pub get_or-flatten : (w : ℕ) (list : List (List ℕ)) → Wide w list → (n c : ℕ) → n < length list → c < w
    → (n * w + c < length (flatten list)) × (get_or (flatten list) (n * w + c) 0 ≡ get_or (get_or list n []) c 0)
unfolding flatten
get_or-flatten w [] wide n c h k = absurd (omega arith)
get_or-flatten w (row ∷ list) wide zero c h k =
    let none : zero * w + c ≡ c = omega (arith, zero-mul w) in
    let more = length-append row (flatten list) in (
      omega (arith, more, wide.0),
      ap (λ (i : ℕ). get_or (row ++ flatten list) i 0) none ∙ get_or-append row (flatten list) 0 c
          (omega (arith, wide.0)),
    )
get_or-flatten w (row ∷ list) wide (suc n) c h k =
    let ih = get_or-flatten w list wide.1 n c (omega arith) k in
    let on : suc n * w + c ≡ length row + (n * w + c) = omega (arith, suc-mul n w, wide.0) in
    let more = length-append row (flatten list) in (
      omega (arith, more, ih.0),
      ap (λ (i : ℕ). get_or (row ++ flatten list) i 0) on ∙ get_or-append-add row (flatten list) (n * w + c) 0 ∙ ih.1,
    )
