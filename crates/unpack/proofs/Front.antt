-- The front of what was written over an output.
use mathlib.Core.Path.{◌≡◌, sym, ap, ◌∙◌}
use Prim.Native.Nat.{ℕ, ◌+◌, ◌-◌, ◌≤◌}
use native.Mathlib.Omega.{arith}
use mathlib.Core.List.{List, ◌++◌}
use lib.ListN.{length, take, drop, replicate, length-drop, length-replicate, replicate-append-replicate}
use lib.Seq.{take_at, take-append-le, take-take, length-take-le, take-append-add}
use borrow.Rule.Slice.PartMut.{put_mid, post_of}
use Rattle.lists.specs.Over.{over}

-- a part of m bytes over the front
pub front-part : (s d out : List ℕ) (at n m : ℕ) → n ≤ m → at + m ≤ length s → out ≡ over (take m (drop at s)) d
    → take n out ≡ take n (drop at s)
front-part s d out at n m less room is =
    let long : length (take m (drop at s)) ≡ m = length-take-le m (drop at s) (omega (arith, length-drop at s)) in
    ap (take n) is
    ∙ take-append-le n (take m (drop at s)) _ (omega arith)
    ∙ take-take n m (drop at s) less

-- a run of m bytes over the front
pub front-run : (byte : ℕ) (d out : List ℕ) (n m : ℕ) → n ≤ m → out ≡ over (replicate m byte) d
    → take n out ≡ replicate n byte
front-run byte d out n m less is =
    let more : n + (m - n) ≡ m = omega arith in
    ap (take n) is
    ∙ take-append-le n (replicate m byte) _ (omega (arith, length-replicate m byte))
    ∙ ap (take n) (sym (replicate-append-replicate n (m - n) byte ∙ ap (λ (k : ℕ). replicate k byte) more))
    ∙ take_at (replicate n byte) (replicate (m - n) byte) n (length-replicate n byte)

-- the front, once a part behind it was lent and given back
pub front-more : (out last : List ℕ) (to k n : ℕ) → to ≤ length out → n ≤ length last
    → take (to + n) (put_mid to k out last) ≡ take to out ++ take n last
front-more out last to k n h less =
    let long : length (take to out) ≡ to = length-take-le to out h in
    ap (λ (i : ℕ). take (i + n) (put_mid to k out last)) (sym long)
    ∙ take-append-add (take to out) (last ++ post_of to k out) n
    ∙ ap (λ (l : List ℕ). take to out ++ l) (take-append-le n last (post_of to k out) less)
