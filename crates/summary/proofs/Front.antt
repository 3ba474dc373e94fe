-- What a read into the rest of a buffer leaves at its front.
use Rattle.std.proofs.Common.{◌≡◌, ℕ, ◌+◌, ◌≤◌, List, ◌++◌, length, take, ap, subst, ◌∙◌}
use Rattle.std.proofs.lemmas.List.{take-append-le, length-take-le}
use Rattle.std.proofs.Math.Seq.{take-append-add}
use borrow.Rule.Slice.PartMut.{put_mid, post_of}

-- n bytes of ys, read into xs from a on
pub take-read : (a k n : ℕ) (xs ys : List ℕ) → a ≤ length xs → n ≤ length ys
    → take (a + n) (put_mid a k xs ys) ≡ take a xs ++ take n ys
take-read a k n xs ys h small =
    let rest = ys ++ post_of a k xs in
    subst (λ (m : ℕ). take (m + n) (take a xs ++ rest) ≡ take a xs ++ take n ys) (length-take-le a xs h)
    (take-append-add (take a xs) rest n ∙ ap (λ (l : List ℕ). take a xs ++ l) (take-append-le n ys (post_of a k xs) small))
