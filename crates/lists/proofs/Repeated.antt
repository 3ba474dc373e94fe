-- Laws of `repeated`, and of the loop that writes it.
use mathlib.Core.Path.{◌≡◌, refl, sym, ap, ◌∙◌}
use mathlib.Core.List.{List, ◌++◌}
use Prim.Native.Nat.{ℕ, zero, suc, ◌+◌, ◌-◌, ◌*◌}
use native.Mathlib.Omega.{arith}
use native.Mathlib.Nat.{add-mul, zero-mul}
use native.Mathlib.Numerals.{add-one}
use lib.ListN.{length, length-append}
use borrow.Rule.Slice.PartMut.{put_mid}
use Rattle.lists.specs.Over.{over, over_at}
use Rattle.lists.specs.Repeated.{repeated}
use Rattle.lists.proofs.Over.{over-more}

module _ {A : Type 0} where
  pub length-repeated : (n : ℕ) (s : List A) → length (repeated n s) ≡ n * length s
  unfolding repeated
  length-repeated zero s = sym (zero-mul (length s))
  length-repeated (suc n) s =
      length-append (repeated n s) s ∙ omega (arith, length-repeated n s, add-mul n 1 (length s))

  repeated-more : (k : ℕ) (s : List A) → repeated (k + 1) s ≡ repeated k s ++ s
  unfolding repeated
  repeated-more k s = rw (add-one k)

  -- ---- the loop

  pub repeated-start : (s d : List A) → d ≡ over (repeated 0 s) d
  unfolding repeated
  repeated-start s d = refl

  -- a turn: one more, which is put behind k of them
  pub repeated-turn : (s d out last : List A) (k : ℕ) → out ≡ over (repeated k s) d → last ≡ s
      → put_mid (k * length s) (k * length s + length s - k * length s) out last ≡ over (repeated (k + 1) s) d
  repeated-turn s d out last k is put =
      let more : k * length s + length s - k * length s ≡ length s = omega arith in
      ap (put_mid (k * length s) (k * length s + length s - k * length s) out) put
      ∙ ap (λ (n : ℕ). put_mid (k * length s) n out s) more
      ∙ ap (over_at (k * length s) s) is
      ∙ over-more d (repeated k s) s (k * length s) (length-repeated k s)
      ∙ ap (λ (l : List A). over l d) (sym (repeated-more k s))
