-- A run of one byte as two that overlap.
use mathlib.Core.Path.{◌≡◌, sym, ap, ap₂, ◌∙◌}
use Prim.Native.Nat.{ℕ, ◌+◌, ◌-◌, ◌≤◌}
use native.Mathlib.Omega.{arith}
use mathlib.Core.List.{List, ◌++◌, append_assoc}
use lib.ListN.{length, take, drop, replicate, length-replicate, replicate-append-replicate}
use lib.Seq.{take_at, take-append-le, drop-drop, drop-append-add}
use borrow.Rule.Slice.PartMut.{put_mid}
use Rattle.lists.specs.Over.{over}
use Rattle.lists.proofs.Over.{length_over}
use Rattle.lists.proofs.Parts.{tail-part, tail-put}

-- a run of k bytes, and another from j bytes on
module _ (b j k : ℕ) (d : List ℕ) (less : j ≤ k) where
  abbrev run : List ℕ
  run = replicate k b

  abbrev first : List ℕ
  first = over run d

  front : take j first ≡ replicate j b
  front =
      let more : j + (k - j) ≡ k = omega arith in
      take-append-le j run (drop (length run) d) (omega (arith, length-replicate k b))
      ∙ ap (take j) (sym (replicate-append-replicate j (k - j) b ∙ ap (λ (m : ℕ). replicate m b) more))
      ∙ take_at (replicate j b) (replicate (k - j) b) j (length-replicate j b)

  behind : drop (length run) (drop j first) ≡ drop (length run + j) d
  behind =
      let swap : j + length run ≡ length run + j = omega arith in
      drop-drop (length run) j first
      ∙ ap (λ (m : ℕ). drop m first) swap
      ∙ drop-append-add run (drop (length run) d) j
      ∙ drop-drop j (length run) d

  -- together they are one run
  pub put_both : (out last : List ℕ) → j + k ≤ length d → out ≡ first
      → last ≡ over run (take (length out - j) (drop j out))
      → put_mid j (length out - j) out last ≡ over (replicate (j + k) b) d
  put_both out last room is e =
      let all : length run + j ≡ length (replicate (j + k) b) =
      omega (arith, length-replicate k b, length-replicate (j + k) b) in
      tail-put out last j (omega (arith, ap length is, length_over run d (omega (arith, length-replicate k b))))
      ∙ ap (λ (l : List ℕ). take j out ++ l) (e ∙ ap (over run) (tail-part out j))
      ∙ ap (λ (l : List ℕ). take j l ++ over run (drop j l)) is
      ∙ ap₂ (λ (l m : List ℕ). l ++ (run ++ m)) front behind
      ∙ sym (append_assoc (replicate j b) run (drop (length run + j) d))
      ∙ ap₂ (λ (l : List ℕ) (m : ℕ). l ++ drop m d) (replicate-append-replicate j k b) all
