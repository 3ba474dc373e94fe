-- What putting one record writes.
use mathlib.Core.Path.{◌≡◌, refl, sym, ap, ◌∙◌}
use Prim.Native.Nat.{ℕ, ◌+◌, ◌-◌, ◌≤◌}
use native.Mathlib.Nat.{add-zero}
use native.Mathlib.Omega.{arith}
use mathlib.Core.Bool.{Bool, false, cond}
use mathlib.Core.List.{List}
use lib.ListN.{length, get_or, take, drop, length-drop}
use lib.Seq.{drop-drop, get_or-take, get_or-drop, length-take-le}
use lib.Dec.{ltb}
use borrow.Author.Tests.{le-ltb, ltb-false}
use Rattle.lists.specs.Over.{over}
use Rattle.lists.proofs.Cond.{cond-ltb, cond-eqb}
use Rattle.packbits.specs.declared.Record.{Record}
use Rattle.packbits.specs.declared.Record.TheVariants.{Literal, Repeat, Nothing, Truncated, Crossing}
use Rattle.packbits.specs.Records.{control, packed_len, row_len, row_bytes, fault, judged, record_at}
use Rattle.packbits.proofs.Records.{at-control}
use Rattle.unpack.specs.Rows.{long}
use Rattle.unpack.proofs.Front.{front-part}

module _ (s d : List ℕ) (at : ℕ) (r : Record) (n : ℕ) where
  pub put-literal : r ≡ Literal n → over (take n (drop (at + 1) s)) d ≡ over (row_bytes r (drop at s)) d
  put-literal is =
      ap (λ (l : List ℕ). over (take n l) d) (sym (drop-drop 1 at s))
      ∙ ap (λ (q : Record). over (row_bytes q (drop at s)) d) (sym is)

-- ---- a record that is not long

pub not-long-whole : (r : Record) → long r ≡ false → fault r ≡ 0
not-long-whole (Literal n) e = refl
not-long-whole (Repeat n) e = refl
not-long-whole Nothing e = refl
not-long-whole Truncated e = let z : ◌≡◌ {A = ℕ} 0 1 = cc in absurd (omega arith)
not-long-whole Crossing e = let z : ◌≡◌ {A = ℕ} 0 1 = cc in absurd (omega arith)

-- its bytes at the front of an output
module _ (s d out : List ℕ) (at : ℕ) (r : Record) where
  pub front-literal : (n : ℕ) → r ≡ Literal n → long r ≡ false → at + 1 + 8 ≤ length s
      → out ≡ over (take 8 (drop (at + 1) s)) d → take (row_len r) out ≡ row_bytes r (drop at s)
  front-literal n is small room e =
      let few : n ≤ 8 = ltb-false 8 n (sym (ap long is) ∙ small) in
      ap (λ (q : Record). take (row_len q) out) is
      ∙ front-part s d out (at + 1) n 8 few room e
      ∙ ap (take n) (sym (drop-drop 1 at s))
      ∙ ap (λ (q : Record). row_bytes q (drop at s)) (sym is)

-- ---- the record at the front of 129 bytes

control-fits : (x : ℕ) → packed_len (control x) ≤ 129
unfolding control
control-fits x =
    cond-ltb (λ r. packed_len r ≤ 129) x 128 (λ h. omega arith)
    (λ h. cond-eqb (λ r. packed_len r ≤ 129) x 128 (λ e. omega arith) (λ e. omega arith))

pub record-front : (s : List ℕ) (at room n : ℕ) → at + 129 ≤ length s → n ≡ 129
    → record_at (drop 0 (take n (drop at s))) room ≡ record_at (drop at s) room
record-front s at room n h long =
    let part : List ℕ = take n (drop at s) in
    let size : length part ≡ 129 = length-take-le n (drop at s) (omega (arith, length-drop at s)) ∙ long in
    let x : ℕ = get_or s at 0 in
    let same : get_or part 0 0 ≡ x = get_or-take n (drop at s) 0 0 (omega arith) ∙ get_or-drop at s 0 0 ∙ ap
    (λ (k : ℕ). get_or s k 0) (add-zero at) in
    at-control part 0 room (omega arith)
    ∙ ap (λ (b : ℕ). judged (control b) (length part - 0) room) same
    ∙ ap (λ (b : Bool). cond (ltb room (row_len (control x))) Crossing (cond b Truncated (control x)))
    (le-ltb (length part - 0) (packed_len (control x)) (omega (arith, control-fits x))
    ∙ sym (le-ltb (length s - at) (packed_len (control x)) (omega (arith, control-fits x))))
    ∙ sym (at-control s at room (omega arith))
