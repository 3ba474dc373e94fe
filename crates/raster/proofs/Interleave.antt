-- Laws of interleaving plane rows.
use mathlib.Core.Path.{◌≡◌, sym, ap, ap₂, ◌∙◌}
use mathlib.Core.List.{List, ◌++◌}
use Prim.Native.Nat.{ℕ, zero, suc, ◌+◌, ◌-◌, ◌*◌, ◌/◌, ◌%◌, ◌≤◌, ◌<◌}
use native.Mathlib.Nat.{mul-le-mul, one-mul, zero-mul, zero-add, le_refl, add_assoc, add-mul, mul_assoc, mul_comm}
use native.Mathlib.Omega.{arith}
use lib.Arith.{mod-mul}
use lib.ListN.{length, get_or, take, drop, length-append, get_or-append}
use lib.Seq.{get_or-append-add}
use borrow.Rule.Slice.PartMut.{put_mid}
use Rattle.lists.proofs.Loops.{writes}
use Rattle.lists.specs.Over.{over, over_at}
use Rattle.lists.proofs.Over.{get_or-over-in, tabulate-piece}
use Rattle.lists.proofs.Parts.{mid_put, over-append}
use Rattle.lists.specs.Tabulate.{tabulate}
use Rattle.lists.proofs.Tabulate.{length-tabulate, get_or-tabulate, tabulate-ext}
use Rattle.raster.specs.Joined.{interleaved, interleaved_line}

pub length-interleaved : (s : List ℕ) (at planes width n : ℕ) → length (interleaved_line s at planes width n) ≡ n
length-interleaved s at planes width n = length-tabulate n (λ x. get_or s (at + interleaved planes width x) 0)

-- two rows: where byte x stands
pub interleaved_within : (gap width x : ℕ) → x / 4 * 2 + x % 2 < width → interleaved 2 gap x < gap + width
interleaved_within gap width x h =
    let one : x / 2 % 2 ≤ 1 = omega arith in
    omega (arith, mul-le-mul one (le_refl gap), one-mul gap)

pub ruleset eights = (writes, interleaved_within)

-- eight bytes of each row on: sixteen bytes on
pub interleaved-on : (gap k x : ℕ) → interleaved 2 gap (k * 16 + x) ≡ k * 8 + interleaved 2 gap x
interleaved-on gap k x =
    let half : (k * 16 + x) / 2 ≡ k * 8 + x / 2 = omega arith in
    let plane : (k * 16 + x) / 2 % 2 ≡ x / 2 % 2 = ap (λ (i : ℕ). i % 2) half ∙ omega arith in
    let word : (k * 16 + x) / 4 * 2 + (k * 16 + x) % 2 ≡ k * 8 + (x / 4 * 2 + x % 2) = omega arith in
    omega (arith, ap (λ (i : ℕ). i * gap) plane)

-- a turn of the loop that interleaves eight bytes of each row
pub interleave-turn : (s : List ℕ) (at gap eights : ℕ) (out₀ out last : List ℕ) (k room : ℕ) → k < eights
    → out ≡ over (take (k * 16) (interleaved_line s at 2 gap (eights * 16))) out₀
    → last ≡ interleaved_line s (at + k * 8) 2 gap 16 → room ≡ 16
    → put_mid (k * 16) room out last ≡ over (take ((k + 1) * 16) (interleaved_line s at 2 gap (eights * 16))) out₀
interleave-turn s at gap eights out₀ out last k room h is e size =
    let byte : ℕ → ℕ = λ x. get_or s (at + interleaved 2 gap x) 0 in
    let next : k * 16 + 16 ≡ (k + 1) * 16 = omega arith in
    let long : length last ≡ room = omega (arith, ap length e, length-interleaved s (at + k * 8) 2 gap 16) in
    mid_put out last (k * 16) room long
    ∙ ap (λ (t : List ℕ). over_at (k * 16) t out) e
    ∙ tabulate-piece (eights * 16) 16 byte (λ x. get_or s (at + k * 8 + interleaved 2 gap x) 0) out₀ out (k * 16)
    (omega arith)
    is
    (λ x b. ap (λ (i : ℕ). get_or s i 0)
    (add_assoc at (k * 8) (interleaved 2 gap x) ∙ ap (λ (i : ℕ). at + i) (sym (interleaved-on gap k x))))
    ∙ ap (λ (i : ℕ). over (take i (tabulate (eights * 16) byte)) out₀) next

-- ---- four rows: two pairs of rows, interleaved

-- where byte x of four rows stands: in a pair, byte x / 4 * 2 + x % 2 of it
interleaved-four : (gap x : ℕ) → x / 2 % 2 * gap + interleaved 2 (gap * 2) (x / 4 * 2 + x % 2) ≡ interleaved 4 gap x
interleaved-four gap x =
    let u : ℕ = x / 4 * 2 + x % 2 in
    let half : u / 2 ≡ x / 4 = omega arith in
    let third : (u / 2 % 2) * (gap * 2) ≡ x / 4 % 2 * (gap * 2) = ap (λ (i : ℕ). i % 2 * (gap * 2)) half in
    let quarter : u / 4 ≡ x / 8 = omega arith in
    let low : u % 2 ≡ x % 2 = omega arith in
    let double : x / 2 / 2 ≡ x / 4 = omega arith in
    let digits : x / 2 % 4 ≡ x / 2 / 2 % 2 * 2 + x / 2 % 2 = mod-mul (x / 2) {m = 2} {c = 2} (omega arith)
    (omega arith) in
    let plane : x / 2 % 4 ≡ x / 2 % 2 + x / 4 % 2 * 2 = omega (arith, digits, ap (λ (i : ℕ). i % 2) double) in
    let planes : x / 2 % 4 * gap ≡ x / 2 % 2 * gap + x / 4 % 2 * (gap * 2) =
    ap (λ (i : ℕ). i * gap) plane
    ∙ add-mul (x / 2 % 2) (x / 4 % 2 * 2) gap
    ∙ ap (λ (i : ℕ). x / 2 % 2 * gap + i)
    (mul_assoc (x / 4 % 2) 2 gap ∙ ap (λ (i : ℕ). x / 4 % 2 * i) (mul_comm 2 gap)) in
    omega (arith, third, quarter, low, planes)

module _ (s : List ℕ) (at gap e : ℕ) (half₀ : List ℕ) where
  abbrev first : List ℕ
  first = interleaved_line s at 2 (gap * 2) (e * 16)

  abbrev second : List ℕ
  second = interleaved_line s (at + gap) 2 (gap * 2) (e * 16)

  -- byte u of pair q
  pair-byte : (q u : ℕ) → q < 2 → u < e * 16
      → get_or (over (first ++ second) half₀) (q * (e * 16) + u) 0
      ≡ get_or s (at + (q * gap + interleaved 2 (gap * 2) u)) 0
  pair-byte zero u hq h =
      let a : length first ≡ e * 16 = length-interleaved s at 2 (gap * 2) (e * 16) in
      let none : 0 * (e * 16) + u ≡ u = omega (arith, zero-mul (e * 16)) in
      let same : interleaved 2 (gap * 2) u ≡ 0 * gap + interleaved 2 (gap * 2) u = omega (arith, zero-mul gap) in
      ap (λ (i : ℕ). get_or (over (first ++ second) half₀) i 0) none
      ∙ get_or-over-in (first ++ second) half₀ u 0 (omega (arith, length-append first second))
      ∙ get_or-append first second 0 u (omega arith)
      ∙ get_or-tabulate (e * 16) (λ x. get_or s (at + interleaved 2 (gap * 2) x) 0) u 0 h
      ∙ ap (λ (i : ℕ). get_or s (at + i) 0) same
  pair-byte (suc zero) u hq h =
      let a : length first ≡ e * 16 = length-interleaved s at 2 (gap * 2) (e * 16) in
      let b : length second ≡ e * 16 = length-interleaved s (at + gap) 2 (gap * 2) (e * 16) in
      let one : 1 * (e * 16) + u ≡ length first + u = omega (arith, one-mul (e * 16)) in
      let same : at + gap + interleaved 2 (gap * 2) u ≡ at + (1 * gap + interleaved 2 (gap * 2) u) = omega
      (arith, one-mul gap) in
      ap (λ (i : ℕ). get_or (over (first ++ second) half₀) i 0) one
      ∙ get_or-over-in (first ++ second) half₀ (length first + u) 0 (omega (arith, length-append first second))
      ∙ get_or-append-add first second u 0
      ∙ get_or-tabulate (e * 16) (λ x. get_or s (at + gap + interleaved 2 (gap * 2) x) 0) u 0 h
      ∙ ap (λ (i : ℕ). get_or s i 0) same
  pair-byte (suc (suc q)) u hq h = absurd (omega arith)

  interleave-byte : (x : ℕ) → x < e * 32
      → get_or (over (first ++ second) half₀) (interleaved 2 (e * 16) x) 0 ≡ get_or s (at + interleaved 4 gap x) 0
  interleave-byte x h =
      pair-byte (x / 2 % 2) (x / 4 * 2 + x % 2) (omega arith) (omega arith)
      ∙ ap (λ (i : ℕ). get_or s (at + i) 0) (interleaved-four gap x)

  pub interleave_pairs : (half last : List ℕ) → half ≡ over first half₀
      → last ≡ over second (take (length half - e * 16) (drop (e * 16) half))
      → interleaved_line (put_mid (e * 16) (length half - e * 16) half last) 0 2 (e * 16) (e * 2 * 16)
      ≡ interleaved_line s at 4 gap (e * 32)
  interleave_pairs half last is l =
      let both : put_mid (e * 16) (length half - e * 16) half last ≡ over (first ++ second) half₀ =
      over-append half₀ first second half last (e * 16) is (length-interleaved s at 2 (gap * 2) (e * 16)) l in
      let size : e * 2 * 16 ≡ e * 32 = omega arith in
      ap₂ (λ (h : List ℕ) (n : ℕ). interleaved_line h 0 2 (e * 16) n) both size
      ∙ tabulate-ext (e * 32) (λ x. get_or (over (first ++ second) half₀) (0 + interleaved 2 (e * 16) x) 0)
      (λ x. get_or s (at + interleaved 4 gap x) 0)
      (λ x h. ap (λ (i : ℕ). get_or (over (first ++ second) half₀) i 0) (zero-add (interleaved 2 (e * 16) x))
      ∙ interleave-byte x h)
