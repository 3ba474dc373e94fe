-- The loop over scan lines that interleaves their plane rows: its invariant and its laws.
use mathlib.Core.Path.{◌≡◌, sym, ap, ap₂, ◌∙◌}
use mathlib.Core.List.{List}
use Prim.Native.Nat.{ℕ, ◌+◌, ◌-◌, ◌*◌, ◌/◌, ◌%◌, ◌≤◌, ◌<◌}
use native.Mathlib.Nat.{mul-le-mul, le_refl, suc-mul}
use native.Mathlib.Numerals.{add-one}
use native.Mathlib.Omega.{arith}
use lib.Arith.{digits_div, digits_mod}
use lib.ListN.{length, get_or, take, drop}
use borrow.Rule.Slice.PartMut.{put_mid, same_len_mid}
use Rattle.lists.specs.Over.{over}
use Rattle.lists.proofs.Over.{over_done, tabulate-piece}
use Rattle.lists.proofs.Parts.{over-put}
use Rattle.lists.specs.Tabulate.{tabulate}
use Rattle.lists.proofs.Tabulate.{length-tabulate}
use Rattle.raster.specs.Joined.{interleaved, interleaved_line}

-- scan lines of `line` bytes each, one behind the other, whose plane rows stand `step` behind those of the one before
abbrev pub interleaved_lines : List ℕ → ℕ → ℕ → ℕ → ℕ → ℕ → List ℕ
interleaved_lines s step lines planes gap line =
    tabulate (lines * line) (λ o. get_or s (o / line * step + interleaved planes gap (o % line)) 0)

-- y scan lines of `lines` are interleaved
pub record Interleaving (s : List ℕ) (step lines planes gap line : ℕ) (area₀ area : List ℕ) (y : ℕ) : Type 0 where
  pub room : lines * line ≤ length area₀
  pub kept : length area ≡ length area₀
  pub count : y ≤ lines
  pub put : area ≡ over (take (y * line) (interleaved_lines s step lines planes gap line)) area₀

module _ {s : List ℕ} {step lines planes gap line : ℕ} {area₀ area : List ℕ} {y : ℕ}
    (w : Interleaving s step lines planes gap line area₀ area y) where
  pub line-within : y < lines → y * line + line ≤ length area
  line-within h = omega (arith, w.kept, w.room, mul-le-mul h (le_refl line), suc-mul y line)

  -- the next scan line
  pub interleaving-turn : y < lines → (last : List ℕ)
      → length last ≡ length (take (length area - y * line) (drop (y * line) area))
      → last ≡ over (interleaved_line s (y * step) planes gap line)
      (take (length area - y * line) (drop (y * line) area))
      → Interleaving s step lines planes gap line area₀ (put_mid (y * line) (length area - y * line) area last) (y + 1)
  interleaving-turn h last long e =
      let at : ℕ = y * line in
      let next : at + line ≡ (y + 1) * line = sym (suc-mul y line) ∙ ap (λ (k : ℕ). k * line) (sym (add-one y)) in
      let within : at + line ≤ lines * line = omega (arith, mul-le-mul h (le_refl line), suc-mul y line) in
      let byte : ℕ → ℕ = λ o. get_or s (o / line * step + interleaved planes gap (o % line)) 0 in
      record {
        room = w.room;
        kept = same_len_mid at (length area - at) area last long ∙ w.kept;
        count = omega arith;
        put =
            over-put area last (interleaved_line s (y * step) planes gap line) at (omega (arith, line-within h)) e
            ∙ tabulate-piece (lines * line) line byte
            (λ x. get_or s (y * step + interleaved planes gap x) 0) area₀ area at within
            w.put
            (λ x b. sym
            (ap₂ (λ (i j : ℕ). get_or s (i * step + interleaved planes gap j) 0) (digits_div y b) (digits_mod y b)))
            ∙ ap (λ (n : ℕ). over (take n (interleaved_lines s step lines planes gap line)) area₀) next;
      }

  -- after the last one
  pub interleaving-done : lines ≤ y → area ≡ over (interleaved_lines s step lines planes gap line) area₀
  interleaving-done h =
      over_done (interleaved_lines s step lines planes gap line) area₀ area (y * line)
      (omega (
        arith,
        mul-le-mul h (le_refl line),
        length-tabulate (lines * line)
            (λ o. get_or s (o / line * step + interleaved planes gap (o % line)) 0),
      ))
      w.put
