-- Laws of screen out and screen in: a pixel's register stands at its place, and each undoes the other.
use Rattle.std.specs.Prelude.{Ok, Some}
use mathlib.Core.Path.{◌≡◌, refl, sym, ap, ap₂, ◌∙◌}
use mathlib.Core.Bool.{Bool, true, not}
use mathlib.Core.Logic.{⊎_elim}
use mathlib.Core.List.{List, [], map, flatten}
use Prim.Native.Nat.{ℕ, zero, suc, ◌+◌, ◌-◌, ◌*◌, ◌/◌, ◌%◌, ◌≤◌, ◌<◌}
use native.Mathlib.Nat.{not-suc-le-zero, le_of_suc-le-suc, le_refl, eq-or-lt_of_le, mod-lt, div-lt_iff_lt-mul}
use native.Mathlib.Nat.{div-add-mod'}
use native.Mathlib.Numerals.{add-one}
use native.Mathlib.Omega.{arith}
use borrow.Author.Tests.{ltb-true, ltb-false, lt-ltb, le-ltb, not-false}
use borrow.Rule.Slice.PartMut.{put_mid}
use lib.Dec.{ltb}
use lib.ListN.{length, get_or, take, drop}
use lib.Seq.{length-take-le, get_or-take, get_or-drop, ext_get_or}
use Rattle.lists.specs.Bytes.{Bytes}
use Rattle.lists.specs.Over.{over}
use Rattle.lists.specs.Tabulate.{tabulate}
use Rattle.lists.specs.Wide.{Wide}
use Rattle.lists.proofs.All.{all_below-each, each-all_below}
use Rattle.lists.proofs.Flatten.{length-flatten, flatten-turn}
use Rattle.lists.proofs.Over.{length_over, get_or-over-in}
use Rattle.lists.proofs.Parts.{tail-part}
use Rattle.lists.proofs.Tabulate.{length-tabulate, get_or-tabulate, map-tabulate}
use Rattle.lists.proofs.Wide.{wide-tabulate, get_or-flatten}
use Rattle.outcome.specs.Refusal.{area_too_short, out_of_range}
use Rattle.outcome.proofs.Outcome.{passed}
use Rattle.resolution.specs.declared.Resolution.{Resolution}
use Rattle.resolution.specs.declared.Resolution.TheVariants.{Low, Medium, High}
use Rattle.resolution.specs.Choice.{chosen}
use Rattle.resolution.specs.Shapes.{screen_bytes, width_of, height_of, registers_of}
use Rattle.resolution.proofs.Choice.{judge_screen-fits}
use Rattle.lines.specs.Lines.{registers_fit}
use Rattle.lines.specs.Registers.{register, scan_line, with_line}
use Rattle.lines.specs.Screens.{pixels_of, line_numbers, screen_registers, with_lines, all_fit}
use Rattle.lines.specs.Screens.{screen_out_at, screen_out, screen_in}
use Rattle.lines.proofs.Lines.{length-with_line, register-in, register-above, with_line-scan_line}
use Rattle.lines.proofs.Pieces.{piece-within}
use Rattle.lines.proofs.Registers.{register-lt, length-scan_line, get_or-scan_line}

-- ---- the loop of screen out

-- the registers of the first y scan lines
abbrev pub first_lines : List ℕ → Resolution → ℕ → List ℕ
first_lines s r y = flatten (map (scan_line s r) (take y (line_numbers r)))

length-line_numbers : (r : Resolution) → length (line_numbers r) ≡ height_of r
length-line_numbers r = length-tabulate (height_of r) (λ y. y)

length-first_lines : (s : List ℕ) (r : Resolution) (y : ℕ) → y ≤ height_of r → length (first_lines s r y) ≡ y * width_of r
length-first_lines s r y h =
    length-flatten (scan_line s r) (width_of r) (take y (line_numbers r)) 0 (λ j b. length-scan_line s r _)
    ∙ ap (λ (n : ℕ). n * width_of r) (length-take-le y (line_numbers r) (omega (arith, length-line_numbers r)))

pub lines-turn : (s : List ℕ) (r : Resolution) (y n : ℕ) (d o t : List ℕ) → y < height_of r → n ≡ y * width_of r
    → o ≡ over (first_lines s r y) d → t ≡ over (scan_line s r y) (take (length o - n) (drop n o))
    → put_mid n (length o - n) o t ≡ over (first_lines s r (y + 1)) d
lines-turn s r y n d o t h e is part =
    flatten-turn (scan_line s r) (line_numbers r) 0 y (omega (arith, length-line_numbers r)) d o t n is
    (length-first_lines s r y (omega arith) ∙ sym e)
    (part
    ∙ ap (λ (j : ℕ). over (scan_line s r j) (take (length o - n) (drop n o)))
    (sym (get_or-tabulate (height_of r) (λ y. y) y 0 h)))

-- ---- the loop of screen in

module _ (r : Resolution) (registers : List ℕ) (y n : ℕ) (e : n ≡ y * width_of r) where
  -- the registers of line y and those behind them
  abbrev part : List ℕ
  part = take (length registers - n) (drop n registers)

  pub part-fits : y < height_of r → all_fit r registers ≡ true → registers_fit r part ≡ true
  part-fits h fit =
      let below : ℕ → Bool = λ v. ltb v (registers_of r) in
      each-all_below _ (width_of r)
      (λ k b.
      ap (λ (l : List ℕ). below (get_or l k 0)) (tail-part registers n)
      ∙ ap below (get_or-drop n registers k 0)
      ∙ all_below-each _ (pixels_of r) fit (n + k)
      (omega (arith, piece-within y (height_of r) (width_of r) h)))

  pub with_lines-turn : (s screen : List ℕ) → screen ≡ with_lines s r registers y
      → with_line screen r y part ≡ with_lines s r registers (y + 1)
  unfolding with_lines
  with_lines-turn s screen is =
      ap₂ (λ (t l : List ℕ). with_line t r y l) is
      (tail-part registers n ∙ ap (λ (m : ℕ). drop m registers) e)
      ∙ ap (with_lines s r registers) (sym (add-one y))

-- ---- a pixel's register

-- what screen out writes at y * width + x is the register of pixel x of scan line y
pub get_or-screen_registers : (s : List ℕ) (r : Resolution) (x y : ℕ) → x < width_of r → y < height_of r
    → get_or (screen_registers s r) (y * width_of r + x) 0 ≡ register s r x y
unfolding screen_registers
get_or-screen_registers s r x y hx hy =
    let h : ℕ = height_of r in
    let lines : List (List ℕ) = tabulate h (scan_line s r) in
    let wide : Wide (width_of r) lines = wide-tabulate (width_of r) h (scan_line s r) (λ j. length-scan_line s r j) in
    let inside : y < length lines = omega (arith, length-tabulate h (scan_line s r)) in
    ap (λ (l : List (List ℕ)). get_or (flatten l) (y * width_of r + x) 0) (map-tabulate (scan_line s r) h (λ y. y))
    ∙ (get_or-flatten (width_of r) lines wide y x inside hx).1
    ∙ ap (λ (l : List ℕ). get_or l x 0) (get_or-tabulate h (scan_line s r) y [] hy)
    ∙ get_or-scan_line s r x y hx

length-screen_registers : (s : List ℕ) (r : Resolution) → length (screen_registers s r) ≡ pixels_of r
unfolding screen_registers
length-screen_registers s r =
    length-flatten (scan_line s r) (width_of r) (line_numbers r) 0 (λ j b. length-scan_line s r _)
    ∙ ap (λ (n : ℕ). n * width_of r) (length-line_numbers r)

-- ---- screen out after screen in

width-pos : (r : Resolution) → 0 < width_of r
width-pos Low = omega arith
width-pos Medium = omega arith
width-pos High = omega arith

-- each of the registers is one that the planes can name
abbrev EachFits : Resolution → List ℕ → Type 0
EachFits r registers = (i : ℕ) → i < pixels_of r → get_or registers i 0 < registers_of r

module _ (s : List ℕ) (r : Resolution) (registers : List ℕ) (long : screen_bytes ≤ length s) where
  length-with_lines : (n : ℕ) → n ≤ height_of r → length (with_lines s r registers n) ≡ length s
  unfolding with_lines
  length-with_lines zero h = refl
  length-with_lines (suc n) h =
      let before = length-with_lines n (omega arith) in
      length-with_line (with_lines s r registers n) r n (drop (n * width_of r) registers) (omega (arith, before)) h
      ∙ before

  register-lines : EachFits r registers → (n : ℕ) → n ≤ height_of r → (x y : ℕ) → x < width_of r → y < n
      → register (with_lines s r registers n) r x y ≡ get_or registers (y * width_of r + x) 0
  unfolding with_lines
  register-lines each zero h x y hx hy = absurd (not-suc-le-zero hy)
  register-lines each (suc n) h x y hx hy =
      let w : ℕ = width_of r in
      let t : List ℕ = with_lines s r registers n in
      let line : List ℕ = drop (n * w) registers in
      let room : screen_bytes ≤ length t = omega (arith, length-with_lines n (omega arith)) in
      let at : get_or line x 0 ≡ get_or registers (n * w + x) 0 = get_or-drop (n * w) registers x 0 in
      let below = each (n * w + x) (omega (arith, piece-within n (height_of r) w h)) in
      ⊎_elim
      (λ e.
      ap (register (with_line t r n line) r x) e
      ∙ register-in t r n line room h x hx (rw at below)
      ∙ at
      ∙ ap (λ (m : ℕ). get_or registers (m * w + x) 0) (sym e))
      (λ l. register-above t r n line room h x y hx l ∙ register-lines each n (omega arith) x y hx l)
      (eq-or-lt_of_le (le_of_suc-le-suc hy))

  -- the registers that screen in was given
  screen_registers-with_lines : pixels_of r ≤ length registers → EachFits r registers
      → screen_registers (with_lines s r registers (height_of r)) r ≡ take (pixels_of r) registers
  screen_registers-with_lines room each =
      let w : ℕ = width_of r in
      let t : List ℕ = with_lines s r registers (height_of r) in
      let size : length (screen_registers t r) ≡ pixels_of r = length-screen_registers t r in
      ext_get_or 0 (screen_registers t r) (take (pixels_of r) registers)
      (size ∙ sym (length-take-le (pixels_of r) registers room))
      (λ i h.
      let hi : i < height_of r * w = omega (arith, size) in
      let x : i % w < w = mod-lt i (width-pos r) in
      let y : i / w < height_of r = (div-lt_iff_lt-mul (width-pos r)).1 hi in
      let e : i / w * w + i % w ≡ i = div-add-mod' i w in
      ap (λ (j : ℕ). get_or (screen_registers t r) j 0) (sym e)
      ∙ get_or-screen_registers t r (i % w) (i / w) x y
      ∙ register-lines each (height_of r) (le_refl (height_of r)) (i % w) (i / w) x y
      ∙ ap (λ (j : ℕ). get_or registers j 0) e
      ∙ sym (get_or-take (pixels_of r) registers i 0 hi))

-- ---- screen in after screen out

-- nothing changes where each pixel has the register that it had
with_lines-same : (s : List ℕ) (r : Resolution) (registers : List ℕ) → Bytes s → screen_bytes ≤ length s
    → ((x y : ℕ) → x < width_of r → y < height_of r → get_or registers (y * width_of r + x) 0 ≡ register s r x y)
    → (n : ℕ) → n ≤ height_of r → with_lines s r registers n ≡ s
unfolding with_lines
with_lines-same s r registers bytes long e zero h = refl
with_lines-same s r registers bytes long e (suc n) h =
    ap (λ (t : List ℕ). with_line t r n (drop (n * width_of r) registers))
    (with_lines-same s r registers bytes long e n (omega arith))
    ∙ with_line-scan_line s r n bytes (drop (n * width_of r) registers)
    (λ x hx. get_or-drop (n * width_of r) registers x 0 ∙ e x n hx h) long h

-- ---- outcomes

module _ (s : List ℕ) (number : ℕ) (r : Resolution) (known : chosen number ≡ Some r)
    (long : screen_bytes ≤ length s) where
  out-accepted : (room : ℕ) → pixels_of r ≤ room → screen_out s number room ≡ Ok (screen_registers s r)
  unfolding screen_out
  out-accepted room h = rw known (simp (le-ltb (length s) screen_bytes long, le-ltb room (pixels_of r) h))

  in-accepted : (registers : List ℕ) → pixels_of r ≤ length registers → EachFits r registers
      → screen_in s number registers ≡ Ok (with_lines s r registers (height_of r))
  unfolding screen_in
  in-accepted registers h each =
      let below : ℕ → Bool = λ v. ltb v (registers_of r) in
      let fit : all_fit r registers ≡ true =
      each-all_below _ (pixels_of r) (λ i l. lt-ltb (get_or registers i 0) (registers_of r) (each i l)) in
      rw known (simp (le-ltb (length s) screen_bytes long, le-ltb (length registers) (pixels_of r) h, fit))

-- ---- the two theorems

-- screen out of the screen that an accepted screen in left gives its registers back
pub screen-out-after-in : (s registers after : List ℕ) (number room : ℕ) (r : Resolution) → chosen number ≡ Some r
    → pixels_of r ≤ room → screen_in s number registers ≡ Ok after
    → screen_out after number room ≡ Ok (take (pixels_of r) registers)
unfolding screen_in
screen-out-after-in s registers after number room r known h e =
    let below : ℕ → Bool = λ v. ltb v (registers_of r) in
    let t : List ℕ = with_lines s r registers (height_of r) in
    let p = passed (ltb (length s) screen_bytes) area_too_short _ after e in
    let long : screen_bytes ≤ length s = ltb-false (length s) screen_bytes p.0 in
    let j = passed (ltb (length registers) (pixels_of r)) area_too_short _ after (rw known at p.1) in
    let q = passed (not (all_fit r registers)) out_of_range (Ok t) after j.1 in
    let fit = not-false (all_fit r registers) q.0 in
    let each : EachFits r registers = λ i l.
    ltb-true (get_or registers i 0) (registers_of r) (all_below-each _ (pixels_of r) fit i l) in
    let same : Ok t ≡ Ok after = q.1 in
    let is : t ≡ after = cc in
    let size = length-with_lines s r registers long (height_of r) (le_refl (height_of r)) in
    ap (λ (u : List ℕ). screen_out u number room) (sym is)
    ∙ out-accepted t number r known (omega (arith, size)) room h
    ∙ ap Ok
    (screen_registers-with_lines s r registers long (ltb-false (length registers) (pixels_of r) j.0) each)

-- screen in of what an accepted screen out left is accepted and changes nothing
pub screen-in-after-out : (s l out : List ℕ) (number : ℕ) → Bytes s → screen_out s number (length out) ≡ Ok l
    → screen_in s number (over l out) ≡ Ok s
unfolding screen_out
screen-in-after-out s l out number bytes e =
    judge_screen-fits (length s) number (λ r. screen_out_at s r (length out)) l e
    (λ r known long f.
    let w : ℕ = width_of r in
    let j = passed (ltb (length out) (pixels_of r)) area_too_short (Ok (screen_registers s r)) l f in
    let room : pixels_of r ≤ length out = ltb-false (length out) (pixels_of r) j.0 in
    let same : Ok (screen_registers s r) ≡ Ok l = j.1 in
    let is : screen_registers s r ≡ l = cc in
    let size : length l ≡ pixels_of r = ap length (sym is) ∙ length-screen_registers s r in
    let at : (x y : ℕ) → x < w → y < height_of r → get_or (over l out) (y * w + x) 0 ≡ register s r x y = λ x y hx hy.
    get_or-over-in l out (y * w + x) 0 (omega (arith, size, piece-within y (height_of r) w hy))
    ∙ ap (λ (t : List ℕ). get_or t (y * w + x) 0) (sym is)
    ∙ get_or-screen_registers s r x y hx hy in
    in-accepted s number r known long (over l out) (omega (arith, length_over l out (omega (arith, size))))
    (λ i h.
    let a = at (i % w) (i / w) (mod-lt i (width-pos r)) ((div-lt_iff_lt-mul (width-pos r)).1 h) in
    let b : get_or (over l out) i 0 ≡ register s r (i % w) (i / w) =
    ap (λ (j : ℕ). get_or (over l out) j 0) (sym (div-add-mod' i w)) ∙ a in
    rw b (register-lt s r (i % w) (i / w)))
    ∙ ap Ok (with_lines-same s r (over l out) bytes long at (height_of r) (le_refl (height_of r))))
