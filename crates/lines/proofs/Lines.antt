-- Laws of line out and line in: each undoes the other.
use Rattle.std.specs.Prelude.{Ok, Some}
use Rattle.outcome.specs.Outcome.{Outcome}
use mathlib.Core.Path.{◌≡◌, refl, sym, ap, ap₂, ◌∙◌}
use mathlib.Core.Bool.{Bool, true, not}
use mathlib.Core.List.{List}
use Prim.Native.Nat.{ℕ, ◌+◌, ◌-◌, ◌*◌, ◌/◌, ◌%◌, ◌^◌, ◌≤◌, ◌<◌}
use native.Mathlib.Nat.{add-zero, div-add-mod', mod-eq_of_lt}
use native.Mathlib.Omega.{arith}
use lib.Arith.{digits_div, digits_mod}
use lib.Dec.{ltb, leb}
use lib.ListN.{length, get_or, take}
use borrow.Author.Tests.{ltb-true, ltb-false, leb-false, lt-ltb, lt-leb, le-ltb, not-false}
use Rattle.lists.specs.Bytes.{Bytes}
use Rattle.lists.specs.Over.{over, over_at}
use Rattle.lists.specs.Tabulate.{tabulate}
use Rattle.lists.proofs.All.{all_below-each, each-all_below}
use Rattle.lists.proofs.Digits.{from_bits-ext, bit-from_bits, from_bits-bits, sum-digits, sum-digit}
use Rattle.lists.proofs.Over.{length_over, get_or-over-in, length-over_at, get_or-over_at-before, get_or-over_at-in, over_at-ext}
use Rattle.lists.proofs.Sum.{sum-ext}
use Rattle.lists.proofs.Tabulate.{length-tabulate, get_or-tabulate, tabulate-ext, tabulate-take}
use Rattle.words.specs.Word.{word_at, word_bytes}
use Rattle.words.proofs.Word.{word_at-lt, word_bytes-word_at}
use Rattle.outcome.specs.Refusal.{area_too_short, out_of_range}
use Rattle.outcome.proofs.Outcome.{passed}
use Rattle.raster.specs.Offsets.{group_offset, word_offset}
use Rattle.resolution.specs.declared.Resolution.{Resolution}
use Rattle.resolution.specs.declared.Resolution.TheVariants.{Low, Medium, High}
use Rattle.resolution.specs.Choice.{chosen}
use Rattle.resolution.specs.Shapes.{screen_bytes, width_of, height_of, planes_of, groups_of}
use Rattle.resolution.specs.Shapes.{line_bytes_of, registers_of, raster_of}
use Rattle.resolution.proofs.Choice.{judge_screen-fits}
use Rattle.lines.specs.Registers.{pixel_bit, register, scan_line, word_of, line_byte, scan_line_bytes, with_line}
use Rattle.lines.specs.Lines.{registers_fit, judge_line_at, line_out_at, line_out, line_in}
use Rattle.lines.proofs.Pieces.{piece-within}
use Rattle.lines.proofs.Places.{line-within, pixel-group}
use Rattle.lines.proofs.Registers.{register-lt, length-scan_line, get_or-scan_line}

-- ---- the bytes of a scan line

-- the scan line's bytes are its words', group by group and plane by plane
word-offset : (r : Resolution) (y g p h : ℕ)
    → word_offset (raster_of r) y g p + h ≡ y * line_bytes_of r + ((g * planes_of r + p) * 2 + h)
unfolding word_offset group_offset
word-offset Low y g p h = omega arith
word-offset Medium y g p h = omega arith
word-offset High y g p h = omega arith

word-in-line : (r : Resolution) (g p h : ℕ) → g < groups_of r → p < planes_of r → h < 2
    → (g * planes_of r + p) * 2 + h < line_bytes_of r
word-in-line Low g p h a b c = omega arith
word-in-line Medium g p h a b c = omega arith
word-in-line High g p h a b c = omega arith

word-group : (r : Resolution) (i : ℕ) → i < line_bytes_of r
    → (i / 2 / planes_of r < groups_of r) × (i / 2 % planes_of r < planes_of r)
word-group Low i h = omega arith
word-group Medium i h = omega arith
word-group High i h = omega arith

group-pixel : (r : Resolution) (g k : ℕ) → g < groups_of r → k < 16 → g * 16 + k < width_of r
group-pixel Low g k h l = omega arith
group-pixel Medium g k h l = omega arith
group-pixel High g k h l = omega arith

length-scan_line_bytes : (r : Resolution) (line : List ℕ) → length (scan_line_bytes r line) ≡ line_bytes_of r
unfolding scan_line_bytes
length-scan_line_bytes r line = length-tabulate (line_bytes_of r) (line_byte r line)

line-room : (s : List ℕ) (r : Resolution) (y : ℕ) (line : List ℕ) → screen_bytes ≤ length s → y < height_of r
    → y * line_bytes_of r + length (scan_line_bytes r line) ≤ length s
line-room s r y line long hy = omega (arith, line-within r y hy, length-scan_line_bytes r line)

pub length-with_line : (s : List ℕ) (r : Resolution) (y : ℕ) (line : List ℕ) → screen_bytes ≤ length s → y < height_of r
    → length (with_line s r y line) ≡ length s
unfolding with_line
length-with_line s r y line long hy =
    length-over_at (y * line_bytes_of r) (scan_line_bytes r line) s (line-room s r y line long hy)

-- ---- line out after line in

module _ (s : List ℕ) (r : Resolution) (y : ℕ) (line : List ℕ) (long : screen_bytes ≤ length s)
    (hy : y < height_of r) where
  byte-in : (g p h : ℕ) → g < groups_of r → p < planes_of r → h < 2
      → get_or (with_line s r y line) (word_offset (raster_of r) y g p + h) 0 ≡ get_or (word_bytes (word_of line g p)) h 0
  unfolding with_line scan_line_bytes
  byte-in g p h hg hp hh =
      let P : ℕ = planes_of r in
      let n : ℕ = line_bytes_of r in
      let i : ℕ = (g * P + p) * 2 + h in
      let l : i < n = word-in-line r g p h hg hp hh in
      let w : i / 2 ≡ g * P + p = digits_div (g * P + p) hh in
      let e : i / 2 / P ≡ g = ap (λ (m : ℕ). m / P) w ∙ digits_div g hp in
      let f : i / 2 % P ≡ p = ap (λ (m : ℕ). m % P) w ∙ digits_mod g hp in
      let t : List ℕ = tabulate n (line_byte r line) in
      ap (λ (o : ℕ). get_or (over_at (y * n) t s) o 0) (word-offset r y g p h)
      ∙ get_or-over_at-in (y * n) t s (line-room s r y line long hy) i 0
      (omega (arith, length-tabulate n (line_byte r line)))
      ∙ get_or-tabulate n (line_byte r line) i 0 l
      ∙ ap₂ (λ (a b : ℕ). get_or (word_bytes (word_of line a b)) (i % 2) 0) e f
      ∙ ap (λ (m : ℕ). get_or (word_bytes (word_of line g p)) m 0) (digits_mod (g * P + p) hh)

  word_in : (g p : ℕ) → g < groups_of r → p < planes_of r
      → word_at (with_line s r y line) (word_offset (raster_of r) y g p) ≡ word_of line g p
  unfolding word_at word_bytes
  word_in g p hg hp =
      let t : List ℕ = with_line s r y line in
      let o : ℕ = word_offset (raster_of r) y g p in
      ap (λ (m : ℕ). get_or t m 0 * 256 + get_or t (o + 1) 0) (sym (add-zero o))
      ∙ ap₂ (λ (a b : ℕ). a * 256 + b) (byte-in g p 0 hg hp (omega arith)) (byte-in g p 1 hg hp (omega arith))
      ∙ div-add-mod' (word_of line g p) 256

  pub register-in : (x : ℕ) → x < width_of r → get_or line x 0 < registers_of r
      → register (with_line s r y line) r x y ≡ get_or line x 0
  unfolding register pixel_bit word_of
  register-in x hx hv =
      let g : ℕ = x / 16 in
      let k : ℕ = x % 16 in
      sum-ext (planes_of r) _ (λ p. get_or line x 0 / 2 ^ p % 2 * 2 ^ p)
      (λ p hp.
      ap (λ (w : ℕ). w / 2 ^ (15 - k) % 2 * 2 ^ p) (word_in g p (pixel-group r x hx) hp)
      ∙ ap (λ (m : ℕ). m * 2 ^ p)
      (bit-from_bits 16 (λ k. get_or line (g * 16 + k) 0 / 2 ^ p % 2) (λ k. omega arith) k (omega arith))
      ∙ ap (λ (m : ℕ). get_or line m 0 / 2 ^ p % 2 * 2 ^ p) (div-add-mod' x 16))
      ∙ sum-digits (planes_of r) (get_or line x 0)
      ∙ mod-eq_of_lt hv

  -- a line above keeps its registers
  byte_above : (z g p h : ℕ) → z < y → g < groups_of r → p < planes_of r → h < 2
      → get_or (with_line s r y line) (word_offset (raster_of r) z g p + h) 0 ≡ get_or s (word_offset (raster_of r) z g p + h) 0
  unfolding with_line
  byte_above z g p h hz hg hp hh =
      let n : ℕ = line_bytes_of r in
      let before : word_offset (raster_of r) z g p + h < y * n =
      omega (arith, word-offset r z g p h, word-in-line r g p h hg hp hh, piece-within z y n hz) in
      get_or-over_at-before (y * n) (scan_line_bytes r line) s (line-room s r y line long hy) _ 0 before

  pub register-above : (x z : ℕ) → x < width_of r → z < y → register (with_line s r y line) r x z ≡ register s r x z
  unfolding register word_at
  register-above x z hx hz =
      let t : List ℕ = with_line s r y line in
      let o : ℕ → ℕ = word_offset (raster_of r) z (x / 16) in
      let g : x / 16 < groups_of r = pixel-group r x hx in
      sum-ext (planes_of r) _ (λ p. pixel_bit (get_or s (o p) 0 * 256 + get_or s (o p + 1) 0) (x % 16) * 2 ^ p)
      (λ p hp.
      let first = byte_above z (x / 16) p 0 hz g hp (omega arith) in
      let second = byte_above z (x / 16) p 1 hz g hp (omega arith) in
      let same : get_or t (o p) 0 ≡ get_or s (o p) 0 = rw (add-zero (o p)) at first in
      ap₂ (λ (a b : ℕ). pixel_bit (a * 256 + b) (x % 16) * 2 ^ p) same second)

-- each of a line's first registers is one that the planes can name
abbrev EachFits : Resolution → List ℕ → Type 0
EachFits r line = (x : ℕ) → x < width_of r → get_or line x 0 < registers_of r

-- the registers that line in was given
scan_line-with_line : (s : List ℕ) (r : Resolution) (y : ℕ) (line : List ℕ) → screen_bytes ≤ length s → y < height_of r
    → width_of r ≤ length line → EachFits r line → scan_line (with_line s r y line) r y ≡ take (width_of r) line
unfolding scan_line
scan_line-with_line s r y line long hy hw each =
    tabulate-ext (width_of r) _ (λ x. get_or line x 0) (λ x h. register-in s r y line long hy x h (each x h))
    ∙ tabulate-take (width_of r) line 0 hw

-- ---- line in after line out

module _ (s : List ℕ) (r : Resolution) (y : ℕ) (bytes : Bytes s) where
  -- plane p's word from the registers of a line that has the scan line's first
  word_out : (line : List ℕ) → ((x : ℕ) → x < width_of r → get_or line x 0 ≡ register s r x y)
      → (g p : ℕ) → g < groups_of r → p < planes_of r → word_of line g p ≡ word_at s (word_offset (raster_of r) y g p)
  unfolding word_of register pixel_bit
  word_out line e g p hg hp =
      let w : ℕ = word_at s (word_offset (raster_of r) y g p) in
      let bit : ℕ → ℕ → ℕ = λ x q. pixel_bit (word_at s (word_offset (raster_of r) y (x / 16) q)) (x % 16) in
      from_bits-ext 16 _ (λ k. w / 2 ^ (15 - k) % 2)
      (λ k hk.
      ap (λ (m : ℕ). m / 2 ^ p % 2) (e (g * 16 + k) (group-pixel r g k hg hk))
      ∙ sum-digit (planes_of r) (bit (g * 16 + k)) (λ q. omega arith) p hp
      ∙ ap₂ (λ (a b : ℕ). pixel_bit (word_at s (word_offset (raster_of r) y a p)) b) (digits_div g hk) (digits_mod g hk))
      ∙ from_bits-bits 16 w
      ∙ mod-eq_of_lt (word_at-lt s bytes (word_offset (raster_of r) y g p))

  -- nothing changes
  pub with_line-scan_line : (line : List ℕ) → ((x : ℕ) → x < width_of r → get_or line x 0 ≡ register s r x y)
      → screen_bytes ≤ length s → y < height_of r → with_line s r y line ≡ s
  unfolding with_line scan_line_bytes
  with_line-scan_line line e long hy =
      let n : ℕ = line_bytes_of r in
      let P : ℕ = planes_of r in
      sym
      (over_at-ext (y * n) n (line_byte r line) s s (omega (arith, line-within r y hy)) refl
      (λ o h. refl)
      (λ i h.
      let d = word-group r i h in
      let g : ℕ = i / 2 / P in
      let p : ℕ = i / 2 % P in
      let f : (g * P + p) * 2 + i % 2 ≡ i = omega (arith, div-add-mod' (i / 2) P) in
      sym
      (ap (λ (w : ℕ). get_or (word_bytes w) (i % 2) 0) (word_out line e g p d.0 d.1)
      ∙ word_bytes-word_at s bytes (word_offset (raster_of r) y g p) (i % 2) (omega arith)
      ∙ ap (λ (o : ℕ). get_or s o 0) (word-offset r y g p (i % 2))
      ∙ ap (λ (m : ℕ). get_or s (y * n + m) 0) f))
      (λ o h. refl))

-- ---- outcomes

-- an accepted line lies within the screen and has room
judge_line_at-fits : {A : Type 0} (r : Resolution) (y room : ℕ) (further : Outcome A) (a : A)
    → judge_line_at r y room further ≡ Ok a
    → (y < height_of r) × (width_of r ≤ room) × (further ≡ Ok a)
judge_line_at-fits r y room further a e =
    let p = passed (leb (height_of r) y) out_of_range _ a e in
    let q = passed (ltb room (width_of r)) area_too_short _ a p.1 in
    (leb-false (height_of r) y p.0, ltb-false room (width_of r) q.0, q.1)

module _ (s : List ℕ) (number y : ℕ) (r : Resolution) (known : chosen number ≡ Some r) where
  out-accepted : (room : ℕ) → screen_bytes ≤ length s → y < height_of r → width_of r ≤ room
      → line_out s number y room ≡ Ok (scan_line s r y)
  unfolding line_out
  out-accepted room long hy hw =
      rw known (simp (le-ltb (length s) screen_bytes long, lt-leb (height_of r) y hy, le-ltb room (width_of r) hw))

  in-accepted : (line : List ℕ) → screen_bytes ≤ length s → y < height_of r → width_of r ≤ length line
      → EachFits r line → line_in s number y line ≡ Ok (with_line s r y line)
  unfolding line_in
  in-accepted line long hy hw each =
      let room = le-ltb (length line) (width_of r) hw in
      let below : ℕ → Bool = λ v. ltb v (registers_of r) in
      let fit : registers_fit r line ≡ true =
      each-all_below _ (width_of r) (λ x h. lt-ltb (get_or line x 0) (registers_of r) (each x h)) in
      rw known (simp (le-ltb (length s) screen_bytes long, lt-leb (height_of r) y hy, room, fit))

-- ---- the two theorems

-- line out of the screen that an accepted line in left gives its registers back
pub out-after-in : (s line after : List ℕ) (number y room : ℕ) (r : Resolution) → chosen number ≡ Some r
    → width_of r ≤ room → line_in s number y line ≡ Ok after
    → line_out after number y room ≡ Ok (take (width_of r) line)
unfolding line_in
out-after-in s line after number y room r known hw e =
    let below : ℕ → Bool = λ v. ltb v (registers_of r) in
    let t : List ℕ = with_line s r y line in
    let p = passed (ltb (length s) screen_bytes) area_too_short _ after e in
    let long : screen_bytes ≤ length s = ltb-false (length s) screen_bytes p.0 in
    let j = judge_line_at-fits r y (length line) _ after (rw known at p.1) in
    let q = passed (not (registers_fit r line)) out_of_range (Ok t) after j.2 in
    let fit = not-false (registers_fit r line) q.0 in
    let each : EachFits r line = λ x h.
    ltb-true (get_or line x 0) (registers_of r) (all_below-each _ (width_of r) fit x h) in
    let same : Ok t ≡ Ok after = q.1 in
    let is : t ≡ after = cc in
    ap (λ (u : List ℕ). line_out u number y room) (sym is)
    ∙ out-accepted t number y r known room (omega (arith, length-with_line s r y line long j.0)) j.0 hw
    ∙ ap Ok (scan_line-with_line s r y line long j.0 j.1 each)

-- line in of what an accepted line out left is accepted and changes nothing
pub in-after-out : (s l out : List ℕ) (number y : ℕ) → Bytes s → line_out s number y (length out) ≡ Ok l
    → line_in s number y (over l out) ≡ Ok s
unfolding line_out
in-after-out s l out number y bytes e =
    judge_screen-fits (length s) number (λ r. line_out_at s r y (length out)) l e
    (λ r known long f.
    let j = judge_line_at-fits r y (length out) (Ok (scan_line s r y)) l f in
    let same : Ok (scan_line s r y) ≡ Ok l = j.2 in
    let is : scan_line s r y ≡ l = cc in
    let len : length l ≡ width_of r = ap length (sym is) ∙ length-scan_line s r y in
    let at : (x : ℕ) → x < width_of r → get_or (over l out) x 0 ≡ register s r x y = λ x h.
    get_or-over-in l out x 0 (omega arith) ∙ ap (λ (t : List ℕ). get_or t x 0) (sym is) ∙ get_or-scan_line s r x y h in
    in-accepted s number y r known (over l out) long j.0
    (omega (arith, j.1, length_over l out (omega (arith, j.1))))
    (λ x h. rw (at x h) (register-lt s r x y))
    ∙ ap Ok (with_line-scan_line s r y bytes (over l out) at long j.0))
