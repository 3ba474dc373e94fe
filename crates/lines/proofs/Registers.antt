-- Laws of registers: a register is made of one bit of one byte of each plane, and is below 2 ^ planes.
use mathlib.Core.Path.{◌≡◌, sym, ap, ap₂, ◌∙◌}
use mathlib.Core.List.{List}
use Prim.Native.Nat.{ℕ, zero, suc, ◌+◌, ◌-◌, ◌*◌, ◌/◌, ◌%◌, ◌^◌, ◌<◌}
use native.Mathlib.Nat.{add-zero}
use native.Mathlib.Omega.{arith}
use lib.ListN.{length, get_or}
use lib.Arith.{digits_div, digits_mod}
use lib.Pow.{shr-shr, field, mod-mod-pow}
use Rattle.lists.specs.Bytes.{Bytes}
use Rattle.lists.specs.Sum.{sum}
use Rattle.lists.proofs.Digits.{sum_lt}
use Rattle.lists.proofs.Sum.{sum-ext}
use Rattle.lists.proofs.Tabulate.{length-tabulate, get_or-tabulate}
use Rattle.words.specs.Word.{word_at}
use Rattle.raster.specs.Offsets.{word_offset}
use Rattle.resolution.specs.declared.Resolution.{Resolution}
use Rattle.resolution.specs.Shapes.{width_of, planes_of, registers_of, raster_of}
use Rattle.resolution.proofs.Shapes.{registers-le}
use Rattle.lines.specs.Registers.{pixel_bit, register, scan_line}

-- ---- a register from bytes

-- a bit of the lowest eight is one of the number's remainder
low_bit : (n m : ℕ) → m < 8 → n % 256 / 2 ^ m % 2 ≡ n / 2 ^ m % 2
low_bit n m l =
    let e : 8 ≡ 8 - m + m = omega arith in
    let f : 8 - m ≡ 7 - m + 1 = omega arith in
    ap (λ (j : ℕ). n % 2 ^ j / 2 ^ m % 2) e
    ∙ ap (λ (j : ℕ). j % 2) (field n (8 - m) m)
    ∙ ap (λ (j : ℕ). n / 2 ^ m % 2 ^ j % 2) f
    ∙ mod-mod-pow (n / 2 ^ m) (7 - m) 1

-- pixel k of byte h of the word at an offset
pixel-byte : (s : List ℕ) (o h k : ℕ) → Bytes s → h < 2 → k < 8
    → pixel_bit (word_at s o) (h * 8 + k) ≡ get_or s (o + h) 0 / 2 ^ (7 - k) % 2
unfolding pixel_bit word_at
pixel-byte s o zero k bytes h l =
    let e : 15 - (0 * 8 + k) ≡ 8 + (7 - k) = omega arith in
    ap (λ (j : ℕ). (get_or s o 0 * 256 + get_or s (o + 1) 0) / 2 ^ j % 2) e
    ∙ ap (λ (j : ℕ). j % 2) (sym (shr-shr (get_or s o 0 * 256 + get_or s (o + 1) 0) 8 (7 - k)))
    ∙ ap (λ (j : ℕ). j / 2 ^ (7 - k) % 2) (digits_div (get_or s o 0) (bytes (o + 1)))
    ∙ ap (λ (j : ℕ). get_or s j 0 / 2 ^ (7 - k) % 2) (sym (add-zero o))
pixel-byte s o (suc zero) k bytes h l =
    let e : 15 - (1 * 8 + k) ≡ 7 - k = omega arith in
    ap (λ (j : ℕ). (get_or s o 0 * 256 + get_or s (o + 1) 0) / 2 ^ j % 2) e
    ∙ sym (low_bit (get_or s o 0 * 256 + get_or s (o + 1) 0) (7 - k) (omega arith))
    ∙ ap (λ (j : ℕ). j / 2 ^ (7 - k) % 2) (digits_mod (get_or s o 0) (bytes (o + 1)))
pixel-byte s o (suc (suc h)) k bytes l m = absurd (omega arith)

-- the register of pixel k of byte h of a scan line: one bit of byte h of each plane
pub register-byte : (s : List ℕ) (r : Resolution) (h k y : ℕ) → Bytes s → k < 8
    → register s r (h * 8 + k) y
    ≡ sum (planes_of r) (λ p. get_or s (word_offset (raster_of r) y (h / 2) p + h % 2) 0 / 2 ^ (7 - k) % 2 * 2 ^ p)
unfolding register
register-byte s r h k y bytes l =
    let g : (h * 8 + k) / 16 ≡ h / 2 = omega arith in
    let x : (h * 8 + k) % 16 ≡ h % 2 * 8 + k = omega arith in
    sum-ext (planes_of r) _ (λ p. get_or s (word_offset (raster_of r) y (h / 2) p + h % 2) 0 / 2 ^ (7 - k) % 2 * 2 ^ p)
    (λ p hp.
    ap₂ (λ (i j : ℕ). pixel_bit (word_at s (word_offset (raster_of r) y i p)) j * 2 ^ p) g x
    ∙ ap (λ (b : ℕ). b * 2 ^ p) (pixel-byte s (word_offset (raster_of r) y (h / 2) p) (h % 2) k bytes (omega arith) l))

-- ---- bounds

pub register-lt : (s : List ℕ) (r : Resolution) (x y : ℕ) → register s r x y < registers_of r
unfolding register pixel_bit
register-lt s r x y =
    sum_lt (planes_of r) (λ p. pixel_bit (word_at s (word_offset (raster_of r) y (x / 16) p)) (x % 16)) (λ p. omega arith)

pub register-lt-16 : (s : List ℕ) (r : Resolution) (x y : ℕ) → register s r x y < 16
register-lt-16 s r x y = omega (arith, register-lt s r x y, registers-le r)

-- ---- the registers of a scan line

pub length-scan_line : (s : List ℕ) (r : Resolution) (y : ℕ) → length (scan_line s r y) ≡ width_of r
unfolding scan_line
length-scan_line s r y = length-tabulate (width_of r) (λ x. register s r x y)

pub get_or-scan_line : (s : List ℕ) (r : Resolution) (x y : ℕ) → x < width_of r
    → get_or (scan_line s r y) x 0 ≡ register s r x y
unfolding scan_line
get_or-scan_line s r x y h = get_or-tabulate (width_of r) (λ x. register s r x y) x 0 h
