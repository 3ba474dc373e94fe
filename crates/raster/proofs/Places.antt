-- Where plane rows lie: every byte of one lies in the raster, and every byte of the raster in one.
use Prim.Native.Nat.{ℕ, zero, suc, ◌+◌, ◌*◌, ◌/◌, ◌%◌, ◌<◌}
use native.Mathlib.Nat.{mul_assoc, add-mul, mul-zero, zero-mul, mod-lt, div-lt_iff_lt-mul}
use native.Mathlib.Omega.{arith}
use mathlib.Core.Path.{◌≡◌, ap₂, ◌∙◌}
use lib.Arith.{digits_lt, digits_div, digits_mod}
use Rattle.raster.specs.declared.Raster.{Raster}
use Rattle.raster.specs.Offsets.{group_offset, word_offset}
use Rattle.raster.specs.Shape.{row_bytes, rows, line_bytes, bytes}
use Rattle.raster.specs.PlaneRows.{row_offset, row_at, column_at}

-- ---- a raster that has a row, or a byte, has planes and groups

factor-right : {n : ℕ} (a b : ℕ) → n < a * b → 0 < b
factor-right a zero h = absurd (omega (arith, mul-zero a, h))
factor-right a (suc b) h = omega arith

factor-left : {n : ℕ} (a b : ℕ) → n < a * b → 0 < a
factor-left zero b h = absurd (omega (arith, zero-mul b, h))
factor-left (suc a) b h = omega arith

pub row-planes : (r : Raster) (n : ℕ) → n < rows r → 0 < r.planes
row-planes r n h = factor-right r.lines r.planes h

byte-line : (r : Raster) (o : ℕ) → o < bytes r → 0 < line_bytes r
byte-line r o h = factor-right r.lines (line_bytes r) h

pub byte-groups : (r : Raster) (o : ℕ) → o < bytes r → 0 < r.groups
byte-groups r o h = factor-left r.groups (r.planes * 2) (byte-line r o h)

pub byte-planes : (r : Raster) (o : ℕ) → o < bytes r → 0 < r.planes
byte-planes r o h = factor-left r.planes 2 (factor-right r.groups (r.planes * 2) (byte-line r o h))

-- ---- rows and columns

-- a column's word is of one of the scan line's groups
pub column-group : (r : Raster) (c : ℕ) → c < row_bytes r → c / 2 < r.groups
column-group r c h = omega arith

-- the scan line of a plane row
pub row_line : (r : Raster) (n : ℕ) → n < rows r → n / r.planes < r.lines
row_line r n h = (div-lt_iff_lt-mul (row-planes r n h)).1 h

-- a byte of a plane row lies within the raster
pub row_within : (r : Raster) (n c : ℕ) → n < rows r → c < row_bytes r → row_offset r n c < bytes r
unfolding row_offset word_offset group_offset
row_within r n c h k =
    let P : ℕ = r.planes in
    let G : ℕ = r.groups in
    let low : n % P * 2 + c % 2 < P * 2 = digits_lt (mod-lt n (row-planes r n h)) (omega arith) in
    let line : c / 2 * (P * 2) + (n % P * 2 + c % 2) < G * (P * 2) = digits_lt (column-group r c k) low in
    let all : n / P * line_bytes r + (c / 2 * (P * 2) + (n % P * 2 + c % 2)) < bytes r =
    digits_lt (row_line r n h) line in
    omega (arith, add-mul (n / P * G) (c / 2) (P * 2), mul_assoc (n / P) G (P * 2))

-- a byte of the raster is one of a plane row
pub row_at-lt : (r : Raster) (o : ℕ) → o < bytes r → row_at r o < rows r
unfolding row_at
row_at-lt r o h = digits_lt ((div-lt_iff_lt-mul (byte-line r o h)).1 h) (mod-lt (o / 2) (byte-planes r o h))

pub column_at-lt : (r : Raster) (o : ℕ) → o < bytes r → column_at r o < row_bytes r
unfolding column_at
column_at-lt r o h =
    let two : 0 < r.planes * 2 = omega (arith, byte-planes r o h) in
    digits_lt ((div-lt_iff_lt-mul two).1 (mod-lt o (byte-line r o h))) (omega arith)

-- the row of a plane in a scan line is one of the raster's
pub row_is : (r : Raster) (y p : ℕ) → y < r.lines → p < r.planes → y * r.planes + p < rows r
row_is r y p h l = digits_lt h l

-- it begins with the plane's word in the scan line's first group
pub row_begins : (r : Raster) (y p : ℕ) → p < r.planes → row_offset r (y * r.planes + p) 0 ≡ y * line_bytes r + p * 2
unfolding row_offset word_offset group_offset
row_begins r y p h =
    ap₂ (λ (a b : ℕ). (a * r.groups + 0 / 2) * (r.planes * 2) + b * 2 + 0 % 2) (digits_div y h) (digits_mod y h)
    ∙ omega (arith, mul_assoc y r.groups (r.planes * 2))
