-- Laws of byte columns: where they lie, and the registers that their bytes make.
use Rattle.std.specs.Int.{w64, to_le_bytes}
use mathlib.Core.Path.{◌≡◌, refl, sym, ap, ap₂, ◌∙◌}
use mathlib.Core.List.{List}
use Prim.Native.Nat.{ℕ, zero, suc, ◌+◌, ◌-◌, ◌*◌, ◌/◌, ◌%◌, ◌^◌, ◌≤◌, ◌<◌}
use native.Mathlib.Nat.{not-suc-le-zero, le_of_suc-le-suc, add-zero, zero-add, add_assoc, div-one, div-add-mod'}
use native.Mathlib.Omega.{arith}
use lib.ListN.{length, get_or, take, take-append-drop}
use lib.Pow.{shr-shr, pow_mono}
use lib.Arith.{digits_div, digits_mod}
use Rattle.lists.specs.Bytes.{Bytes}
use Rattle.lists.specs.Digits.{from_bits, from_bytes}
use Rattle.lists.specs.Over.{over_at}
use Rattle.lists.specs.Sum.{sum}
use Rattle.lists.specs.Tabulate.{tabulate}
use Rattle.lists.proofs.Digits.{from_bits-lt, sum_lt}
use Rattle.lists.proofs.Over.{over_at-tabulate-done}
use Rattle.lists.proofs.Sum.{sum-ext, sum-const, sum-add, sum-mul}
use Rattle.lists.proofs.Tabulate.{tabulate-ext}
use Rattle.resolution.specs.declared.Resolution.{Resolution}
use Rattle.resolution.specs.declared.Resolution.TheVariants.{Low, Medium, High}
use Rattle.resolution.specs.Shapes.{width_of, planes_of, groups_of, line_bytes_of, raster_of}
use Rattle.words.specs.Word.{word_bytes}
use Rattle.raster.specs.Offsets.{group_offset, word_offset}
use Rattle.lines.specs.Registers.{register, scan_line, word_of}
use Rattle.lines.proofs.Registers.{register-byte}
use Rattle.lines.specs.Columns.{column_register, group_register, groups_line, plane_byte}
use Rattle.lines.specs.Columns.{spread, spread_column, byte_of}
use Rattle.lines.proofs.Pieces.{over_at-piece}

-- ---- offsets

-- where plane 0's byte of column h in scan line y stands
abbrev column_offset : Resolution → ℕ → ℕ → ℕ
column_offset r y h = y * line_bytes_of r + h / 2 * (planes_of r * 2) + h % 2

-- plane p's byte stands p words further on
plane-offset : (r : Resolution) (y h p : ℕ) → word_offset (raster_of r) y (h / 2) p + h % 2 ≡ column_offset r y h + p * 2
unfolding word_offset group_offset
plane-offset Low y h p = omega arith
plane-offset Medium y h p = omega arith
plane-offset High y h p = omega arith

-- ---- registers

-- of x only the place in the column counts
column_register-mod : (s : List ℕ) (at planes x y : ℕ) → x % 8 ≡ y % 8
    → column_register s at planes x ≡ column_register s at planes y
unfolding column_register
column_register-mod s at planes x y e =
    ap (λ (k : ℕ). sum planes (λ p. get_or s (at + p * 2) 0 / 2 ^ (7 - k) % 2 * 2 ^ p)) e

-- a pixel's register from the bytes of its column
column_register-register : (s : List ℕ) (r : Resolution) (x y : ℕ) → Bytes s
    → column_register s (column_offset r y (x / 8)) (planes_of r) x ≡ register s r x y
unfolding column_register
column_register-register s r x y bytes =
    let h : ℕ = x / 8 in
    let k : ℕ = x % 8 in
    sum-ext (planes_of r) _ (λ p. get_or s (word_offset (raster_of r) y (h / 2) p + h % 2) 0 / 2 ^ (7 - k) % 2 * 2 ^ p)
    (λ p hp. ap (λ (o : ℕ). get_or s o 0 / 2 ^ (7 - k) % 2 * 2 ^ p) (sym (plane-offset r y h p)))
    ∙ sym (register-byte s r h k y bytes (omega arith))
    ∙ ap (λ (n : ℕ). register s r n y) (div-add-mod' x 8)

-- the groups of a scan line are the scan line
pub groups_line-scan_line : (s : List ℕ) (r : Resolution) (y : ℕ) → Bytes s
    → groups_line s (y * line_bytes_of r) (planes_of r) (groups_of r) ≡ scan_line s r y
unfolding groups_line scan_line
groups_line-scan_line s r y bytes =
    let p : ℕ = planes_of r in
    let f : ℕ → ℕ = λ x. group_register s (y * line_bytes_of r + x / 16 * (p * 2)) p (x % 16) in
    ap (λ (n : ℕ). tabulate n f) (groups-width r)
    ∙ tabulate-ext (width_of r) f (λ x. register s r x y)
    (λ x h.
    let g : x / 16 ≡ x / 8 / 2 = omega arith in
    let i : x % 16 / 8 ≡ x / 8 % 2 = omega arith in
    let k : x % 16 % 8 ≡ x % 8 = omega arith in
    ap₂ (λ (m n : ℕ). column_register s (y * line_bytes_of r + m * (p * 2) + n) p (x % 16)) g i
    ∙ column_register-mod s (column_offset r y (x / 8)) p (x % 16) x k
    ∙ column_register-register s r x y bytes)
  where
    groups-width : (r : Resolution) → groups_of r * 16 ≡ width_of r
    groups-width Low = refl
    groups-width Medium = refl
    groups-width High = refl

-- ---- a column's registers, one to a byte

byte_of-bytes : (n : ℕ) (r : ℕ → ℕ) → ((j : ℕ) → r j < 256) → (k : ℕ) → k < n → byte_of (from_bytes n r) k ≡ r k
unfolding from_bytes byte_of
byte_of-bytes zero r h k l = absurd (not-suc-le-zero l)
byte_of-bytes (suc n) r h zero l = omega (arith, h 0)
byte_of-bytes (suc n) r h (suc k) l =
    let v : ℕ = from_bytes (suc n) r in
    let e : suc k * 8 ≡ 8 + k * 8 = omega arith in
    let rest : v / 2 ^ 8 ≡ from_bytes n (λ j. r (suc j)) = omega (arith, h 0) in
    ap (λ (m : ℕ). v / 2 ^ m % 256) e
    ∙ ap (λ (m : ℕ). m % 256) (sym (shr-shr v 8 (k * 8)))
    ∙ ap (λ (m : ℕ). m / 2 ^ (k * 8) % 256) rest
    ∙ byte_of-bytes n (λ j. r (suc j)) (λ j. h (suc j)) k (le_of_suc-le-suc l)

-- planes added up byte by byte
from_bytes-sum : (n planes : ℕ) (b : ℕ → ℕ → ℕ)
    → sum planes (λ p. from_bytes n (b p) * 2 ^ p) ≡ from_bytes n (λ j. sum planes (λ p. b p j * 2 ^ p))
unfolding from_bytes
from_bytes-sum zero planes b = sum-ext planes _ (λ p. 0) (λ p h. omega arith) ∙ omega (arith, sum-const planes 0)
from_bytes-sum (suc n) planes b =
    let up : ℕ → ℕ = λ p. from_bytes n (λ j. b p (suc j)) * 2 ^ p in
    let low : ℕ → ℕ = λ p. b p 0 * 2 ^ p in
    sum-ext planes _ (λ p. 256 * up p + low p) (λ p h. omega arith)
    ∙ sum-add planes (λ p. 256 * up p) low
    ∙ ap (λ (m : ℕ). m + sum planes low) (sum-mul planes 256 up)
    ∙ omega (arith, from_bytes-sum n planes (λ p j. b p (suc j)))

from_bytes-eight : (r : ℕ → ℕ)
    → r 0 + r 1 * 256 + r 2 * 65536 + r 3 * 16777216
    + r 4 * 4294967296 + r 5 * 1099511627776 + r 6 * 281474976710656 + r 7 * 72057594037927936
    ≡ from_bytes 8 r
unfolding from_bytes
from_bytes-eight r = omega arith

-- pixel j's bit of a byte
abbrev bit_of : ℕ → ℕ → ℕ
bit_of b j = b / 2 ^ (7 - j) % 2

spread-bytes : (b : ℕ) → spread b ≡ from_bytes 8 (bit_of b)
unfolding spread
spread-bytes b = from_bytes-eight (bit_of b)

-- byte k is the register of pixel k
byte_of-column : (s : List ℕ) (at planes k : ℕ) → planes ≤ 4 → k < 8
    → byte_of (spread_column s at planes) k ≡ column_register s at planes k
unfolding spread_column column_register
byte_of-column s at planes k four l =
    let b : ℕ → ℕ = λ p. get_or s (at + p * 2) 0 in
    let whole : ℕ → ℕ = λ j. sum planes (λ p. bit_of (b p) j * 2 ^ p) in
    let e : sum planes (λ p. spread (b p) * 2 ^ p) ≡ from_bytes 8 whole =
    sum-ext planes _ (λ p. from_bytes 8 (bit_of (b p)) * 2 ^ p) (λ p h. ap (λ (m : ℕ). m * 2 ^ p) (spread-bytes (b p)))
    ∙ from_bytes-sum 8 planes (λ p. bit_of (b p)) in
    let most : 2 ^ planes ≤ 2 ^ 4 = pow_mono four in
    let same : k ≡ k % 8 = omega arith in
    ap (λ (v : ℕ). byte_of v k) e
    ∙ byte_of-bytes 8 whole (λ j. omega (arith, most, sum_lt planes (λ p. bit_of (b p) j) (λ p. omega arith))) k l
    ∙ ap whole same

-- a number's eight bytes, the lowest first
pub le-bytes : (v : ℕ) → to_le_bytes w64 v ≡ tabulate 8 (byte_of v)
unfolding tabulate byte_of
le-bytes v = rw (div-one v) refl

-- the bytes of a group's two columns, one after the other, are its registers
pub group-columns : (s out left right : List ℕ) (at planes x v w : ℕ) → planes ≤ 4 → x + 16 ≤ length out
    → v ≡ spread_column s at planes → w ≡ spread_column s (at + 1) planes
    → left ≡ over_at x (tabulate 8 (byte_of v)) out → right ≡ over_at (x + 8) (tabulate 8 (byte_of w)) left
    → right ≡ over_at x (tabulate 16 (group_register s at planes)) out
group-columns s out left right at planes x v w four room vs ws is then =
    let f : ℕ → ℕ = group_register s at planes in
    let first : left ≡ over_at x (take 8 (tabulate 16 f)) out =
    is
    ∙ ap (λ (n : ℕ). over_at n (tabulate 8 (byte_of v)) out) (sym (add-zero x))
    ∙ over_at-piece x 16 8 f (byte_of v) out out 0 (omega arith) (omega arith) (sym (take-append-drop x out))
    (λ i h.
    let o : at ≡ at + i / 8 = omega arith in
    ap (λ (n : ℕ). byte_of n i) vs
    ∙ byte_of-column s at planes i four h
    ∙ ap (λ (n : ℕ). column_register s n planes i) o
    ∙ ap (group_register s at planes) (sym (zero-add i)))
    in
    over_at-tabulate-done x 16 f out right 16 (omega arith)
    (then
    ∙ over_at-piece x 16 8 f (byte_of w) out left 8 (omega arith) (omega arith) first
    (λ i h.
    let o : at + 1 ≡ at + (8 + i) / 8 = omega arith in
    let k : i % 8 ≡ (8 + i) % 8 = omega arith in
    ap (λ (n : ℕ). byte_of n i) ws
    ∙ byte_of-column s (at + 1) planes i four h
    ∙ column_register-mod s (at + 1) planes i (8 + i) k
    ∙ ap (λ (n : ℕ). column_register s n planes (8 + i)) o))

-- ---- a plane's byte of eight registers

-- sixteen digits are two bytes
from_bits-halves : (f : ℕ → ℕ) → from_bits 16 f ≡ from_bits 8 f * 256 + from_bits 8 (λ k. f (8 + k))
unfolding from_bits
from_bits-halves f = omega arith

from_bits-first : (f : ℕ → ℕ) → from_bits 8 f ≡ from_bits 8 (λ k. f (0 * 8 + k))
unfolding from_bits
from_bits-first f = refl

-- byte h of a word that is made of digits
word_byte : (f : ℕ → ℕ) → ((k : ℕ) → f k < 2) → (h : ℕ) → h < 2
    → get_or (word_bytes (from_bits 16 f)) h 0 ≡ from_bits 8 (λ k. f (h * 8 + k))
unfolding word_bytes
word_byte f b zero l =
    ap (λ (w : ℕ). w / 256) (from_bits-halves f)
    ∙ digits_div (from_bits 8 f) (from_bits-lt 8 (λ k. f (8 + k)) (λ k. b (8 + k)))
    ∙ from_bits-first f
word_byte f b (suc zero) l =
    ap (λ (w : ℕ). w % 256) (from_bits-halves f)
    ∙ digits_mod (from_bits 8 f) (from_bits-lt 8 (λ k. f (8 + k)) (λ k. b (8 + k)))
word_byte f b (suc (suc h)) l = absurd (omega arith)

-- it is byte h of the word that group g of the registers makes
pub plane_byte-word : (line : List ℕ) (g p h : ℕ) → h < 2
    → plane_byte line (g * 16 + h * 8) p ≡ get_or (word_bytes (word_of line g p)) h 0
unfolding plane_byte word_of
plane_byte-word line g p h l =
    simp add_assoc (sym (word_byte (λ k. get_or line (g * 16 + k) 0 / 2 ^ p % 2) (λ k. omega arith) h l))

-- ---- the planes of a column, one by one

-- no byte of a spread byte is above 1
pub spread-le : (b : ℕ) → spread b ≤ 72340172838076673
unfolding spread
spread-le b = omega arith

-- a plane's share
pub plane-share : (v p : ℕ) → v ≤ 72340172838076673 → p < 4
    → (v * 2 ^ p % 2 ^ 64 ≡ v * 2 ^ p) × (v * 2 ^ p ≤ 578721382704613384)
plane-share v zero h l = (omega arith, omega arith)
plane-share v (suc zero) h l = (omega arith, omega arith)
plane-share v (suc (suc zero)) h l = (omega arith, omega arith)
plane-share v (suc (suc (suc zero))) h l = (omega arith, omega arith)
plane-share v (suc (suc (suc (suc p)))) h l = absurd (omega arith)
