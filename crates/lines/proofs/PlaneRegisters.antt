-- Laws of registers from plane rows.
use mathlib.Core.Path.{◌≡◌, sym, ap, ap₂, ◌∙◌}
use mathlib.Core.List.{List}
use Prim.Native.Nat.{ℕ, ◌+◌, ◌*◌, ◌/◌, ◌%◌, ◌^◌, ◌<◌}
use native.Mathlib.Nat.{add-zero}
use native.Mathlib.Omega.{arith}
use lib.Arith.{digits_lt, digits_div, digits_mod}
use lib.ListN.{get_or}
use Rattle.lists.proofs.Sum.{sum-ext}
use Rattle.words.specs.Word.{word_at}
use Rattle.raster.specs.declared.Raster.{Raster}
use Rattle.raster.specs.Offsets.{word_offset}
use Rattle.raster.specs.PlaneRows.{plane_row}
use Rattle.raster.specs.Shape.{rows}
use Rattle.raster.proofs.Offsets.{row_offset-plane}
use Rattle.raster.proofs.PlaneRows.{get_or-plane_row, plane_row-front}
use Rattle.resolution.specs.declared.Resolution.{Resolution}
use Rattle.resolution.specs.Shapes.{screen_bytes, width_of, height_of, planes_of, raster_of}
use Rattle.resolution.proofs.Rasters.{raster-bytes}
use Rattle.lines.specs.Registers.{pixel_bit, register, rows_register}
use Rattle.lines.proofs.Places.{pixel-group}

-- ---- a word of a raster, from its plane row

module _ (r : Raster) (y g p : ℕ) (hp : p < r.planes) (hg : g < r.groups) where
  byte-of-row : (s : List ℕ) (h : ℕ) → h < 2
      → get_or s (word_offset r y g p + h) 0 ≡ get_or (plane_row s r (y * r.planes + p)) (g * 2 + h) 0
  byte-of-row s h hh =
      ap₂ (λ (i j : ℕ). get_or s (word_offset r y i p + j) 0) (sym (digits_div g hh)) (sym (digits_mod g hh))
      ∙ ap (λ (o : ℕ). get_or s o 0) (sym (row_offset-plane r y p (g * 2 + h) hp))
      ∙ sym (get_or-plane_row s r (y * r.planes + p) (g * 2 + h) (omega arith))

  word-of-row : (s : List ℕ) → word_at s (word_offset r y g p) ≡ word_at (plane_row s r (y * r.planes + p)) (g * 2)
  unfolding word_at
  word-of-row s =
      ap₂ (λ (i j : ℕ). i * 256 + j)
      (ap (λ (o : ℕ). get_or s o 0) (sym (add-zero (word_offset r y g p)))
      ∙ byte-of-row s 0 (omega arith)
      ∙ ap (λ (o : ℕ). get_or (plane_row s r (y * r.planes + p)) o 0) (add-zero (g * 2)))
      (byte-of-row s 1 (omega arith))

-- ---- registers

-- plane row p of scan line y
abbrev row_of : List ℕ → Resolution → ℕ → ℕ → List ℕ
row_of s r y p = plane_row s (raster_of r) (y * planes_of r + p)

pub register-of-rows : (s : List ℕ) (r : Resolution) (x y : ℕ) → x < width_of r
    → register s r x y ≡ rows_register r (λ p. plane_row s (raster_of r) (y * planes_of r + p)) x
unfolding register
register-of-rows s r x y h =
    sum-ext (planes_of r) _ (λ p. pixel_bit (word_at (row_of s r y p) (x / 16 * 2)) (x % 16) * 2 ^ p)
    (λ p hp.
    ap (λ (w : ℕ). pixel_bit w (x % 16) * 2 ^ p) (word-of-row (raster_of r) y (x / 16) p hp (pixel-group r x h) s))

-- equal plane rows give equal registers
registers-ext : (s t : List ℕ) (r : Resolution) (x y : ℕ) → x < width_of r → y < height_of r
    → ((n : ℕ) → n < rows (raster_of r) → plane_row s (raster_of r) n ≡ plane_row t (raster_of r) n)
    → register s r x y ≡ register t r x y
registers-ext s t r x y hx hy e =
    register-of-rows s r x y hx
    ∙ sum-ext (planes_of r) _ (λ p. pixel_bit (word_at (row_of t r y p) (x / 16 * 2)) (x % 16) * 2 ^ p)
    (λ p hp.
    ap (λ (l : List ℕ). pixel_bit (word_at l (x / 16 * 2)) (x % 16) * 2 ^ p) (e (y * planes_of r + p) (digits_lt hy hp)))
    ∙ sym (register-of-rows t r x y hx)

-- screens that agree in their first 32,000 bytes have the same registers
pub register-front : (s t : List ℕ) (same : (o : ℕ) → o < screen_bytes → get_or s o 0 ≡ get_or t o 0)
    (r : Resolution) (x y : ℕ) → x < width_of r → y < height_of r → register s r x y ≡ register t r x y
register-front s t same r x y hx hy =
    registers-ext s t r x y hx hy
    (plane_row-front s t (raster_of r) (λ o h. same o (omega (arith, raster-bytes r))))
