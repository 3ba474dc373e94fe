-- Laws of offsets: each byte of a raster is one byte of one plane row.
use mathlib.Core.Path.{◌≡◌, ap, ◌∙◌}
use Prim.Native.Nat.{ℕ, ◌+◌, ◌*◌, ◌/◌, ◌%◌, ◌<◌}
use native.Mathlib.Nat.{mul_assoc, add-mul, div-add-mod', mod-lt}
use native.Mathlib.Omega.{arith}
use lib.Arith.{digits_lt, digits_div, digits_mod, mod-mul}
use Rattle.raster.specs.declared.Raster.{Raster}
use Rattle.raster.specs.Offsets.{group_offset, word_offset}
use Rattle.raster.specs.Shape.{row_bytes, line_bytes, bytes}
use Rattle.raster.specs.PlaneRows.{row_offset, row_at, column_at}
use Rattle.raster.proofs.Places.{column-group, byte-groups, byte-planes}

-- ---- an offset as digits: scan line y, group g of G, plane p of P, byte h of a word

abbrev place : ℕ → ℕ → ℕ → ℕ → ℕ → ℕ → ℕ
place G P y g p h = (y * G + g) * (P * 2) + p * 2 + h

module _ (G P y g p h : ℕ) (hg : g < G) (hp : p < P) (hh : h < 2) where
  words : place G P y g p h ≡ ((y * G + g) * P + p) * 2 + h
  words = omega (arith, mul_assoc (y * G + g) P 2)

  lines : place G P y g p h ≡ y * (G * (P * 2)) + (g * (P * 2) + (p * 2 + h))
  lines = omega (arith, add-mul (y * G) g (P * 2), mul_assoc y G (P * 2))

  in-line : g * (P * 2) + (p * 2 + h) < G * (P * 2)
  in-line = digits_lt hg (digits_lt hp hh)

  line-is : place G P y g p h / (G * (P * 2)) ≡ y
  line-is = ap (λ (o : ℕ). o / (G * (P * 2))) lines ∙ digits_div y in-line

  group-is : place G P y g p h % (G * (P * 2)) / (P * 2) ≡ g
  group-is =
      ap (λ (o : ℕ). o % (G * (P * 2)) / (P * 2)) lines
      ∙ ap (λ (o : ℕ). o / (P * 2)) (digits_mod y in-line)
      ∙ digits_div g (digits_lt hp hh)

  plane-is : place G P y g p h / 2 % P ≡ p
  plane-is =
      ap (λ (o : ℕ). o / 2 % P) words
      ∙ ap (λ (o : ℕ). o % P) (digits_div ((y * G + g) * P + p) hh)
      ∙ digits_mod (y * G + g) hp

  byte-is : place G P y g p h % 2 ≡ h
  byte-is = ap (λ (o : ℕ). o % 2) words ∙ digits_mod ((y * G + g) * P + p) hh

place-digits : (G P o : ℕ) → 0 < G → 0 < P
    → place G P (o / (G * (P * 2))) (o % (G * (P * 2)) / (P * 2)) (o / 2 % P) (o % 2) ≡ o
place-digits G P o h_g h_p =
    let L : ℕ = G * (P * 2) in
    let q : ℕ = o / (P * 2) % G in
    let two : 0 < P * 2 = omega arith in
    let f : o % L ≡ q * (P * 2) + o % (P * 2) = mod-mul o h_g two in
    let e : o % L / (P * 2) ≡ q = ap (λ (m : ℕ). m / (P * 2)) f ∙ digits_div q (mod-lt o two) in
    let w = mod-mul o {m = P} {c = 2} h_p (omega arith) in
    rw e (omega (arith, add-mul (o / L * G) q (P * 2), mul_assoc (o / L) G (P * 2), div-add-mod' o L, f, w))

-- ---- the plane row and the column of an offset

module _ (r : Raster) (n c : ℕ) (some : 0 < r.planes) (h : c < row_bytes r) where
  pub row_at-row_offset : row_at r (row_offset r n c) ≡ n
  unfolding row_offset word_offset group_offset row_at
  row_at-row_offset =
      let G : ℕ = r.groups in
      let P : ℕ = r.planes in
      let hp : n % P < P = mod-lt n some in
      let l = line-is G P (n / P) (c / 2) (n % P) (c % 2) (column-group r c h) hp (omega arith) in
      let p = plane-is G P (n / P) (c / 2) (n % P) (c % 2) (column-group r c h) hp (omega arith) in
      rw (l, p) (div-add-mod' n P)

  pub column_at-row_offset : column_at r (row_offset r n c) ≡ c
  unfolding row_offset word_offset group_offset column_at
  column_at-row_offset =
      let G : ℕ = r.groups in
      let P : ℕ = r.planes in
      let hp : n % P < P = mod-lt n some in
      let g = group-is G P (n / P) (c / 2) (n % P) (c % 2) (column-group r c h) hp (omega arith) in
      let b = byte-is G P (n / P) (c / 2) (n % P) (c % 2) (column-group r c h) hp (omega arith) in
      rw (g, b) (div-add-mod' c 2)

pub row_offset-at : (r : Raster) (o : ℕ) → o < bytes r → row_offset r (row_at r o) (column_at r o) ≡ o
unfolding row_offset word_offset group_offset row_at column_at
row_offset-at r o h =
    let G : ℕ = r.groups in
    let P : ℕ = r.planes in
    let hp : o / 2 % P < P = mod-lt (o / 2) (byte-planes r o h) in
    let hh : o % 2 < 2 = omega arith in
    rw (
      digits_div (o / line_bytes r) hp,
      digits_mod (o / line_bytes r) hp,
      digits_div (o % line_bytes r / (P * 2)) hh,
      digits_mod (o % line_bytes r / (P * 2)) hh,
    ) (place-digits G P o (byte-groups r o h) (byte-planes r o h))

-- byte c of plane p of scan line y
pub row_offset-plane : (r : Raster) (y p c : ℕ) → p < r.planes
    → row_offset r (y * r.planes + p) c ≡ word_offset r y (c / 2) p + c % 2
unfolding row_offset
row_offset-plane r y p c h = rw (digits_div y h, digits_mod y h)
