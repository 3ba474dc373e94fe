-- Laws of plane rows that stand evenly spaced: the image made from them.
use mathlib.Core.Path.{◌≡◌, sym, ap, ap₂, ◌∙◌}
use mathlib.Core.Bool.{Bool, true, false}
use mathlib.Core.List.{List, []}
use Prim.Native.Nat.{ℕ, ◌+◌, ◌-◌, ◌*◌, ◌/◌, ◌%◌, ◌≤◌, ◌<◌}
use native.Mathlib.Nat.{mul_assoc, add-mul, zero-mul, div-add-mod', mod-lt, mul-add-mod_self_right}
use native.Mathlib.Numerals.{add-one}
use native.Mathlib.Omega.{arith}
use lib.Arith.{digits_lt, digits_div, digits_mod}
use lib.Dec.{eqb}
use lib.ListN.{length, get_or, take, drop}
use lib.Seq.{get_or-drop}
use Rattle.lists.proofs.Tabulate.{get_or-tabulate, tabulate-ext, tabulate-take}
use Rattle.raster.specs.declared.Raster.{Raster}
use Rattle.raster.specs.Shape.{row_bytes, rows, line_bytes, bytes}
use Rattle.raster.specs.PlaneRows.{row_at, column_at, image_of, with_row, put_rows}
use Rattle.raster.specs.Joined.{joined_byte, joined_image, interleaved, planes_of, plane_bytes, Interleaved}
use Rattle.raster.proofs.InterleaveLines.{interleaved_lines}
use Rattle.raster.specs.Spaced.{start_at, spaced_byte, spaced_image, Spaced, row_tails}
use Rattle.raster.proofs.Joined.{interleaved-line, swap, row_ends}
use Rattle.raster.proofs.Places.{row_is, byte-planes, row_at-lt}

-- the row of plane p in scan line y
pub start-digits : (planes step gap y p : ℕ) → p < planes → start_at planes step gap (y * planes + p) ≡ y * step + p * gap
start-digits planes step gap y p h =
    ap₂ (λ (a b : ℕ). a * step + b * gap) (digits_div y h) (digits_mod y h)

-- it ends inside
pub row_inside : (r : Raster) (step gap y p : ℕ) → Spaced r step gap → y < r.lines → p < r.planes
    → y * step + p * gap + row_bytes r ≤ bytes r
row_inside r step gap y p s h l =
    omega (arith, start-digits r.planes step gap y p l, s.within (y * r.planes + p) (row_is r y p h l))

-- ---- where a byte of the raster stands

module _ (r : Raster) (o : ℕ) where
  abbrev P : ℕ
  P = r.planes

  abbrev y : ℕ
  y = o / line_bytes r

  abbrev x : ℕ
  x = o % line_bytes r

  words-before : y * line_bytes r ≡ y * r.groups * P * 2
  words-before = sym (mul_assoc y r.groups (P * 2)) ∙ sym (mul_assoc (y * r.groups) P 2)

  offset-is : y * r.groups * P * 2 + x ≡ o
  offset-is = ap (λ (i : ℕ). i + x) (sym words-before) ∙ div-add-mod' o (line_bytes r)

  half_is : o / 2 ≡ y * r.groups * P + x / 2
  half_is = omega (arith, offset-is)

  plane-is : o / 2 % P ≡ x / 2 % P
  plane-is = ap (λ (i : ℕ). i % P) half_is ∙ mul-add-mod_self_right (y * r.groups) P (x / 2)

  -- in the scan line's plane rows, as `interleaved` says
  spaced-offset : (step gap : ℕ) → o < bytes r
      → y * step + interleaved P gap x ≡ start_at P step gap (row_at r o) + column_at r o
  unfolding row_at column_at
  spaced-offset step gap h =
      let low : o % 2 ≡ x % 2 = omega (arith, offset-is) in
      omega (
        arith,
        low,
        ap (λ (i : ℕ). i * gap) plane-is,
        start-digits P step gap y (o / 2 % P) (mod-lt (o / 2) (byte-planes r o h)),
      )

-- ---- scan lines interleaved

lines-spaced : (r : Raster) (step gap : ℕ) (list : List ℕ)
    → interleaved_lines list step r.lines r.planes gap (line_bytes r) ≡ spaced_image r step gap list
unfolding spaced_image
lines-spaced r step gap list =
    tabulate-ext (bytes r) _ (spaced_byte r step gap list)
    (λ o h. ap (λ (i : ℕ). get_or list i 0) (spaced-offset r o step gap h))

-- of a raster that is interleaved, in the numbers that `interleave_lines` takes
module _ (r : Raster) (w : Interleaved r) where
  abbrev four : Bool
  four = eqb r.planes 4

  abbrev eights : ℕ
  eights = r.groups / 4

  some-planes : 0 < r.planes
  some-planes = go four w.planes
    where
      go : (b : Bool) → r.planes ≡ planes_of b → 0 < r.planes
      go true e = omega arith
      go false e = omega arith

  pub interleaved-within : (step gap size : ℕ) → Spaced r step gap → bytes r ≤ size
      → (y : ℕ) → y < r.lines → y * step + (planes_of four - 1) * gap + eights * 8 ≤ size
  interleaved-within step gap size s h y l =
      let last : ℕ = r.planes - 1 in
      let one : last < r.planes = omega (arith, some-planes) in
      omega (
        arith,
        ap (λ (p : ℕ). (p - 1) * gap) w.planes,
        w.eights,
        start-digits r.planes step gap y last one,
        s.within (y * r.planes + last) (digits_lt l one),
      )

  pub interleaved-spaced : (step gap : ℕ) (list : List ℕ)
      → interleaved_lines list step r.lines (planes_of four) gap (eights * plane_bytes four)
      ≡ spaced_image r step gap list
  interleaved-spaced step gap list =
      ap₂ (λ (p l : ℕ). interleaved_lines list step r.lines p gap l) (sym w.planes) (interleaved-line r w)
      ∙ lines-spaced r step gap list

-- ---- one plane: the rows as they stand

pub one-spaced : (r : Raster) (step gap : ℕ) (list : List ℕ) → Spaced r step gap → r.planes ≡ 1 → bytes r ≤ length list
    → take (bytes r) list ≡ spaced_image r step gap list
one-spaced r step gap list s one h =
    sym (tabulate-take (bytes r) list 0 h)
    ∙ tabulate-ext (bytes r) (λ o. get_or list o 0)
    (λ o. get_or list (o / line_bytes r * step + interleaved r.planes gap (o % line_bytes r)) 0)
    (λ o b. ap (λ (i : ℕ). get_or list i 0) (same o))
    ∙ lines-spaced r step gap list
  where
    plain : (x : ℕ) → interleaved 1 gap x ≡ x
    plain x =
        let none : x / 2 % 1 ≡ 0 = omega arith in
        omega (arith, ap (λ (i : ℕ). i * gap) none, zero-mul gap)

    line : line_bytes r ≡ step
    line = ap (λ (p : ℕ). r.groups * (p * 2)) one ∙ sym (s.single one)

    same : (o : ℕ) → o ≡ o / line_bytes r * step + interleaved r.planes gap (o % line_bytes r)
    same o =
        sym (div-add-mod' o (line_bytes r))
        ∙ ap₂ (λ (l x : ℕ). o / line_bytes r * l + x) line
        (sym (ap (λ (p : ℕ). interleaved p gap (o % line_bytes r)) one ∙ plain (o % line_bytes r)))

-- ---- row by row

pub image-spaced : (r : Raster) (step gap : ℕ) (list : List ℕ)
    → image_of r (row_tails r step gap list) ≡ spaced_image r step gap list
unfolding image_of spaced_image
image-spaced r step gap list =
    tabulate-ext (bytes r) _ (spaced_byte r step gap list)
    (λ o h. ap (λ (row : List ℕ). get_or row (column_at r o) 0)
    (get_or-tabulate (rows r) (λ n. drop (start_at r.planes step gap n) list) (row_at r o) [] (row_at-lt r o h))
    ∙ get_or-drop (start_at r.planes step gap (row_at r o)) list (column_at r o) 0)

-- a turn of the loop that puts each of them
pub tails-turn : (r : Raster) (step gap : ℕ) (list area₀ area : List ℕ) (n at : ℕ) (part : List ℕ) → n < rows r
    → at ≡ start_at r.planes step gap n
    → area ≡ put_rows r n (row_tails r step gap list) area₀ → part ≡ drop at list
    → with_row area r n part ≡ put_rows r (n + 1) (row_tails r step gap list) area₀
unfolding put_rows
tails-turn r step gap list area₀ area n at part h place is e =
    let tail : part ≡ get_or (row_tails r step gap list) n [] =
    e
    ∙ ap (λ (i : ℕ). drop i list) place
    ∙ sym (get_or-tabulate (rows r) (λ n. drop (start_at r.planes step gap n) list) n [] h) in
    ap₂ (λ (a row : List ℕ). with_row a r n row) is tail
    ∙ ap (λ (k : ℕ). put_rows r k (row_tails r step gap list) area₀) (sym (add-one n))

-- ---- scan line by scan line

rows-start : (r : Raster) (n : ℕ) → start_at r.planes (line_bytes r) (row_bytes r) n ≡ n * row_bytes r
rows-start r n =
    let P : ℕ = r.planes in
    let w : ℕ = row_bytes r in
    ap (λ (l : ℕ). n / P * l + n % P * w) (sym (swap P r.groups))
    ∙ ap (λ (i : ℕ). i + n % P * w) (sym (mul_assoc (n / P) P w))
    ∙ sym (add-mul (n / P * P) (n % P) w)
    ∙ ap (λ (i : ℕ). i * w) (div-add-mod' n P)

pub joined-spaced : (r : Raster) → Spaced r (line_bytes r) (row_bytes r)
joined-spaced r =
    record {
      within = λ n h. omega (arith, rows-start r n, row_ends r n h);
      single = λ one. ap (λ (p : ℕ). r.groups * (p * 2)) one;
    }

pub spaced-joined : (r : Raster) (list : List ℕ)
    → spaced_image r (line_bytes r) (row_bytes r) list ≡ joined_image r list
unfolding spaced_image joined_image
spaced-joined r list =
    tabulate-ext (bytes r) (spaced_byte r (line_bytes r) (row_bytes r) list) (joined_byte r list)
    (λ o h. ap (λ (i : ℕ). get_or list (i + column_at r o) 0) (rows-start r (row_at r o)))
