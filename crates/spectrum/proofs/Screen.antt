-- Laws of the screen of an SPC file.
use mathlib.Core.Path.{◌≡◌, refl, sym, ap, ap₂, ◌∙◌}
use mathlib.Core.List.{List, ◌++◌}
use Prim.Native.Nat.{ℕ, zero, suc, ◌+◌, ◌-◌, ◌*◌, ◌/◌, ◌%◌, ◌≤◌, ◌<◌}
use native.Mathlib.Omega.{arith}
use lib.Arith.{digits_div, digits_mod}
use lib.ListN.{length, get_or, take, drop, replicate, length-replicate, length-drop, length-append, get_or-replicate}
use lib.ListN.{get_or-append}
use lib.Seq.{get_or-append-add, take_all, ext_get_or}
use borrow.Author.Tests.{le-leb}
use borrow.Rule.Slice.PartMut.{put_mid}
use Rattle.lists.specs.Over.{over}
use Rattle.lists.proofs.Over.{length_over}
use Rattle.lists.proofs.Parts.{tail-part, over-append}
use Rattle.lists.proofs.Tabulate.{tabulate-ext}
use Rattle.raster.specs.Offsets.{group_offset, word_offset}
use Rattle.raster.specs.Shape.{line_bytes, bytes}
use Rattle.raster.specs.PlaneRows.{row_offset, plane_row, plane_rows, image_of}
use Rattle.planar.specs.Planar.{planar_row, planar_image, put_planar}
use Rattle.raster.proofs.PlaneRows.{length-plane_row, get_or-plane_row, image-of-rows}
use Rattle.planar.proofs.Planar.{length-planar_image, row-of-planes}
use Rattle.resolution.specs.declared.Resolution.TheVariants.{Low}
use Rattle.resolution.specs.Shapes.{screen_bytes, raster_of}
use Rattle.spectrum.specs.Screen.{shown_lines, plane_bytes, line_zero, spc_screen, ScreenOf}

-- line 0 put, and the other lines behind it
pub screen-put : (planes screen first last : List ℕ) → plane_bytes ≤ length planes → screen_bytes ≤ length screen
    → first ≡ over line_zero screen
    → last
    ≡ put_planar shown_lines planes (take (length first - line_bytes shown_lines) (drop (line_bytes shown_lines) first))
    → put_mid (line_bytes shown_lines) (length first - line_bytes shown_lines) first last ≡ over (spc_screen planes) screen
unfolding spc_screen
screen-put planes screen first last many room is e =
    let part : List ℕ = take (length first - 160) (drop 160 first) in
    let zero : length line_zero ≡ 160 = length-replicate {A = ℕ} 160 0 in
    let size : length first ≡ length screen = ap length is ∙ length_over line_zero screen (omega arith) in
    let long : length part ≡ length first - 160 = ap length (tail-part first 160) ∙ length-drop 160 first in
    let put : last ≡ over (planar_image shown_lines planes) part =
    e ∙ rw (le-leb (bytes shown_lines) (length part) (omega arith), le-leb (bytes shown_lines) (length planes) many) in
    over-append screen line_zero (planar_image shown_lines planes) first last 160 is zero put

-- ---- the plane rows

-- of line 0
module _ (p : ℕ) (h : p < 4) where
  top-offset : (c : ℕ) → c < 40 → row_offset (raster_of Low) p c < 160
  unfolding row_offset word_offset group_offset
  top-offset c k = omega arith

  top-row : (below : List ℕ) → plane_row (line_zero ++ below) (raster_of Low) p ≡ replicate 40 0
  top-row below =
      let s : List ℕ = line_zero ++ below in
      let size : length (plane_row s (raster_of Low) p) ≡ 40 = length-plane_row s (raster_of Low) p in
      ext_get_or 0 (plane_row s (raster_of Low) p) (replicate 40 0) size
      (λ c l.
      let k : c < 40 = omega arith in
      let o : ℕ = row_offset (raster_of Low) p c in
      get_or-plane_row s (raster_of Low) p c k
      ∙ get_or-append line_zero below 0 o (top-offset c k)
      ∙ get_or-replicate 160 o 0 0 (top-offset c k)
      ∙ sym (get_or-replicate 40 c 0 0 k))

-- of the lines below it
module _ (y p : ℕ) (h : p < 4) where
  below-offset : (c : ℕ) → row_offset (raster_of Low) ((y + 1) * 4 + p) c ≡ 160 + row_offset shown_lines (y * 4 + p) c
  unfolding row_offset word_offset group_offset
  below-offset c = omega arith

  below_row : (below : List ℕ) → plane_row (line_zero ++ below) (raster_of Low) ((y + 1) * 4 + p)
      ≡ plane_row below shown_lines (y * 4 + p)
  unfolding plane_row
  below_row below =
      tabulate-ext 40 _ _
      (λ c k.
      ap (λ (o : ℕ). get_or (line_zero ++ below) o 0) (below-offset c)
      ∙ get_or-append-add line_zero below (row_offset shown_lines (y * 4 + p) c) 0)

pub screen-of : (planes : List ℕ) → plane_bytes ≤ length planes → ScreenOf planes (spc_screen planes)
unfolding spc_screen planar_row
screen-of planes full =
    record {
      size = length-append line_zero (planar_image shown_lines planes)
          ∙ omega (arith, length-replicate {A = ℕ} 160 0, length-planar_image shown_lines planes);
      top = λ p h. top-row p h (planar_image shown_lines planes);
      below = λ y p k h.
          below_row y p h (planar_image shown_lines planes)
          ∙ row-of-planes shown_lines planes full (y * 4 + p) (omega arith)
          ∙ ap₂ (λ (q l : ℕ). take 40 (drop ((q * 199 + l) * 40) planes)) (digits_mod y h) (digits_div y h);
    }

-- a screen has no other plane rows
module _ (planes s t : List ℕ) (a : ScreenOf planes s) (b : ScreenOf planes t) where
  row_same : (n : ℕ) → n < 800 → plane_row s (raster_of Low) n ≡ plane_row t (raster_of Low) n
  row_same n h = by-line (n / 4) refl
    where
      p : ℕ
      p = n % 4

      by-line : (l : ℕ) → n / 4 ≡ l → plane_row s (raster_of Low) n ≡ plane_row t (raster_of Low) n
      by-line zero e =
          let is : n ≡ p = omega arith in
          ap (plane_row s (raster_of Low)) is
          ∙ a.top p (omega arith)
          ∙ sym (b.top p (omega arith))
          ∙ sym (ap (plane_row t (raster_of Low)) is)
      by-line (suc y) e =
          let is : n ≡ (y + 1) * 4 + p = omega arith in
          ap (plane_row s (raster_of Low)) is
          ∙ a.below y p (omega arith) (omega arith)
          ∙ sym (b.below y p (omega arith) (omega arith))
          ∙ sym (ap (plane_row t (raster_of Low)) is)

  pub screen-same : s ≡ t
  unfolding plane_rows
  screen-same =
      sym (whole s a.size)
      ∙ ap (image_of (raster_of Low)) (tabulate-ext 800 (plane_row s (raster_of Low)) (plane_row t (raster_of Low)) row_same)
      ∙ whole t b.size
    where
      whole : (u : List ℕ) → length u ≡ 32000 → image_of (raster_of Low) (plane_rows u (raster_of Low)) ≡ u
      whole u e = image-of-rows (raster_of Low) u (omega arith) ∙ take_all 32000 u (omega arith)
