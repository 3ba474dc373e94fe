-- Laws of colour words: what the tests show, a pixel's register and the place of its word, a scan line's words, and
-- that line and pixel agree.
use Rattle.std.specs.Prelude.{Ok}
use mathlib.Core.Path.{◌≡◌, refl, ap, ◌∙◌}
use mathlib.Core.Bool.{Bool, true, false, ◌||◌}
use mathlib.Core.List.{List}
use Prim.Native.Nat.{ℕ, ◌+◌, ◌-◌, ◌*◌, ◌/◌, ◌%◌, ◌≤◌, ◌<◌}
use native.Mathlib.Nat.{add-zero}
use native.Mathlib.Omega.{arith}
use lib.Dec.{ltb, leb, eqb}
use lib.ListN.{length, get_or, take}
use lib.Seq.{length-take-le}
use borrow.Author.Tests.{ltb-false, leb-false, eqb-false, le-ltb, lt-leb}
use Rattle.lists.specs.Over.{over}
use Rattle.lists.specs.Sum.{sum}
use Rattle.lists.specs.Tabulate.{tabulate}
use Rattle.lists.proofs.Cond.{or-false}
use Rattle.lists.proofs.Over.{over-whole, get_or-over-past}
use Rattle.lists.proofs.Tabulate.{length-tabulate, get_or-tabulate, tabulate-ext, tabulate-all}
use Rattle.outcome.specs.Outcome.{refuse_if, map, later}
use Rattle.outcome.specs.Refusal.{area_too_short, out_of_range}
use Rattle.outcome.proofs.Outcome.{passed}
use Rattle.words.specs.Word.{word_at}
use Rattle.raster.specs.Offsets.{group_offset, word_offset}
use Rattle.resolution.specs.declared.Resolution.TheVariants.{Low}
use Rattle.resolution.specs.Shapes.{screen_bytes, width_of, height_of}
use Rattle.lines.specs.Lines.{line_out}
use Rattle.lines.specs.Registers.{pixel_bit, register, scan_line}
use Rattle.lines.proofs.Registers.{register-lt, length-scan_line, get_or-scan_line}
use Rattle.spectrum_positions.specs.Positions.{columns, position_of}
use Rattle.spectrum_positions.proofs.Positions.{position-below}
use Rattle.spectrum_colour_map.specs.ColourMap.{palette_words}
use Rattle.spectrum_colours.specs.Colours.{line_words, shown_word, without_palette, pixel_word, line_of_words}

-- ---- the tests

-- both areas are there
pub areas-whole : (screen palettes : ℕ) → ltb screen screen_bytes || ltb palettes palette_words ≡ false
    → (screen_bytes ≤ screen) × (palette_words ≤ palettes)
areas-whole screen palettes e =
    let both = or-false (ltb screen screen_bytes) (ltb palettes palette_words) e in
    (ltb-false screen screen_bytes both.0, ltb-false palettes palette_words both.1)

-- the line is one of 1 to 199
pub palette-lines : (y : ℕ) → without_palette y ≡ false → (0 < y) × (y < height_of Low)
palette-lines y e =
    let both = or-false (eqb y 0) (leb (height_of Low) y) e in
    let first : y ≡ 0 → ⊥ = eqb-false y 0 both.0 in
    (omega arith, leb-false (height_of Low) y both.1)

-- ---- the pixel

-- the four bits of a pixel's register, from the words of its group
pub low-register : (s : List ℕ) (x y at : ℕ) → at ≡ (y * 20 + x / 16) * 8
    → pixel_bit (word_at s at) (x % 16) + pixel_bit (word_at s (at + 2)) (x % 16) * 2
    + pixel_bit (word_at s (at + 4)) (x % 16) * 4
    + pixel_bit (word_at s (at + 6)) (x % 16) * 8
    ≡ register s Low x y
unfolding register sum word_offset group_offset
low-register s x y at e = rw (e, add-zero ((y * 20 + x / 16) * 8)) (omega arith)

-- the palette word of a pixel is one of the 9,552
pub word-within : (s : List ℕ) (x y : ℕ) → 0 < y → y < height_of Low
    → line_words * (y - 1) + position_of x (register s Low x y) < palette_words
word-within s x y h k = omega (arith, position-below x (register s Low x y) (register-lt s Low x y))

-- ---- the scan line

module _ (screen : List ℕ) (y : ℕ) where
  -- line out at the low resolution into 320 bytes: the line's registers
  pub line-registers : (d : List ℕ) → screen_bytes ≤ length screen → y < height_of Low → length d ≡ columns
      → later (line_out screen 0 y (length d)) (λ l. over l d) d ≡ scan_line screen Low y
  unfolding line_out
  line-registers d full inside size =
      let room : width_of Low ≤ length d = omega arith in
      rw (
        le-ltb (length screen) screen_bytes full,
        lt-leb (height_of Low) y inside,
        le-ltb (length d) (width_of Low) room,
      )
      (over-whole (scan_line screen Low y) d (omega (arith, length-scan_line screen Low y)))

  -- the position of a pixel
  abbrev shown_at : ℕ → ℕ
  shown_at x = position_of x (register screen Low x y)

  -- in the place of a register its position: the first x are written
  pub position-written : (positions : List ℕ) (x p : ℕ) → x < columns
      → positions ≡ over (take x (tabulate columns shown_at)) (scan_line screen Low y)
      → p ≡ position_of x (get_or positions x 0) → p ≡ shown_at x
  position-written positions x p h is e =
      let front : List ℕ = take x (tabulate columns shown_at) in
      let size : length front ≡ x =
      length-take-le x (tabulate columns shown_at) (omega (arith, length-tabulate columns shown_at)) in
      e ∙ ap (position_of x)
      (ap (λ (d : List ℕ). get_or d x 0) is
      ∙ get_or-over-past front (scan_line screen Low y) x 0 (omega arith)
      ∙ get_or-scan_line screen Low x y h)

  pub positions-below : (x : ℕ) → get_or (tabulate columns shown_at) x 0 < line_words
  positions-below =
      tabulate-all (λ p. p < line_words) columns shown_at 0 (omega arith)
      (λ x. position-below x (register screen Low x y) (register-lt screen Low x y))

  -- the words there are those that the line's pixels show
  pub positions-shown : (palettes : List ℕ)
      → tabulate columns (λ x. get_or palettes (line_words * (y - 1) + get_or (tabulate columns shown_at) x 0) 0)
      ≡ tabulate columns (λ x. shown_word screen palettes x y)
  unfolding shown_word
  positions-shown palettes =
      tabulate-ext columns
      (λ x. get_or palettes (line_words * (y - 1) + get_or (tabulate columns shown_at) x 0) 0)
      (λ x. shown_word screen palettes x y)
      (λ x h.
      ap (λ (p : ℕ). get_or palettes (line_words * (y - 1) + p) 0) (get_or-tabulate columns shown_at x 0 h))

-- ---- the line and the pixel

-- where the output has room, the pixel's outcome is the line's, with its column's word: refused alike, and every word
-- of the line is the pixel's
pub line-pixel : (screen palettes : List ℕ) (x y room : ℕ) → x < columns → columns ≤ room
    → map (λ words. get_or words x 0) (line_of_words screen palettes y room) ≡ pixel_word screen palettes x y
unfolding line_of_words pixel_word
line-pixel screen palettes x y room h k =
    rw (lt-leb columns x h, le-ltb room columns k)
    (go (ltb (length screen) screen_bytes || ltb (length palettes) palette_words) (without_palette y))
  where
    shown : ℕ → ℕ
    shown x = shown_word screen palettes x y

    go : (areas line : Bool)
        → map (λ words. get_or words x 0)
        (refuse_if areas area_too_short (refuse_if line out_of_range (Ok (tabulate columns shown))))
        ≡ refuse_if areas area_too_short (refuse_if line out_of_range (Ok (shown x)))
    go true line = refl
    go false true = refl
    go false false = ap Ok (get_or-tabulate columns shown x 0 h)

-- of an accepted question the place of the word is below 9,552, and the palettes have so many words: none is read past
-- their end
pub accepted-within : (screen palettes : List ℕ) (x y word : ℕ) → pixel_word screen palettes x y ≡ Ok word
    → (line_words * (y - 1) + position_of x (register screen Low x y) < palette_words) × (palette_words ≤ length palettes)
unfolding pixel_word
accepted-within screen palettes x y word e =
    let areas = passed _ area_too_short _ word e in
    let within = passed _ out_of_range _ word areas.1 in
    let line = palette-lines y (or-false (leb columns x) (without_palette y) within.0).1 in
    (word-within screen x y line.0 line.1, (areas-whole (length screen) (length palettes) areas.0).1)
