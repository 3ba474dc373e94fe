-- Demand 2: every register of every pixel, as the lent area holds it after an accepted reading.
use Rattle.outcome.specs.Outcome.{Outcome}
use mathlib.Core.Path.{◌≡◌, refl, sym, ap, ◌∙◌}
use mathlib.Core.Bool.{true, false, true≢false, false≢true}
use mathlib.Core.List.{List}
use Prim.Native.Nat.{ℕ, ◌+◌, ◌*◌, ◌/◌, ◌%◌, ◌^◌, ◌≤◌, ◌<◌}
use native.Mathlib.Omega.{arith}
use lib.ListN.{length, get_or, take, drop}
use lib.Seq.{get_or-take, drop_at}
use Rattle.lists.specs.Over.{over}
use Rattle.lists.specs.Sum.{sum}
use Rattle.lists.proofs.Over.{get_or-over-in}
use Rattle.lists.proofs.Sum.{sum-ext}
use Rattle.outcome.proofs.Outcome.{judged-value}
use Rattle.words.specs.Word.{word_at}
use Rattle.raster.specs.Offsets.{group_offset, word_offset}
use Rattle.raster.specs.PlaneRows.{plane_row, plane_rows}
use Rattle.raster.proofs.PlaneRows.{plane_rows-front}
use Rattle.resolution.specs.declared.Resolution.{Resolution}
use Rattle.resolution.specs.declared.Resolution.TheVariants.{Low, Medium, High}
use Rattle.resolution.specs.Shapes.{screen_bytes, width_of, height_of, planes_of, groups_of, raster_of}
use Rattle.resolution.proofs.Rasters.{raster-bytes}
use Rattle.lines.specs.Registers.{pixel_bit, register, rows_register}
use Rattle.lines.proofs.PlaneRegisters.{register-of-rows, register-front}
use Rattle.bodies.proofs.Fits.{fits-unique}
use Rattle.picture.specs.Reading.{Reading, read_area}
use Rattle.picture.specs.Whole.{WholeReading}
use Rattle.degas.specs.Layout.{header_length, tail_length, body_limit}
use Rattle.degas.specs.Opening.{is_packed}
use Rattle.degas.specs.Accepts.{PackedFits, Fits, plain, elite, packed, AcceptsDegas, fits_given}
use Rattle.neochrome.specs.Layout.{screen_start}
use Rattle.neochrome.specs.Accepts.{AcceptsNeochrome}
use Rattle.tiny.specs.Accepts.{AcceptsTiny, tiny_given}
use Rattle.tiny.specs.ScreenWords.{screen_words, expanded_word}
use Rattle.tiny.proofs.Acceptance.{tiny-word-back}
use Rattle.reader.specs.Reading.{kind_degas, kind_neochrome, kind_tiny, read_file}
use Rattle.demands.specs.Accepted.{Accepts, degas, neochrome, tiny, given}
use Rattle.demands.proofs.Acceptance.{file-complete, file-whole}

-- a raw file's screen stands in it; a packed file's is the one that its body unpacks to
raw-screen : (file : List ℕ) (r : Resolution) → is_packed file ≡ false → (f : Fits file r)
    → (fits_given f).screen ≡ take screen_bytes (drop header_length file)
raw-screen file r e (plain is size) = refl
raw-screen file r e (elite is size) = refl
raw-screen file r e (packed is p) = absurd (true≢false (sym is ∙ e))

packed-screen : (file : List ℕ) (r : Resolution) → is_packed file ≡ true → (f : Fits file r) (p : PackedFits file r)
    → (fits_given f).screen ≡ p.image
packed-screen file r e (plain is size) p = absurd (false≢true (sym is ∙ e))
packed-screen file r e (elite is size) p = absurd (false≢true (sym is ∙ e))
packed-screen file r e (packed is o) p = (fits-unique file header_length tail_length body_limit (raster_of r) o p).1

-- ---- the area after an accepted reading

module _ (kind : ℕ) (file area : List ℕ) (room : screen_bytes ≤ length area) (a : Accepts kind file) where
  abbrev screen : List ℕ
  screen = (given a).screen

  abbrev after : List ℕ
  after = read_area (read_file kind file (length area)) area

  size : length screen ≡ screen_bytes
  size =
      (judged-value WholeReading (read_file kind file (length area)) (given a) (file-whole kind file (length area))
      (file-complete kind file (length area) room a)
      ).size

  -- the screen over its front
  area-over : after ≡ over screen area
  area-over = ap (λ (o : Outcome Reading). read_area o area) (file-complete kind file (length area) room a)

  front : (o : ℕ) → o < screen_bytes → get_or after o 0 ≡ get_or screen o 0
  front o h = ap (λ (l : List ℕ). get_or l o 0) area-over ∙ get_or-over-in screen area o 0 (omega (arith, size))

  -- every plane row, and every register of every pixel
  pub area-rows : (r : Resolution) → plane_rows after (raster_of r) ≡ plane_rows screen (raster_of r)
  area-rows r = plane_rows-front after screen (raster_of r) (λ o h. front o (omega (arith, raster-bytes r)))

  pub area-register : (r : Resolution) (x y : ℕ) → x < width_of r → y < height_of r
      → register after r x y ≡ register screen r x y
  area-register r x y hx hy = register-front after screen front r x y hx hy

  -- "Bytes of the area past the screen are unchanged."
  pub area-past : drop screen_bytes after ≡ drop screen_bytes area
  area-past =
      ap (drop screen_bytes) area-over ∙ drop_at screen (drop (length screen) area) screen_bytes size
      ∙ ap (λ (n : ℕ). drop n area) size

-- ---- the words of a screen by their numbers

-- the number of the word of plane p that holds the pixel in column x of scan line y
abbrev word_number : Resolution → ℕ → ℕ → ℕ → ℕ
word_number r x y p = (y * groups_of r + x / 16) * planes_of r + p

number-offset : (r : Resolution) (x y p : ℕ) → word_offset (raster_of r) y (x / 16) p ≡ word_number r x y p * 2
unfolding word_offset group_offset
number-offset Low x y p = omega arith
number-offset Medium x y p = omega arith
number-offset High x y p = omega arith

number_lt : (r : Resolution) (x y p : ℕ) → x < width_of r → y < height_of r → p < planes_of r
    → word_number r x y p < screen_words
number_lt Low x y p hx hy hp = omega arith
number_lt Medium x y p hx hy hp = omega arith
number_lt High x y p hx hy hp = omega arith

-- ---- "every register of every pixel"

module _ (file area : List ℕ) (room : screen_bytes ≤ length area) (x y : ℕ) where
  -- the area after a reading of a kind
  abbrev read : ℕ → List ℕ
  read kind = read_area (read_file kind file (length area)) area

  -- from the bytes of a raw screen
  raw-front : (at : ℕ) (r : Resolution) → x < width_of r → y < height_of r
      → register (take screen_bytes (drop at file)) r x y ≡ register (drop at file) r x y
  raw-front at r =
      register-front (take screen_bytes (drop at file)) (drop at file)
      (λ o h. get_or-take screen_bytes (drop at file) o 0 h) r x y

  module _ (d : AcceptsDegas file) (hx : x < width_of d.resolution) (hy : y < height_of d.resolution) where
    -- a raw DEGAS file: the register in the file's bytes from the header's end on
    pub raw-register : is_packed file ≡ false
        → register (read kind_degas) d.resolution x y ≡ register (drop header_length file) d.resolution x y
    raw-register e =
        area-register kind_degas file area room (degas refl d) d.resolution x y hx hy
        ∙ ap (λ (s : List ℕ). register s d.resolution x y) (raw-screen file d.resolution e d.fits)
        ∙ raw-front header_length d.resolution hx hy

    -- a packed DEGAS file: one bit from each of the scan line's plane rows, as the body unpacks to them
    pub packed-register : is_packed file ≡ true → (p : PackedFits file d.resolution)
        → register (read kind_degas) d.resolution x y
        ≡ rows_register d.resolution
        (λ plane. plane_row p.image (raster_of d.resolution) (y * planes_of d.resolution + plane)) x
    packed-register e p =
        area-register kind_degas file area room (degas refl d) d.resolution x y hx hy
        ∙ ap (λ (s : List ℕ). register s d.resolution x y) (packed-screen file d.resolution e d.fits p)
        ∙ register-of-rows p.image d.resolution x y hx

  -- a NEOchrome file: the register in the file's bytes from offset 128
  pub neochrome-register : (n : AcceptsNeochrome file) → x < width_of n.resolution → y < height_of n.resolution
      → register (read kind_neochrome) n.resolution x y ≡ register (drop screen_start file) n.resolution x y
  neochrome-register n hx hy =
      area-register kind_neochrome file area room (neochrome refl n) n.resolution x y hx hy
      ∙ raw-front screen_start n.resolution hx hy

  -- a Tiny file: one bit from each of the group's words, each of them one of the words that the runs make
  pub tiny-register : (t : AcceptsTiny file) (r : Resolution) → x < width_of r → y < height_of r
      → register (read kind_tiny) r x y
      ≡ sum (planes_of r) (λ p. pixel_bit (get_or t.words (expanded_word (word_number r x y p)) 0) (x % 16) * 2 ^ p)
  unfolding register
  tiny-register t r hx hy =
      area-register kind_tiny file area room (tiny refl t) r x y hx hy
      ∙ sum-ext (planes_of r) _ _
      (λ p hp.
      ap (λ (w : ℕ). pixel_bit w (x % 16) * 2 ^ p)
      (ap (word_at (tiny_given t).screen) (number-offset r x y p)
      ∙ tiny-word-back t (word_number r x y p) (number_lt r x y p hx hy hp)))
