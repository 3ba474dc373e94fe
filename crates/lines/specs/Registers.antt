-- The register of each pixel of a screen (document 01, "Three resolutions").
use Rattle.std.specs.Prelude.{ℕ, ◌+◌, ◌*◌, ◌-◌, ◌/◌, ◌%◌, ◌^◌, List, get_or}
use Rattle.lists.specs.Digits.{from_bits}
use Rattle.lists.specs.Over.{over_at}
use Rattle.lists.specs.Sum.{sum}
use Rattle.lists.specs.Tabulate.{tabulate}
use Rattle.words.specs.Word.{word_at, word_bytes}
use Rattle.raster.specs.Offsets.{word_offset}
use Rattle.resolution.specs.declared.Resolution.{Resolution}
use Rattle.resolution.specs.Shapes.{width_of, planes_of, line_bytes_of, raster_of}

-- pixel k of a word of 16: the leftmost, k = 0, is the top bit
unfoldable pub pixel_bit : ℕ → ℕ → ℕ
pixel_bit w k = w / 2 ^ (15 - k) % 2

-- the register of the pixel in column x of scan line y: plane p adds 2^p
unfoldable pub register : List ℕ → Resolution → ℕ → ℕ → ℕ
register s r x y = sum (planes_of r) (λ p. pixel_bit (word_at s (word_offset (raster_of r) y (x / 16) p)) (x % 16) * 2 ^ p)

-- the register that a scan line's plane rows give a pixel
abbrev pub rows_register : Resolution → (ℕ → List ℕ) → ℕ → ℕ
rows_register r row x = sum (planes_of r) (λ p. pixel_bit (word_at (row p) (x / 16 * 2)) (x % 16) * 2 ^ p)

-- the registers of scan line y, from the left
unfoldable pub scan_line : List ℕ → Resolution → ℕ → List ℕ
scan_line s r y = tabulate (width_of r) (λ x. register s r x y)

-- the word of plane p in group g that a line of registers makes
unfoldable pub word_of : List ℕ → ℕ → ℕ → ℕ
word_of line g p = from_bits 16 (λ k. get_or line (g * 16 + k) 0 / 2 ^ p % 2)

-- byte i of the scan line that a line of registers makes: of word i / 2, counted group by group and plane by plane
abbrev pub line_byte : Resolution → List ℕ → ℕ → ℕ
line_byte r line i = get_or (word_bytes (word_of line (i / 2 / planes_of r) (i / 2 % planes_of r))) (i % 2) 0

-- the bytes of that scan line
unfoldable pub scan_line_bytes : Resolution → List ℕ → List ℕ
scan_line_bytes r line = tabulate (line_bytes_of r) (line_byte r line)

-- the screen with scan line y made from a line of registers; all other bytes stay
unfoldable pub with_line : List ℕ → Resolution → ℕ → List ℕ → List ℕ
with_line s r y line = over_at (y * line_bytes_of r) (scan_line_bytes r line) s
