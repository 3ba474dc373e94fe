-- Blocks: sixteen bytes of a scan line, with two groups of four planes, four of two, or eight of one. Eight registers
-- of each of a block's groups, the left or the right ones, are one word: byte k has the groups' registers k, that of
-- the first group lowest. Such a word turned over has the bytes of the planes, which line in writes
-- (proofs/Blocks.antt, `words-groups`).
-- Only contracts of private functions cite this file.
use Rattle.std.specs.Prelude.{ℕ, zero, suc, ◌+◌, ◌-◌, ◌*◌, ◌/◌, ◌%◌, ◌^◌, cond, List, ◌⊎◌, ◌≡◌, eqb, get_or}
use Rattle.std.specs.Int.Bits.{bit_and, bit_or, bit_xor}
use Rattle.lines.specs.Columns.{byte_of, plane_byte}

-- four registers from an offset on, a byte each, the leftmost lowest
unfoldable pub four_registers : List ℕ → ℕ → ℕ
four_registers line at =
    get_or line at 0 + get_or line (at + 1) 0 * 256 + get_or line (at + 2) 0 * 65536 + get_or line (at + 3) 0 * 16777216

-- eight registers from an offset on, a byte each, the leftmost lowest
unfoldable pub eight_registers : List ℕ → ℕ → ℕ
eight_registers line at = four_registers line at + four_registers line (at + 4) * 4294967296

-- two words in one, the first n bits up
unfoldable pub joined_word : ℕ → ℕ → ℕ → ℕ
joined_word above n below = bit_or (above * 2 ^ n % 2 ^ 64) below

-- eight registers of each of the first groups, so many, from an offset in the first on: that of the first group lowest
unfoldable pub groups_word : List ℕ → ℕ → ℕ → ℕ → ℕ
groups_word line planes at zero = 0
groups_word line planes at (suc g) = joined_word (eight_registers line (at + g * 16)) (g * planes) (groups_word line planes at g)

-- registers of a block: 128 over the planes
abbrev pub is_block_width : ℕ → Type 0
is_block_width width = (width ≡ 32) ⊎ ((width ≡ 64) ⊎ (width ≡ 128))

-- the word of a block of so many registers, from an offset in its first group on
abbrev pub block_word : List ℕ → ℕ → ℕ → ℕ
block_word line width at = groups_word line (128 / width) at (width / 16)

-- word i of a line: block after block, the left word and the right
abbrev pub line_word : List ℕ → ℕ → ℕ → ℕ
line_word line width i = block_word line width (i / 2 * width + i % 2 * 8)

-- each bit that the mask has, exchanged with the bit s places above it
unfoldable pub exchange : ℕ → ℕ → ℕ → ℕ
exchange s mask x =
    bit_xor (bit_xor x (bit_and (bit_xor x (x / 2 ^ s)) mask)) (bit_and (bit_xor x (x / 2 ^ s)) mask * 2 ^ s % 2 ^ 64)

-- the low four bits of each of the first four bytes; the low two bits of each four in bytes 0, 1, 4 and 5; the low bit
-- of each two in bytes 0, 2, 4 and 6
abbrev pub fours : ℕ
fours = 252645135

abbrev pub twos : ℕ
twos = 56294136361779

abbrev pub ones : ℕ
ones = 23925738098196565

-- a word of eight bytes turned over: bit q of byte k becomes bit 7 - k of byte 7 - q
unfoldable pub turn : ℕ → ℕ
turn x = exchange 9 ones (exchange 18 twos (exchange 36 fours x))

-- byte i of a block, from its left and its right word turned over
abbrev pub block_byte : ℕ → ℕ → ℕ → ℕ
block_byte left right i = byte_of (cond (eqb (i % 2) 0) left right) (7 - i / 2)

-- byte i of blocks, from their words turned over
abbrev pub words_byte : List ℕ → ℕ → ℕ
words_byte words i = block_byte (get_or words (i / 16 * 2) 0) (get_or words (i / 16 * 2 + 1) 0) (i % 16)

-- byte i of groups of `size` bytes that a line of registers makes
abbrev pub groups_byte : List ℕ → ℕ → ℕ → ℕ
groups_byte line size i = plane_byte line (i / size * 16 + i % size % 2 * 8) (i % size / 2)
