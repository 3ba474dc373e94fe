-- Blocks: 64 pixels of a scan line, for each plane a number of 64 binary digits, the leftmost pixel the highest digit.
-- A scan line is a run of blocks. Their registers are those of crate lines (proofs/Blocks.antt, `block-register`).
-- The code reads each plane's eight bytes in reverse order (`reversed_block`); as many digits are set.
-- Only contracts of private functions cite this file.
use Rattle.std.specs.Prelude.{ℕ, zero, suc, ◌+◌, ◌*◌, ◌-◌, ◌/◌, ◌%◌, ◌^◌, ◌<◌, ◌≤◌, cond, List, ◌≡◌, length, ltb}
use Rattle.std.specs.Int.Bits.{bit_and}
use Rattle.lists.specs.Digits.{from_bytes}
use Rattle.words.specs.Word.{word_at}
use Rattle.lines.specs.Columns.{byte_of}
use Rattle.resolution.specs.Shapes.{screen_bytes}
use Rattle.tally.specs.declared.Block.{Block}
use Rattle.tally.specs.declared.Strip.{Strip}

-- ---- numbers of 64 binary digits

-- digit j of a number
abbrev pub digit : ℕ → ℕ → ℕ
digit a j = a / 2 ^ j % 2

-- eight bytes in reverse order
unfoldable pub reversed : ℕ → ℕ
reversed a = from_bytes 8 (λ k. byte_of a (7 - k))

-- a word's two bytes in reverse order
abbrev pub swapped : ℕ → ℕ
swapped w = w % 256 * 256 + w / 256

-- ---- blocks

-- four words of a plane, the first at an offset, `stride` bytes apart
unfoldable pub plane_block : List ℕ → ℕ → ℕ → ℕ
plane_block s at stride =
    ((word_at s at * 65536 + word_at s (at + stride)) * 65536 + word_at s (at + stride * 2)) * 65536
    + word_at s (at + stride * 3)

-- the block whose plane 0 begins at an offset, 0 for a plane that is not there
abbrev pub block_at : List ℕ → ℕ → ℕ → Block
block_at s at planes = record {
  first = plane_block s at (planes * 2);
  second = cond (ltb 1 planes) (plane_block s (at + 2) (planes * 2)) 0;
  third = cond (ltb 2 planes) (plane_block s (at + 4) (planes * 2)) 0;
  fourth = cond (ltb 3 planes) (plane_block s (at + 6) (planes * 2)) 0;
}

-- a block with each plane's bytes in reverse order
abbrev pub reversed_block : Block → Block
reversed_block b = record {
  first = reversed b.first;
  second = reversed b.second;
  third = reversed b.third;
  fourth = reversed b.fourth;
}

-- the register of the pixel at digit j: plane p adds 2^p
unfoldable pub block_register : Block → ℕ → ℕ
block_register b j = digit b.first j + (digit b.second j + (digit b.third j + digit b.fourth j * 2) * 2) * 2

-- the register of pixel k, from the left, of the m pixels that have t to their right
abbrev pub part_register : Block → ℕ → ℕ → ℕ → ℕ
part_register b m t k = block_register b (t + (m - 1 - k))

-- the register of pixel x of a scan line that begins at an offset and has `planes` planes
unfoldable pub blocks_register : List ℕ → ℕ → ℕ → ℕ → ℕ
blocks_register s start planes x = block_register (block_at s (start + x / 64 * (planes * 8)) planes) (63 - x % 64)

-- a plane, or its complement: the pixels whose digit is b
abbrev pub alike : ℕ → ℕ → ℕ
alike zero p = 2 ^ 64 - 1 - p
alike (suc b) p = p

-- of some pixels, those whose register is v, below 16
unfoldable pub register_set : Block → ℕ → ℕ → ℕ
register_set b among v =
    bit_and (bit_and (alike (v % 2) b.first) (alike (v / 2 % 2) b.second))
    (bit_and (bit_and (alike (v / 2 / 2 % 2) b.third) (alike (v / 2 / 2 / 2) b.fourth)) among)

-- ---- blocks apart from each other

-- the blocks of the screen with the most, at high resolution
abbrev pub most_blocks : ℕ
most_blocks = 4000

-- blocks of one plane follow each other or lie one below the other
abbrev pub Spaced : ℕ → ℕ → Type 0
Spaced planes step = planes ≡ 1 → (step ≡ 8 → ⊥) → step ≡ 80

-- blocks that lie within the screen
abbrev pub OnScreen : List ℕ → ℕ → Strip → Type 0
OnScreen s planes b =
    (b.blocks ≤ most_blocks) × ((j : ℕ) → j < b.blocks → b.at + j * b.step + planes * 8 ≤ screen_bytes)
    × (screen_bytes ≤ length s)

-- in block j of them, the register of pixel k of the m pixels that have t to their right
abbrev pub strip_register : List ℕ → ℕ → Strip → ℕ → ℕ → ℕ → ℕ → ℕ
strip_register s planes b m t j = part_register (block_at s (b.at + j * b.step) planes) m t
