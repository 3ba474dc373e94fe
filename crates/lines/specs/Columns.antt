-- Byte columns: column h of a scan line has one byte of each plane, and these hold its eight pixels h * 8 to h * 8 + 7.
-- Their registers are those of Registers.antt (proofs/Columns.antt, `column_register-register`).
-- Only contracts of private functions cite this file.
use Rattle.std.specs.Prelude.{ℕ, ◌+◌, ◌*◌, ◌-◌, ◌/◌, ◌%◌, ◌^◌, List, get_or}
use Rattle.lists.specs.Digits.{from_bits}
use Rattle.lists.specs.Sum.{sum}
use Rattle.lists.specs.Tabulate.{tabulate}

-- pixel x of a scan line in a byte of its column: the leftmost is the top bit
abbrev pub byte_bit : ℕ → ℕ → ℕ
byte_bit b x = b / 2 ^ (7 - x % 8) % 2

-- the register of pixel x of a scan line, from the bytes of its column, the first of which stands at an offset: plane p
-- adds 2^p
unfoldable pub column_register : List ℕ → ℕ → ℕ → ℕ → ℕ
column_register s at planes x = sum planes (λ p. byte_bit (get_or s (at + p * 2) 0) x * 2 ^ p)

-- the register of pixel k of the group whose first byte stands at an offset
abbrev pub group_register : List ℕ → ℕ → ℕ → ℕ → ℕ
group_register s at planes k = column_register s (at + k / 8) planes k

-- the registers of the first `groups` groups of a scan line that begins at an offset
unfoldable pub groups_line : List ℕ → ℕ → ℕ → ℕ → List ℕ
groups_line s start planes groups =
    tabulate (groups * 16) (λ x. group_register s (start + x / 16 * (planes * 2)) planes (x % 16))

-- a byte's bits, one to a byte, the top one lowest
unfoldable pub spread : ℕ → ℕ
spread b =
    b / 2 ^ 7 % 2 + b / 2 ^ 6 % 2 * 256 + b / 2 ^ 5 % 2 * 65536 + b / 2 ^ 4 % 2 * 16777216
    + b / 2 ^ 3 % 2 * 4294967296 + b / 2 ^ 2 % 2 * 1099511627776 + b / 2 ^ 1 % 2 * 281474976710656
    + b / 2 ^ 0 % 2 * 72057594037927936

-- the registers of a column's eight pixels, one to a byte, the leftmost lowest
unfoldable pub spread_column : List ℕ → ℕ → ℕ → ℕ
spread_column s at planes = sum planes (λ p. spread (get_or s (at + p * 2) 0) * 2 ^ p)

-- byte i of a number, the lowest first
unfoldable pub byte_of : ℕ → ℕ → ℕ
byte_of v i = v / 2 ^ (i * 8) % 256

-- plane p's byte of the eight registers from an offset on
unfoldable pub plane_byte : List ℕ → ℕ → ℕ → ℕ
plane_byte line at p = from_bits 8 (λ k. get_or line (at + k) 0 / 2 ^ p % 2)
