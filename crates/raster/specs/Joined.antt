-- Plane rows that stand one behind the other in one list, as unpacking leaves them, and the raster's bytes made from
-- them (document 01, "Packed rows").
use Rattle.std.specs.Prelude.{ℕ, ◌+◌, ◌*◌, ◌/◌, ◌%◌, ◌≤◌, ◌≡◌, Bool, cond, ◌&&◌, List, length, get_or, leb, eqb}
use Rattle.lists.specs.Over.{over}
use Rattle.lists.specs.Tabulate.{tabulate}
use Rattle.raster.specs.declared.Raster.{Raster}
use Rattle.raster.specs.Shape.{row_bytes, bytes}
use Rattle.raster.specs.PlaneRows.{row_at, column_at}

-- the byte at an offset of the raster
abbrev pub joined_byte : Raster → List ℕ → ℕ → ℕ
joined_byte r list o = get_or list (row_at r o * row_bytes r + column_at r o) 0

-- all of them: the image of those rows (proofs/Joined.antt, `joined-image`)
unfoldable pub joined_image : Raster → List ℕ → List ℕ
joined_image r list = tabulate (bytes r) (joined_byte r list)

-- the later content of an area into which they are put; where the area or the list is shorter than the raster nothing
-- changes
abbrev pub put_joined : Raster → List ℕ → List ℕ → List ℕ
put_joined r list s = cond (leb (bytes r) (length s) && leb (bytes r) (length list)) (over (joined_image r list) s) s

-- where byte x of a scan line stands in the scan line's plane rows of `width` bytes each
abbrev pub interleaved : ℕ → ℕ → ℕ → ℕ
interleaved planes width x = x / 2 % planes * width + (x / (planes * 2) * 2 + x % 2)

-- the first n bytes of a scan line whose plane rows start at an offset
abbrev pub interleaved_line : List ℕ → ℕ → ℕ → ℕ → ℕ → List ℕ
interleaved_line s at planes width n = tabulate n (λ x. get_or s (at + interleaved planes width x) 0)

-- four planes or two, and the bytes of eight columns of them
abbrev pub planes_of : Bool → ℕ
planes_of four = cond four 4 2

abbrev pub plane_bytes : Bool → ℕ
plane_bytes four = cond four 32 16

-- a raster of two planes or four, whose plane rows have a multiple of eight bytes, 128 at most
pub record Interleaved (r : Raster) : Type 0 where
  pub planes : r.planes ≡ planes_of (eqb r.planes 4)
  pub eights : r.groups / 4 * 4 ≡ r.groups
  pub narrow : r.groups / 4 ≤ 16
