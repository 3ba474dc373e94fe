-- Plane rows of a raster, and the raster's bytes made from them (document 01, "Packed rows"; "plane row" is its term).
use Rattle.std.specs.Prelude.{ℕ, zero, suc, ◌+◌, ◌*◌, ◌/◌, ◌%◌, Bool, cond, ◌&&◌, List, [], length, get_or, ltb, leb}
use Rattle.lists.specs.Over.{over}
use Rattle.lists.specs.Stores.{stores}
use Rattle.lists.specs.Tabulate.{tabulate}
use Rattle.raster.specs.declared.Raster.{Raster}
use Rattle.raster.specs.Offsets.{word_offset}
use Rattle.raster.specs.Shape.{row_bytes, rows, line_bytes, bytes}

-- where byte c of plane row n lies: among the words of plane n % planes in scan line n / planes, left to right
unfoldable pub row_offset : Raster → ℕ → ℕ → ℕ
row_offset r n c = word_offset r (n / r.planes) (c / 2) (n % r.planes) + c % 2

-- plane row n
unfoldable pub plane_row : List ℕ → Raster → ℕ → List ℕ
plane_row s r n = tabulate (row_bytes r) (λ c. get_or s (row_offset r n c) 0)

-- all plane rows: scan lines from the top, within a scan line plane 0 first
unfoldable pub plane_rows : List ℕ → Raster → List (List ℕ)
plane_rows s r = tabulate (rows r) (λ n. plane_row s r n)

-- the plane row and the column of the byte at an offset: `row_offset` undone (proofs/Offsets.antt, `row_offset-at`)
unfoldable pub row_at : Raster → ℕ → ℕ
row_at r o = o / line_bytes r * r.planes + o / 2 % r.planes

unfoldable pub column_at : Raster → ℕ → ℕ
column_at r o = o % line_bytes r / (r.planes * 2) * 2 + o % 2

-- the bytes that are made from plane rows: their plane rows are these (proofs/PlaneRows.antt, `rows-of-image`)
unfoldable pub image_of : Raster → List (List ℕ) → List ℕ
image_of r list = tabulate (bytes r) (λ o. get_or (get_or list (row_at r o) []) (column_at r o) 0)

-- the area with plane row n replaced by a row's first bytes
unfoldable pub with_row : List ℕ → Raster → ℕ → List ℕ → List ℕ
with_row s r n row = stores (row_bytes r) (row_offset r n) (λ c. get_or row c 0) s

-- the area with the first n rows of a list put into it; all of them make the image (proofs/PutRows.antt, `put_all`)
unfoldable pub put_rows : Raster → ℕ → List (List ℕ) → List ℕ → List ℕ
put_rows r zero list s = s
put_rows r (suc n) list s = with_row (put_rows r n list s) r n (get_or list n [])

-- an area of `room` bytes holds the raster, n is one of its plane rows, and a buffer of `width` bytes holds a row
unfoldable pub row_fits : ℕ → Raster → ℕ → ℕ → Bool
row_fits room r n width = leb (bytes r) room && (ltb n (rows r) && leb (row_bytes r) width)

-- the later content of a buffer into which plane row n is taken; where the row does not fit nothing changes
abbrev pub take_row : List ℕ → Raster → ℕ → List ℕ → List ℕ
take_row s r n row = cond (row_fits (length s) r n (length row)) (over (plane_row s r n) row) row

-- the later content of an area into which a row is put as plane row n; where the row does not fit nothing changes
abbrev pub put_row : List ℕ → Raster → ℕ → List ℕ → List ℕ
put_row s r n row = cond (row_fits (length s) r n (length row)) (with_row s r n row) s
