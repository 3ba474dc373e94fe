-- Plane rows that stand evenly spaced in one list: those of each scan line `step` behind those of the one before, and
-- in a scan line each plane's `gap` behind that of the one before.
use Rattle.std.specs.Prelude.{ℕ, ◌+◌, ◌*◌, ◌/◌, ◌%◌, ◌≤◌, ◌<◌, ◌≡◌, cond, ◌&&◌, List, length, get_or, drop, leb}
use Rattle.lists.specs.Over.{over}
use Rattle.lists.specs.Tabulate.{tabulate}
use Rattle.raster.specs.declared.Raster.{Raster}
use Rattle.raster.specs.Shape.{row_bytes, rows, bytes}
use Rattle.raster.specs.PlaneRows.{row_at, column_at, put_rows}

-- where plane row n begins
abbrev pub start_at : ℕ → ℕ → ℕ → ℕ → ℕ
start_at planes step gap n = n / planes * step + n % planes * gap

-- the raster's bytes made from them
abbrev pub spaced_byte : Raster → ℕ → ℕ → List ℕ → ℕ → ℕ
spaced_byte r step gap list o = get_or list (start_at r.planes step gap (row_at r o) + column_at r o) 0

unfoldable pub spaced_image : Raster → ℕ → ℕ → List ℕ → List ℕ
spaced_image r step gap list = tabulate (bytes r) (spaced_byte r step gap list)

-- the later content of an area into which they are put; where the area or the list is shorter than the raster nothing
-- changes
abbrev pub put_spaced : Raster → ℕ → ℕ → List ℕ → List ℕ → List ℕ
put_spaced r step gap list s =
    cond (leb (bytes r) (length s) && leb (bytes r) (length list)) (over (spaced_image r step gap list) s) s

-- they take up no more bytes than the raster; those of a single plane stand one behind the other
pub record Spaced (r : Raster) (step gap : ℕ) : Type 0 where
  pub within : (n : ℕ) → n < rows r → start_at r.planes step gap n + row_bytes r ≤ bytes r
  pub single : r.planes ≡ 1 → step ≡ row_bytes r

-- the rows, from where each begins on
abbrev pub row_tails : Raster → ℕ → ℕ → List ℕ → List (List ℕ)
row_tails r step gap list = tabulate (rows r) (λ n. drop (start_at r.planes step gap n) list)

-- an area that holds the rows before scan line y, whatever it held before them, holds the first p rows of y as well
abbrev pub LinePut : Raster → ℕ → ℕ → List ℕ → ℕ → ℕ → List ℕ → List ℕ → Type 0
LinePut r step gap list y p area after =
    (area₀ : List ℕ) → area ≡ put_rows r (y * r.planes) (row_tails r step gap list) area₀
    → after ≡ put_rows r (y * r.planes + p) (row_tails r step gap list) area₀
