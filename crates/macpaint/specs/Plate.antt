-- A plate (document 02's term): the bitmap of a MacPaint file, 720 rows of 72 bytes from the top, one bit a pixel
-- (document 02, ticket 9; source 003).
use Rattle.std.specs.Prelude.{ℕ}
use Rattle.raster.specs.declared.Raster.{Raster}

-- 720 scan lines of 36 words, one plane; row n is bytes 72n to 72n + 71 (proofs/Plate.antt, `plate-rows`)
abbrev pub plate_raster : Raster
plate_raster = record { lines = 720; groups = 36; planes = 1 }

-- its bytes (proofs/Plate.antt, `plate-bytes`)
abbrev pub plate_bytes : ℕ
plate_bytes = 51840
