-- The shape of a raster: scan lines, groups of 16 pixels in a scan line, and planes (document 01, "Three resolutions").
use Rattle.std.specs.Prelude.{ℕ, ◌*◌}
use Rattle.raster.specs.declared.Raster.{Raster}

-- bytes of a plane row: a word of each group
abbrev pub row_bytes : Raster → ℕ
row_bytes r = r.groups * 2

-- plane rows: one for each plane of each scan line
abbrev pub rows : Raster → ℕ
rows r = r.lines * r.planes

-- bytes of a scan line: a group has one word for each plane
abbrev pub line_bytes : Raster → ℕ
line_bytes r = r.groups * (r.planes * 2)

-- bytes of the whole raster
abbrev pub bytes : Raster → ℕ
bytes r = r.lines * line_bytes r
