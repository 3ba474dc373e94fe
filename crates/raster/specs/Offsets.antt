-- Where the words of a raster lie (document 01, "Three resolutions").
use Rattle.std.specs.Prelude.{ℕ, ◌+◌, ◌*◌}
use Rattle.raster.specs.declared.Raster.{Raster}

-- where group g of scan line y begins: a scan line is a run of groups, a group one word for each plane
unfoldable pub group_offset : Raster → ℕ → ℕ → ℕ
group_offset r y g = (y * r.groups + g) * (r.planes * 2)

-- where the word of plane p stands in that group: plane 0 first
unfoldable pub word_offset : Raster → ℕ → ℕ → ℕ → ℕ
word_offset r y g p = group_offset r y g + p * 2
