-- Planes that stand one behind the other, put into a small raster, computed.
use mathlib.Core.Path.{◌≡◌, refl}
use mathlib.Core.List.{[], ◌∷◌}
use Rattle.lists.specs.Tabulate.{tabulate}
use Rattle.raster.specs.PlaneRows.{row_at, column_at, image_of}
use Rattle.planar.specs.Planar.{planar_row, planar_image}

-- two scan lines of two groups and two planes: plane 0 is the first eight bytes, plane 1 the others
pub small-image : planar_image (record { lines = 2; groups = 2; planes = 2 }) (tabulate 16 (λ k. k))
    ≡ 0 ∷ 1 ∷ 8 ∷ 9 ∷ 2 ∷ 3 ∷ 10 ∷ 11 ∷ 4 ∷ 5 ∷ 12 ∷ 13 ∷ 6 ∷ 7 ∷ 14 ∷ 15 ∷ []
unfolding planar_image planar_row image_of row_at column_at tabulate
small-image = refl
