-- Laws of `row_fits`: the three inequalities, both ways.
use mathlib.Core.Path.{◌≡◌, refl}
use mathlib.Core.Bool.{true}
use Prim.Native.Nat.{ℕ, ◌≤◌, ◌<◌}
use lib.Dec.{ltb, leb}
use borrow.Author.Tests.{ltb-true, leb-true, le-leb, lt-ltb}
use Rattle.lists.proofs.Cond.{and-true}
use Rattle.raster.specs.declared.Raster.{Raster}
use Rattle.raster.specs.Shape.{row_bytes, rows, bytes}
use Rattle.raster.specs.PlaneRows.{row_fits}

module _ (room : ℕ) (r : Raster) (n width : ℕ) where
  pub row_fits_lem : bytes r ≤ room → n < rows r → row_bytes r ≤ width → row_fits room r n width ≡ true
  unfolding row_fits
  row_fits_lem h k l = rw (le-leb _ _ h, lt-ltb _ _ k, le-leb _ _ l)

  pub fits : (row_fits room r n width ≡ row_fits room r n width)
      × (row_fits room r n width ≡ true → (bytes r ≤ room) × (n < rows r) × (row_bytes r ≤ width))
  unfolding row_fits
  fits = (
    refl,
    λ e.
        let a = and-true (leb (bytes r) room) _ e in
        let b = and-true (ltb n (rows r)) _ a.1 in
        (leb-true _ _ a.0, ltb-true _ _ b.0, leb-true _ _ b.1),
  )
