-- The MacPaint files that reading accepts, and what it gives, said without the functions that unpack (document 02,
-- ticket 9; ticket 5: "accepted exactly when no listed refusal comes").
use Rattle.std.specs.Prelude.{ℕ, ◌≡◌, ◌⊎◌, List}
use Rattle.bodies.specs.Unpacking.{UnpackedBody}
use Rattle.bodies.specs.Reading.{BodyFits, body_given}
use Rattle.macpaint.specs.Layout.{header_length, after_body, body_limit, version, header_ignored, header_valid}
use Rattle.macpaint.specs.Plate.{plate_raster}

-- its version is one of the two, and the file is 512 bytes of header and a body below 51,200 bytes whose runs fill
-- every row of a plate exactly
pub record AcceptsPlate (file : List ℕ) : Type 0 where
  pub allowed : (version file ≡ header_ignored) ⊎ (version file ≡ header_valid)
  pub fits : BodyFits file header_length after_body body_limit plate_raster

-- what it gives: the plate that the body unpacks to, the body's length and its records
abbrev pub plate_given : {file : List ℕ} → AcceptsPlate file → UnpackedBody
plate_given a = body_given a.fits
