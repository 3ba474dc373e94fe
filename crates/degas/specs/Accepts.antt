-- The DEGAS files that reading accepts, and what it gives (document 00, demand 2; document 01, "File layouts").
use Rattle.std.specs.Prelude.{ℕ, ◌≡◌, true, false, List, length, Some}
use Rattle.resolution.specs.declared.Resolution.{Resolution}
use Rattle.resolution.specs.Shapes.{raster_of}
use Rattle.resolution.specs.Choice.{chosen}
use Rattle.picture.specs.Reading.{Reading, raw_reading}
use Rattle.bodies.specs.Reading.{BodyFits, body_given}
use Rattle.degas.specs.Layout.{header_length, tail_length, body_limit, plain_length, elite_length}
use Rattle.degas.specs.Opening.{resolution_number, is_packed}
use Rattle.degas.specs.Reading.{plain_picture, elite_picture, packed_reading}

-- a packed file: 34 bytes, a body below 32,000 bytes that unpacks to a screen, and 32 bytes
abbrev pub PackedFits : List ℕ → Resolution → Type 0
PackedFits file r = BodyFits file header_length tail_length body_limit (raster_of r)

-- the parts of a file fit and its runs fill every plane row exactly; of its first word bit 15 says packed
pub data Fits (file : List ℕ) (r : Resolution) : Type 0 where
  plain : is_packed file ≡ false → length file ≡ plain_length → Fits file r
  elite : is_packed file ≡ false → length file ≡ elite_length → Fits file r
  packed : is_packed file ≡ true → PackedFits file r → Fits file r

-- and its resolution is allowed
pub record AcceptsDegas (file : List ℕ) : Type 0 where
  pub resolution : Resolution
  pub allowed : chosen (resolution_number file) ≡ Some resolution
  pub fits : Fits file resolution

-- what an accepted file gives: of a packed one the screen that the body unpacks to, the body's length and its records
abbrev pub packed_given : {file : List ℕ} (r : Resolution) → PackedFits file r → Reading
packed_given {file} r p = packed_reading file r (body_given p)

abbrev pub fits_given : {file : List ℕ} {r : Resolution} → Fits file r → Reading
fits_given {file} {r} (plain raw size) = raw_reading (plain_picture file r) file header_length
fits_given {file} {r} (elite raw size) = raw_reading (elite_picture file r plain_length) file header_length
fits_given {file} {r} (packed is p) = packed_given r p

abbrev pub degas_given : {file : List ℕ} → AcceptsDegas file → Reading
degas_given a = fits_given a.fits
