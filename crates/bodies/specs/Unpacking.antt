-- The packed body of a raster, unpacked from an offset of a file (document 01, "Packed rows").
use Rattle.std.specs.Prelude.{ℕ, ◌≡◌, List, Ok}
use Rattle.outcome.specs.Outcome.{Outcome, map}
use Rattle.packbits.specs.declared.Packed.{Packed}
use Rattle.packbits.specs.Rows.{Rows, unpack_rows_at}
use Rattle.raster.specs.declared.Raster.{Raster}
use Rattle.raster.specs.Shape.{row_bytes, rows}
use Rattle.raster.specs.PlaneRows.{image_of}
use Rattle.raster.specs.Joined.{joined_image}
use Rattle.bodies.specs.declared.BodyAnswer.{BodyAnswer}
use Rattle.bodies.specs.Body.{given_body_answer}

-- a body that was unpacked
pub record UnpackedBody : Type 0 where
  -- its packed bytes
  pub body : ℕ
  -- its records, those that do nothing included
  pub records : ℕ
  -- the raster's bytes that it makes
  pub image : List ℕ

-- the same counts, and the image that the rows make
abbrev pub body_of : Raster → Rows → UnpackedBody
body_of r q = record { body = q.bytes; records = q.records; image = image_of r q.rows }

-- The raster's plane rows, unpacked one after the other. Places count from the file's start. The offset is not judged:
-- past the file's end no byte is left, and the place is the offset itself.
abbrev pub unpack_body : List ℕ → ℕ → Raster → Outcome UnpackedBody
unpack_body file at r = map (body_of r) (unpack_rows_at file at (row_bytes r) (rows r))

-- what is given of it besides the image
abbrev pub body_unpacked : UnpackedBody → Packed
body_unpacked u = record { bytes = u.body; records = u.records }

abbrev pub unpacked_answer : Outcome UnpackedBody → BodyAnswer
unpacked_answer o = given_body_answer (map body_unpacked o)

-- the later content of the buffer into which a body is unpacked: of an accepted one the plane rows stand at its front,
-- one behind the other
abbrev pub RowsUnpacked : List ℕ → ℕ → Raster → List ℕ → Type 0
RowsUnpacked file at r later = (u : UnpackedBody) → unpack_body file at r ≡ Ok u → joined_image r later ≡ u.image
