-- Writing a plate as a MacPaint file, and what an accepted writing makes (document 00, demand 3; document 02, ticket
-- 9).
use Rattle.std.specs.Prelude.{ℕ, ◌+◌, ◌≤◌, ◌≡◌, List, length, take, ltb}
use Rattle.outcome.specs.Outcome.{Outcome, refuse_if, map}
use Rattle.outcome.specs.Refusal.{area_too_short}
use Rattle.bodies.specs.Packing.{PackedBody, below_limit, pack_body}
use Rattle.bodies.specs.Unpacking.{UnpackedBody}
use Rattle.bodies.specs.Unpacks.{LeastBelow}
use Rattle.picture.specs.Writing.{Writing}
use Rattle.macpaint.specs.Layout.{header_length, body_limit, longest_file, plate_file}
use Rattle.macpaint.specs.Plate.{plate_raster, plate_bytes}

-- what a packed body gives: its file and its counts
abbrev pub plate_writing : PackedBody → Writing
plate_writing b = record { file = plate_file b.bytes; body = b.body; records = b.records }

-- a plate's least body, packed into an output of `out` bytes after the header
abbrev pub packed_plate : List ℕ → ℕ → Outcome PackedBody
packed_plate plate out = pack_body plate_raster plate body_limit header_length out

-- a plate, the first 51,840 bytes of an area, into an output of `out` bytes: the least body, refused where that is not
-- below the limit
unfoldable pub write_plate : List ℕ → ℕ → Outcome Writing
write_plate plate out =
    refuse_if (ltb out longest_file) area_too_short
    (refuse_if (ltb (length plate) plate_bytes) area_too_short
    (map plate_writing (below_limit plate_raster plate body_limit)))

-- an accepted writing of an area that holds a plate: the file with the writer's row for each row, below 51,200 bytes,
-- the least body of the plate; reported are that body's length and number of records; the file is 512 bytes longer than
-- its body
pub record WritesPlate (plate : List ℕ) (w : Writing) : Type 0 where
  pub packed : List ℕ
  pub form : w.file ≡ plate_file packed
  pub full : plate_bytes ≤ length plate
  pub least : LeastBelow plate_raster plate body_limit packed w.records
  pub size : w.body ≡ length packed
  pub all : length w.file ≡ w.body + header_length

-- the most bytes of a plate's least body
abbrev pub most_bytes : ℕ
most_bytes = 52560

-- what is read back: the plate, with the body's length and records as reported
abbrev pub plate_back : List ℕ → Writing → UnpackedBody
plate_back plate w = record { body = w.body; records = w.records; image = take plate_bytes plate }
