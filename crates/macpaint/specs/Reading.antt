-- Reading a MacPaint file: the whole judgement and what an accepted file gives (document 02, ticket 9).
use Rattle.std.specs.Prelude.{ℕ, Bool, not, ◌||◌, List, length, ltb, eqb}
use Rattle.outcome.specs.Outcome.{Outcome, refuse_if}
use Rattle.outcome.specs.Refusal.{area_too_short, wrong_length, wrong_version}
use Rattle.bodies.specs.Unpacking.{UnpackedBody}
use Rattle.bodies.specs.Reading.{read_body}
use Rattle.macpaint.specs.Layout.{header_length, after_body, longest_file, version, header_ignored, header_valid}
use Rattle.macpaint.specs.Plate.{plate_raster, plate_bytes}

abbrev pub version_allowed : List ℕ → Bool
version_allowed file = eqb (version file) header_ignored || eqb (version file) header_valid

-- the file's length, then its version; nothing else of the header is judged
abbrev pub judge_header : {A : Type 0} → List ℕ → Outcome A → Outcome A
judge_header file further =
    refuse_if (ltb (length file) header_length) wrong_length
    (refuse_if (ltb longest_file (length file)) wrong_length
    (refuse_if (not (version_allowed file)) wrong_version
    further))

-- the body, after the header and before the file's end
abbrev pub plate_body : List ℕ → Outcome UnpackedBody
plate_body file = read_body file header_length after_body plate_raster

-- a file into an area of `area` bytes; the image is the plate
unfoldable pub read_plate : List ℕ → ℕ → Outcome UnpackedBody
read_plate file area =
    refuse_if (ltb area plate_bytes) area_too_short
    (judge_header file (plate_body file))
