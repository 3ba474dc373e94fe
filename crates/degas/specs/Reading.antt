-- Reading a DEGAS file: the whole judgement and what an accepted file holds (document 01, "File layouts", "Order of
-- judging": read).
use Rattle.std.specs.Prelude.{ℕ, ◌+◌, cond, List, length, ltb, eqb, Ok}
use Rattle.outcome.specs.Outcome.{Outcome, refuse, refuse_if, map, bind}
use Rattle.outcome.specs.Refusal.{wrong_length}
use Rattle.words.specs.Word.{words_at}
use Rattle.resolution.specs.declared.Resolution.{Resolution}
use Rattle.resolution.specs.Shapes.{raster_of}
use Rattle.resolution.specs.Choice.{number_of}
use Rattle.picture.specs.declared.Picture.{Picture}
use Rattle.picture.specs.Tables.{tail_at, without_tail, with_tail}
use Rattle.picture.specs.Reading.{Reading, raw_reading, judge_area}
use Rattle.bodies.specs.Unpacking.{UnpackedBody}
use Rattle.bodies.specs.Reading.{read_body}
use Rattle.degas.specs.declared.Header.{Header}
use Rattle.degas.specs.Layout.{palette_start, header_length, tail_length, plain_length, elite_length, packed_most}
use Rattle.degas.specs.Opening.{opening}

-- the picture of a plain file, and of one with a tail at an offset
abbrev pub plain_picture : List ℕ → Resolution → Picture
plain_picture file r = without_tail (number_of r) (words_at 16 file palette_start)

abbrev pub elite_picture : List ℕ → Resolution → ℕ → Picture
elite_picture file r at = with_tail (number_of r) (words_at 16 file palette_start) (tail_at file at)

-- raw: the length decides whether there is a tail
unfoldable pub read_raw : List ℕ → Resolution → Outcome Reading
read_raw file r =
    cond (eqb (length file) plain_length) (Ok (raw_reading (plain_picture file r) file header_length))
    (cond (eqb (length file) elite_length) (Ok (raw_reading (elite_picture file r plain_length) file header_length))
    (refuse wrong_length))

-- a packed file whose body is read
abbrev pub packed_reading : List ℕ → Resolution → UnpackedBody → Reading
packed_reading file r b = record {
  picture = elite_picture file r (header_length + b.body);
  body = b.body;
  records = b.records;
  screen = b.image;
}

-- the body of a packed file, and after it exactly 32 bytes
abbrev pub packed_body : List ℕ → Resolution → Outcome UnpackedBody
packed_body file r = read_body file header_length tail_length (raster_of r)

-- packed: at most the longest file; then the body
unfoldable pub read_packed : List ℕ → Resolution → Outcome Reading
read_packed file r =
    refuse_if (ltb packed_most (length file)) wrong_length (map (packed_reading file r) (packed_body file r))

-- an opened file
abbrev pub read_opened : List ℕ → Header → Outcome Reading
read_opened file h = cond h.packed (read_packed file h.resolution) (read_raw file h.resolution)

-- a file into an area of `area` bytes
unfoldable pub read_degas : List ℕ → ℕ → Outcome Reading
read_degas file area = judge_area area (bind (opening file) (read_opened file))
