-- Writing a DEGAS file, and what reading finds in it (document 01, "Order of judging": write).
use Rattle.std.specs.Prelude.{ℕ, List, length, take}
use Rattle.outcome.specs.Outcome.{Outcome, map, bind}
use Rattle.resolution.specs.declared.Resolution.{Resolution}
use Rattle.resolution.specs.Shapes.{screen_bytes, raster_of}
use Rattle.bodies.specs.Packing.{PackedBody, below_limit}
use Rattle.picture.specs.declared.Picture.{Picture}
use Rattle.picture.specs.Tables.{without_tail, with_tail}
use Rattle.picture.specs.Reading.{Reading}
use Rattle.picture.specs.Writing.{Writing, raw_writing, judge_writing}
use Rattle.degas.specs.declared.Form.{Form}
use Rattle.degas.specs.declared.Form.TheVariants.{Plain, Elite, Packed}
use Rattle.degas.specs.Layout.{body_limit, plain_file, elite_file, packed_file}

-- the file of a packed body
abbrev pub packed_writing : Picture → PackedBody → Writing
packed_writing p b = record { file = packed_file p b.bytes; body = b.body; records = b.records }

-- the least body of a screen, refused where that is not below the limit
abbrev pub packed_screen : Resolution → List ℕ → Outcome PackedBody
packed_screen r screen = below_limit (raster_of r) screen body_limit

-- form 3
unfoldable pub write_packed : Resolution → Picture → List ℕ → Outcome Writing
write_packed r p screen = map (packed_writing p) (packed_screen r screen)

-- a form at a known resolution
abbrev pub write_form : Form → Resolution → Picture → List ℕ → Outcome Writing
write_form Plain r p screen = raw_writing (plain_file p screen)
write_form Elite r p screen = raw_writing (elite_file p screen)
write_form Packed r p screen = write_packed r p screen

-- a screen into an output of `out` bytes
unfoldable pub write_degas : Form → Picture → List ℕ → ℕ → Outcome Writing
write_degas form p screen out = bind (judge_writing (length screen) out p.resolution) (λ r. write_form form r p screen)

-- what is read back: form 1 drops the tail; forms 2 and 3 write its words as given, so a tail is then present
abbrev pub picture_back : Form → Picture → Picture
picture_back Plain p = without_tail p.resolution p.palette
picture_back Elite p = with_tail p.resolution p.palette p.tail
picture_back Packed p = with_tail p.resolution p.palette p.tail

-- with the body's length and records as reported, and the screen
abbrev pub degas_back : Form → Picture → List ℕ → Writing → Reading
degas_back form p screen w = record {
  picture = picture_back form p;
  body = w.body;
  records = w.records;
  screen = take screen_bytes screen;
}
