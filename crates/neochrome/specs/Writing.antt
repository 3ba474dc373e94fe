-- Writing a NEOchrome file, and what reading finds in it (document 01, "Order of judging": write).
use Rattle.std.specs.Prelude.{ℕ, List, length, take}
use Rattle.outcome.specs.Outcome.{Outcome, bind}
use Rattle.resolution.specs.Shapes.{screen_bytes}
use Rattle.picture.specs.declared.Picture.{Picture}
use Rattle.picture.specs.Tables.{without_tail}
use Rattle.picture.specs.Reading.{Reading}
use Rattle.picture.specs.Writing.{Writing, raw_writing, judge_writing}
use Rattle.neochrome.specs.Layout.{neochrome_file}

-- a screen into an output of `out` bytes
unfoldable pub write_neochrome : Picture → List ℕ → ℕ → Outcome Writing
write_neochrome p screen out =
    bind (judge_writing (length screen) out p.resolution) (λ r. raw_writing (neochrome_file p screen))

-- what is read back: the tail is dropped; the counts as reported, and the screen
abbrev pub neochrome_back : Picture → List ℕ → Writing → Reading
neochrome_back p screen w = record {
  picture = without_tail p.resolution p.palette;
  body = w.body;
  records = w.records;
  screen = take screen_bytes screen;
}
