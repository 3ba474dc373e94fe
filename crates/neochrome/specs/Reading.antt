-- Reading a NEOchrome file (document 01, "Order of judging": read).
use Rattle.std.specs.Prelude.{ℕ, List, Ok}
use Rattle.outcome.specs.Outcome.{Outcome, bind}
use Rattle.words.specs.Word.{words_at}
use Rattle.resolution.specs.declared.Resolution.{Resolution}
use Rattle.resolution.specs.Choice.{number_of}
use Rattle.picture.specs.Tables.{without_tail}
use Rattle.picture.specs.Reading.{Reading, raw_reading, judge_area}
use Rattle.neochrome.specs.Layout.{palette_start, screen_start}
use Rattle.neochrome.specs.Opening.{opening}

-- what an opened file holds: the palette and the raw screen, and no tail
abbrev pub neochrome_reading : List ℕ → Resolution → Reading
neochrome_reading file r = raw_reading (without_tail (number_of r) (words_at 16 file palette_start)) file screen_start

-- a file into an area of `area` bytes
unfoldable pub read_neochrome : List ℕ → ℕ → Outcome Reading
read_neochrome file area = judge_area area (bind (opening file) (λ r. Ok (neochrome_reading file r)))
