-- Reading a Tiny file (document 02, ticket 1): the whole judgement, and what an accepted file holds.
use Rattle.std.specs.Prelude.{ℕ, ◌+◌, not, cond, ◌||◌, List, length, ltb, eqb, Ok, Err}
use Rattle.outcome.specs.Outcome.{Outcome, refusal, refuse_if}
use Rattle.outcome.specs.Refusal.{wrong_length, unknown_resolution, size_mismatch}
use Rattle.words.specs.Word.{words_at}
use Rattle.picture.specs.declared.Picture.{Picture}
use Rattle.picture.specs.Tables.{without_tail}
use Rattle.picture.specs.Reading.{Reading, judge_area}
use Rattle.tiny.specs.Layout.{shortest_length, highest_byte, resolution_byte, resolution_number, palette_start}
use Rattle.tiny.specs.Layout.{control_start, data_count, body_length, control_section, data_section}
use Rattle.tiny_runs.specs.Expansion.{Expansion, expand}
use Rattle.tiny.specs.ScreenWords.{screen_words, screen_bytes_of}

-- how far expanding a file's sections comes
abbrev pub expanded : List ℕ → Expansion
expanded file = expand (control_section file) (data_section file) screen_words

-- rotation bytes are skipped; there is no tail
abbrev pub tiny_picture : List ℕ → Picture
tiny_picture file = without_tail (resolution_number file) (words_at 16 file (palette_start file))

-- body is both sections' bytes, records the runs
abbrev pub tiny_reading : List ℕ → ℕ → List ℕ → Reading
tiny_reading file runs words =
    record { picture = tiny_picture file; body = body_length file; records = runs; screen = screen_bytes_of words }

-- 11 or 12 at the first run at fault, its place the control byte's; after the last run 13 for data left or words
-- missing
unfoldable pub read_runs : List ℕ → Expansion → Outcome Reading
read_runs file p =
    cond (not (eqb p.fault 0)) (Err (refusal p.fault (control_start file + p.controls)))
    (refuse_if (ltb p.datas (data_count file) || ltb (length p.made) screen_words) size_mismatch
    (Ok (tiny_reading file p.runs p.made)))

-- 3 (under 41 with rotation, or not what its counts give), then the runs
unfoldable pub read_sections : List ℕ → Outcome Reading
read_sections file =
    refuse_if (ltb (length file) (control_start file)) wrong_length
    (refuse_if (not (eqb (length file) (control_start file + body_length file))) wrong_length
    (read_runs file (expanded file)))

-- a file into an area of `area` bytes: 1, 3 (under 37 bytes), 5, and the rest
unfoldable pub read_tiny : List ℕ → ℕ → Outcome Reading
read_tiny file area =
    judge_area area
    (refuse_if (ltb (length file) shortest_length) wrong_length
    (refuse_if (ltb highest_byte (resolution_byte file)) unknown_resolution
    (read_sections file)))
