-- The summary of a DEGAS file as text (document 01, "Examples to hold to").
use Rattle.std.specs.Prelude.{ℕ, ◌+◌, cond, List, ◌++◌, replicate, ltb, Ok, Err, None, Option, Some}
use Rattle.lists.specs.Over.{over}
use Rattle.outcome.specs.Outcome.{Outcome, refuse_if, later}
use Rattle.outcome.specs.Refusal.{area_too_short}
use Rattle.resolution.specs.declared.Resolution.{Resolution}
use Rattle.resolution.specs.Shapes.{screen_bytes, width_of, height_of}
use Rattle.resolution.specs.Choice.{chosen}
use Rattle.tally.specs.declared.Rectangle.{Rectangle}
use Rattle.tally.specs.Counts.{counts}
use Rattle.picture.specs.Reading.{Reading}
use Rattle.degas.specs.Layout.{elite_length}
use Rattle.reader.specs.Reading.{kind_degas, read_file}
use Rattle.report.specs.Lines.{number_lines, tally_line, refusal_line}

-- the bytes that a summary is lent, at least
abbrev pub summary_bytes : ℕ
summary_bytes = 512

-- the first bytes of a file that decide its summary, one more than the longest file has (proofs/Long.antt,
-- `summary-first`)
abbrev pub deciding_bytes : ℕ
deciding_bytes = elite_length + 1

-- ---- the text

abbrev pub whole_screen : Resolution → Rectangle
whole_screen r = record { left = 0; top = 0; columns = width_of r; lines = height_of r }

-- the counts of the whole screen; without a resolution, which no accepted reading lacks, there are none
abbrev pub screen_counts : List ℕ → Option Resolution → List ℕ
screen_counts s (Some r) = counts s r (whole_screen r)
screen_counts s None = replicate 16 0

-- the five lines of a reading: the tail is 1 where present, else 0; the tally is that of the whole screen
unfoldable pub reading_text : Reading → List ℕ
reading_text q =
    number_lines q.picture.resolution q.records q.body (cond q.picture.tail_present 1 0)
    ++ tally_line (screen_counts q.screen (chosen q.picture.resolution))

-- five lines of an accepted reading, one of a refusal
abbrev pub summary_text : Outcome Reading → List ℕ
summary_text (Ok q) = reading_text q
summary_text (Err why) = refusal_line why

-- the summary of a file, which is read as DEGAS
unfoldable pub summary : List ℕ → List ℕ
summary file = summary_text (read_file kind_degas file screen_bytes)

-- ---- what is given back

-- the summary, for an output of `out` bytes
unfoldable pub summarised : List ℕ → ℕ → Outcome (List ℕ)
summarised file out = refuse_if (ltb out summary_bytes) area_too_short (Ok (summary file))

-- the text over the output's front; after a refusal the output as it was
abbrev pub summary_output : Outcome (List ℕ) → List ℕ → List ℕ
summary_output o out = later o (λ text. over text out) out
