-- The lines of a GEM IMG file, with scanline runs (source 002; document 02, ticket 11).
use Rattle.std.specs.Prelude.{ℕ, ◌+◌, ◌-◌, Bool, cond, not, ◌&&◌, List, length, get_or, ltb, leb, eqb, Ok}
use Rattle.lists.specs.Repeated.{repeated}
use Rattle.outcome.specs.Outcome.{Outcome, map}
use Rattle.outcome.specs.Refusal.{input_ends, wrong_scanline_run}
use Rattle.filling.specs.Filling.{Step, Filling, fill}
use Rattle.gem_img_records.specs.Records.{record_at, is_scanline_run, scanline_run_len}
use Rattle.gem_img_records.specs.Line.{unless_fault, fill_line}
use Rattle.gem_img.specs.declared.LineStart.{LineStart}

-- the byte behind the 00 00 of a scanline run
abbrev pub scanline_flag : ℕ
scanline_flag = 0xFF

-- a scanline run with this flag and this count, where so many lines are left: the count is the lines it makes, 1 or
-- more, and not past the last line
abbrev pub run_allowed : ℕ → ℕ → ℕ → Bool
run_allowed flag count left = eqb flag scanline_flag && (not (eqb count 0) && leb count left)

module _ (file : List ℕ) (at : ℕ) where
  -- whether the line at an offset begins with a scanline run; at the file's end it does, with one of under 4 bytes
  abbrev pub has_run : Bool
  has_run = is_scanline_run (record_at file at)

  abbrev pub run_flag : ℕ
  run_flag = get_or file (at + 2) 0

  abbrev pub run_count : ℕ
  run_count = get_or file (at + 3) 0

  -- the refusal number of that run, or 0, where so many lines are left; 0 where there is none
  unfoldable pub run_fault : ℕ → ℕ
  run_fault left =
      cond has_run
      (cond (ltb (length file - at) scanline_run_len) input_ends
      (cond (run_allowed run_flag run_count left) 0 wrong_scanline_run))
      0

  -- where its other records begin
  unfoldable pub records_from : ℕ
  records_from = cond has_run (at + scanline_run_len) at

  -- how many times the line is used
  unfoldable pub times_used : ℕ
  times_used = cond has_run run_count 1

  abbrev pub line_start : LineStart
  line_start = record { first = records_from; times = times_used }

  -- the line at an offset begun, where so many lines are left
  abbrev pub start_line : ℕ → Outcome LineStart
  start_line left = unless_fault (run_fault left) at (Ok line_start)

-- a line of `bytes` bytes
module _ (pattern bytes : ℕ) (file : List ℕ) where
  -- a line as a step, with `left` lines to make: as often as its scanline run says
  unfoldable pub line_step : ℕ → ℕ → Outcome Step
  line_step at left =
      unless_fault (run_fault file at left) at
      (map
      (λ next. record {
        next = next;
        filled = times_used file at;
        made = repeated (times_used file at) (fill_line pattern file (records_from file at) bytes).made;
      })
      (fill_line pattern file (records_from file at) bytes).ends)

  -- each step makes a line at least
  abbrev pub lines_left : ℕ → ℕ → ℕ
  lines_left at left = left

  -- the lines from an offset on, until `left` lines are made
  unfoldable pub fill_lines : ℕ → ℕ → Filling
  fill_lines at left = fill line_step lines_left at left
