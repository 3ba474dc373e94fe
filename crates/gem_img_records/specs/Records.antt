-- One record of a GEM IMG file: what its first two bytes say, and its judgement (source 002, "For each byte x in the
-- data section"; document 02, ticket 11).
use Rattle.std.specs.Prelude.{ℕ, ◌+◌, ◌-◌, ◌*◌, ◌%◌, Bool, true, false, cond, List, [], length, get_or, take, drop, replicate, ltb, eqb}
use Rattle.lists.specs.Repeated.{repeated}
use Rattle.outcome.specs.Refusal.{input_ends, record_crosses, wrong_scanline_run}
use Rattle.gem_img_records.specs.declared.Record.{Record}
use Rattle.gem_img_records.specs.declared.Record.TheVariants.{ScanlineRun, PatternRun, Literal, SolidRun}

-- the byte that begins a pattern or scanline run, and the one that begins a literal; any other begins a solid run
abbrev pub run_control : ℕ
run_control = 0

abbrev pub literal_control : ℕ
literal_control = 0x80

-- The record that byte x begins, n being the byte behind it: a run of the pattern n times or, with n = 0, a scanline
-- run; a literal of n bytes; a solid run.
unfoldable pub control : ℕ → ℕ → Record
control x n =
    cond (eqb x run_control) (cond (eqb n 0) ScanlineRun (PatternRun n))
    (cond (eqb x literal_control) (Literal n) (SolidRun x))

-- The record at an offset of a file. A byte past the end counts as 0, so that a lone 00 and the file's end count as a
-- scanline run, of under 4 bytes.
unfoldable pub record_at : List ℕ → ℕ → Record
record_at file at = control (get_or file at 0) (get_or file (at + 1) 0)

abbrev pub is_scanline_run : Record → Bool
is_scanline_run ScanlineRun = true
is_scanline_run (PatternRun n) = false
is_scanline_run (Literal n) = false
is_scanline_run (SolidRun x) = false

-- a scanline run: 00 00, the flag and the count
abbrev pub scanline_run_len : ℕ
scanline_run_len = 4

-- the length of a solid run: the low 7 bits of its byte
abbrev pub solid_len : ℕ → ℕ
solid_len x = x % 128

-- the byte that it repeats, by its high bit: pixels cleared or set
unfoldable pub solid_byte : ℕ → ℕ
solid_byte x = cond (ltb x 128) 0x00 0xFF

-- the refusal number of a scanline run where none may stand: cut short, or out of place
abbrev pub misplaced_fault : ℕ → ℕ
misplaced_fault left = cond (ltb left scanline_run_len) input_ends wrong_scanline_run

-- Patterns of so many bytes.
module _ (pattern : ℕ) where
  -- how many bytes of the file a record takes up
  abbrev pub packed_len : Record → ℕ
  packed_len ScanlineRun = scanline_run_len
  packed_len (PatternRun n) = 2 + pattern
  packed_len (Literal n) = 2 + n
  packed_len (SolidRun x) = 1

  -- how many bytes of its line it makes
  abbrev pub line_len : Record → ℕ
  line_len ScanlineRun = 0
  line_len (PatternRun n) = n * pattern
  line_len (Literal n) = n
  line_len (SolidRun x) = solid_len x

  -- the bytes of its line that it makes, at an offset of a file
  abbrev pub line_bytes : Record → List ℕ → ℕ → List ℕ
  line_bytes ScanlineRun file at = []
  line_bytes (PatternRun n) file at = repeated n (take pattern (drop (at + 2) file))
  line_bytes (Literal n) file at = take n (drop (at + 2) file)
  line_bytes (SolidRun x) file at = replicate (solid_len x) (solid_byte x)

  -- whether more bytes are made than there is room for, and then whether the file ends before the record does
  abbrev pub fit_fault : Record → ℕ → ℕ → ℕ
  fit_fault r left room =
      cond (ltb room (line_len r)) record_crosses (cond (ltb left (packed_len r)) input_ends 0)

  -- The refusal number of a record of a line, or 0, with `left` bytes of the file from its first byte on and `room`
  -- bytes of the line to make.
  abbrev pub fault : Record → ℕ → ℕ → ℕ
  fault ScanlineRun left room = misplaced_fault left
  fault (PatternRun n) left room = fit_fault (PatternRun n) left room
  fault (Literal n) left room = fit_fault (Literal n) left room
  fault (SolidRun x) left room = fit_fault (SolidRun x) left room

  -- of the record at an offset of a file
  unfoldable pub fault_at : List ℕ → ℕ → ℕ → ℕ
  fault_at file at room = fault (record_at file at) (length file - at) room
