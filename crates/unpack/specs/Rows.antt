-- Rows of one width unpacked into one output, each behind the one before it (document 01, "Packed rows").
use Rattle.std.specs.Prelude.{ℕ, ◌+◌, ◌*◌, ◌-◌, ◌/◌, ◌≤◌, ◌<◌, ◌≡◌, Bool, true, false, length, take, drop, ltb}
use mathlib.Core.List.{List, ◌++◌, flatten}
use Rattle.outcome.specs.Outcome.{Outcome, refuse_if}
use Rattle.outcome.specs.Refusal.{area_too_short, out_of_range}
use Rattle.packbits.specs.declared.Record.{Record}
use Rattle.packbits.specs.declared.Record.TheVariants.{Literal, Repeat, Nothing, Truncated, Crossing}
use Rattle.packbits.specs.Row.{width_out_of_range}
use Rattle.packbits.specs.Rows.{Rows, RowsProgress, rows_from, rows_progress}

-- refused where a row is not 1 to 128 bytes wide, or an output of `room` bytes is shorter than the rows; otherwise
-- judged further
unfoldable pub judge_rows : ℕ → ℕ → ℕ → Outcome Rows → Outcome Rows
judge_rows rows width room further =
    refuse_if (width_out_of_range width) out_of_range
    (refuse_if (ltb (room / width) rows) area_too_short
    further)

-- the rows are not refused so
pub record RowsFit (rows width room : ℕ) : Type 0 where
  pub some : 0 < width
  pub narrow : width ≤ 128
  pub size : rows * width ≤ room

-- the rows that are whole, also where a later record is at fault
abbrev pub whole_rows : List ℕ → ℕ → ℕ → ℕ → List (List ℕ)
whole_rows file at rows width = (rows_progress rows width (drop at file)).rows

-- l begins with s
abbrev pub Begins : List ℕ → List ℕ → Type 0
Begins s l = take (length s) l ≡ s

-- how far all rows come, and how far those come of which the first has these bytes already
abbrev pub all_rows : List ℕ → ℕ → ℕ → ℕ → RowsProgress
all_rows file at rows width = rows_progress rows width (drop at file)

abbrev pub rest_rows : List ℕ → ℕ → ℕ → ℕ → List ℕ → RowsProgress
rest_rows file from rows width begun = rows_from rows width begun (drop from file)

-- Rows from an offset of a file are unpacked up to `from`, by `records` records. The `to` bytes that these make stand
-- at the front of an output, and the row under way lacks `room` bytes.
pub record RowsRead (file : List ℕ) (at rows width : ℕ) (out : List ℕ) (from to room records : ℕ) : Type 0 where
  -- the rows that are full, the bytes of the row under way, and how many rows are not full
  pub full : List (List ℕ)
  pub begun : List ℕ
  pub more : ℕ
  pub count : length full + more ≡ rows
  pub row : room + length begun ≡ width
  pub place : to ≡ length full * width + length begun
  pub written : take to out ≡ flatten full ++ begun
  -- what is left of the file gives the rest
  pub ends : (all_rows file at rows width).rows ≡ full ++ (rest_rows file from more width begun).rows
  pub last : (all_rows file at rows width).begun ≡ (rest_rows file from more width begun).begun
  pub fault : (all_rows file at rows width).fault ≡ (rest_rows file from more width begun).fault
  pub bytes : at + (all_rows file at rows width).bytes ≡ from + (rest_rows file from more width begun).bytes
  pub total : (all_rows file at rows width).records ≡ records + (rest_rows file from more width begun).records
  pub counted : at + records ≤ from
  pub inside : from - at ≤ length file - at

-- a record at fault, or a literal of more than eight bytes
abbrev pub long : Record → Bool
long (Literal n) = ltb 8 n
long (Repeat n) = false
long Nothing = false
long Truncated = true
long Crossing = true
