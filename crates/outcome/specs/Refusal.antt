-- Refusal numbers (document 01, "Numbers given back"; from 11 on document 02). 0 is an acceptance.
use Rattle.std.specs.Prelude.{ℕ, Option, Some, None}
use Rattle.outcome.specs.declared.Reason.{Reason}
use Rattle.outcome.specs.declared.Reason.TheVariants.{AreaTooShort, UnknownKind, WrongLength, WrongFlag}
use Rattle.outcome.specs.declared.Reason.TheVariants.{UnknownResolution, InputEnds, RecordCrosses, WrongTail}
use Rattle.outcome.specs.declared.Reason.TheVariants.{NoPackedBody, OutOfRange, UndefinedControl, RunTooLong}
use Rattle.outcome.specs.declared.Reason.TheVariants.{SizeMismatch, WrongHeader, Bit15Set, IgnoredBitsSet}
use Rattle.outcome.specs.declared.Reason.TheVariants.{NoZeroTail, NotOwned, WrongVersion, OutsideProfile}
use Rattle.outcome.specs.declared.Reason.TheVariants.{WrongScanlineRun}

-- a lent area too short
abbrev pub area_too_short : ℕ
area_too_short = 1

-- unknown kind, form or list; a file to convert to Elite that is not plain; one whose records are asked for that is not
-- packed
abbrev pub unknown_kind : ℕ
unknown_kind = 2

-- file length not allowed
abbrev pub wrong_length : ℕ
wrong_length = 3

-- NEOchrome flag not 0
abbrev pub wrong_flag : ℕ
wrong_flag = 4

-- resolution above 2
abbrev pub unknown_resolution : ℕ
unknown_resolution = 5

-- input ends before the screen or row is full, or before a palette of an SPC file does
abbrev pub input_ends : ℕ
input_ends = 6

-- a record crosses its row's end, or in an SPC file the end of the picture data
abbrev pub record_crosses : ℕ
record_crosses = 7

-- after the body not exactly the bytes that the format has there: 32 of DEGAS, none of MacPaint or GEM IMG
abbrev pub wrong_tail : ℕ
wrong_tail = 8

-- no packed body below the format's limit exists: 32,000 bytes of DEGAS, 51,200 of MacPaint
abbrev pub no_packed_body : ℕ
no_packed_body = 9

-- a number out of range
abbrev pub out_of_range : ℕ
out_of_range = 10

-- a control byte or a count that is not defined
abbrev pub undefined_control : ℕ
undefined_control = 11

-- a count cut short, or a run past the words to make or the data
abbrev pub run_too_long : ℕ
run_too_long = 12

-- after the last run of a Tiny file, data left or words missing; bytes left of a map of an SPC file
abbrev pub size_mismatch : ℕ
size_mismatch = 13

-- the flag word or the reserved word of an SPC file
abbrev pub wrong_header : ℕ
wrong_header = 14

-- bit 15 of a palette's vector in an SPC file set
abbrev pub bit15_set : ℕ
bit15_set = 15

-- bits 2 to 14 of a plain DEGAS file's first word not all 0
abbrev pub ignored_bits_set : ℕ
ignored_bits_set = 17

-- a DEGAS file's tail absent or not all zero
abbrev pub no_zero_tail : ℕ
no_zero_tail = 18

-- another party's legend entry, or the release of a free one
abbrev pub not_owned : ℕ
not_owned = 19

-- MacPaint version neither 0 nor 2
abbrev pub wrong_version : ℕ
wrong_version = 20

-- a GEM IMG header outside the screen profile
abbrev pub outside_profile : ℕ
outside_profile = 21

-- a scanline run of a GEM IMG file out of place, or its flag or count wrong
abbrev pub wrong_scanline_run : ℕ
wrong_scanline_run = 22

-- the number of a reason
abbrev pub number_of : Reason → ℕ
number_of AreaTooShort = area_too_short
number_of UnknownKind = unknown_kind
number_of WrongLength = wrong_length
number_of WrongFlag = wrong_flag
number_of UnknownResolution = unknown_resolution
number_of InputEnds = input_ends
number_of RecordCrosses = record_crosses
number_of WrongTail = wrong_tail
number_of NoPackedBody = no_packed_body
number_of OutOfRange = out_of_range
number_of UndefinedControl = undefined_control
number_of RunTooLong = run_too_long
number_of SizeMismatch = size_mismatch
number_of WrongHeader = wrong_header
number_of Bit15Set = bit15_set
number_of IgnoredBitsSet = ignored_bits_set
number_of NoZeroTail = no_zero_tail
number_of NotOwned = not_owned
number_of WrongVersion = wrong_version
number_of OutsideProfile = outside_profile
number_of WrongScanlineRun = wrong_scanline_run

-- the number of a reason; 0 of none
abbrev pub number_if : Option Reason → ℕ
number_if (Some why) = number_of why
number_if None = 0
