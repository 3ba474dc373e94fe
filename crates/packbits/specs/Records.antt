-- One PackBits record: what a control byte says, and the record at the front of an input (document 01, "Packed rows").
use Rattle.std.specs.Prelude.{ℕ, ◌+◌, ◌-◌, cond, List, [], ◌∷◌, length, get_or, take, drop, replicate, ltb, eqb}
use Rattle.std.specs.Prelude.{Option, None, Some}
use Rattle.outcome.specs.declared.Reason.{Reason}
use Rattle.outcome.specs.declared.Reason.TheVariants.{InputEnds, RecordCrosses}
use Rattle.outcome.specs.Refusal.{number_if}
use Rattle.packbits.specs.declared.Record.{Record}
use Rattle.packbits.specs.declared.Record.TheVariants.{Literal, Repeat, Nothing, Truncated, Crossing}

-- The record that control byte x begins. Signed, x is 0 to 127 for a literal of x + 1 bytes, -128 (unsigned 128) for
-- nothing, and -127 to -1 (unsigned 129 to 255) for a repeat, -x + 1 times (257 less the unsigned byte).
unfoldable pub control : ℕ → Record
control x = cond (ltb x 128) (Literal (x + 1)) (cond (eqb x 128) Nothing (Repeat (257 - x)))

-- how many bytes of input a record takes up, its control byte included
abbrev pub packed_len : Record → ℕ
packed_len (Literal n) = n + 1
packed_len (Repeat n) = 2
packed_len Nothing = 1
packed_len Truncated = 0
packed_len Crossing = 0

-- how many bytes of the row it makes
abbrev pub row_len : Record → ℕ
row_len (Literal n) = n
row_len (Repeat n) = n
row_len Nothing = 0
row_len Truncated = 0
row_len Crossing = 0

-- the bytes of the row that it makes, from the input that begins with its control byte
abbrev pub row_bytes : Record → List ℕ → List ℕ
row_bytes (Literal n) input = take n (drop 1 input)
row_bytes (Repeat n) input = replicate n (get_or input 1 0)
row_bytes Nothing input = []
row_bytes Truncated input = []
row_bytes Crossing input = []

-- why a record is refused; none of a whole one
abbrev pub fault_of : Record → Option Reason
fault_of (Literal n) = None
fault_of (Repeat n) = None
fault_of Nothing = None
fault_of Truncated = Some InputEnds
fault_of Crossing = Some RecordCrosses

-- the refusal number of a record at fault; 0 of a whole one
abbrev pub fault : Record → ℕ
fault r = number_if (fault_of r)

-- A record, or its fault, with `left` bytes of input, its control byte included, and `room` bytes of the row to make.
-- The row's end is judged before missing input.
abbrev pub judged : Record → ℕ → ℕ → Record
judged r left room = cond (ltb room (row_len r)) Crossing (cond (ltb left (packed_len r)) Truncated r)

-- the record at the front of the input, with so much room left in the row
unfoldable pub record_at : List ℕ → ℕ → Record
record_at [] room = Truncated
record_at (x ∷ rest) room = judged (control x) (length (x ∷ rest)) room
