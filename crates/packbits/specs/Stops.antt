-- Where unpacking rows stops at a record at fault, and what is good before it, said without the functions that unpack:
-- `Faulty` uses only what a control byte says (`control`, `row_len`, `packed_len`). Document 02, ticket 3; document 01,
-- "Packed rows", "Numbers given back".
use Rattle.std.specs.Prelude.{ℕ, ◌+◌, ◌-◌, ◌≤◌, ◌<◌, ◌≡◌, ◌⊎◌, List, [], ◌∷◌, ◌++◌, length, get_or, take}
use Rattle.lists.specs.Wide.{Wide}
use Rattle.outcome.specs.declared.Refusal.{Refusal}
use Rattle.outcome.specs.Refusal.{input_ends, record_crosses}
use Rattle.packbits.specs.Records.{control, packed_len, row_len}
use Rattle.packbits.specs.UnpacksRows.{UnpacksRows}
use Rattle.packbits.specs.WholeRecords.{WholeRecords}

-- the numbers of a record at fault, 6 and 7
abbrev pub AtRecord : ℕ → Type 0
AtRecord number = (number ≡ input_ends) ⊎ (number ≡ record_crosses)

-- `Faulty input room number`: the record at the front of the input, with so much room left in the row, is at fault with
-- this number. The row's end is judged before missing input.
pub data Faulty : List ℕ → ℕ → ℕ → Type 0 where
  -- no control byte is left
  ended : {room : ℕ} → Faulty [] room input_ends
  -- the record makes more bytes than there is room for
  crosses : {x : ℕ} {rest : List ℕ} {room : ℕ} → room < row_len (control x) → Faulty (x ∷ rest) room record_crosses
  -- it makes no more, and the input ends before it does
  truncated : {x : ℕ} {rest : List ℕ} {room : ℕ} → row_len (control x) ≤ room
      → length (x ∷ rest) < packed_len (control x) → Faulty (x ∷ rest) room input_ends

-- `Stops n width input why`: n rows of a width, unpacked from the front of the input, stop at a record at fault. Before
-- it stand the bodies of whole rows, and then the records of the row under way, which is not full: a row is whole the
-- moment it is full, so that where no byte is left after a full row, the next one stops. The place is the number of
-- packed bytes before the record at fault, the plane row the number of whole rows, and the good bytes those that the
-- row under way has.
pub record Stops (n width : ℕ) (input : List ℕ) (why : Refusal) : Type 0 where
  pub rows : List (List ℕ)
  pub begun : List ℕ
  -- the bodies of the whole rows, the records of the row under way, and the record at fault with all behind it
  pub whole : List ℕ
  pub part : List ℕ
  pub rest : List ℕ
  -- how many records the first two have
  pub whole_records : ℕ
  pub part_records : ℕ
  pub parts : input ≡ whole ++ (part ++ rest)
  pub wide : Wide width rows
  pub full : UnpacksRows whole rows whole_records
  pub made : WholeRecords part begun part_records
  pub more : length rows < n
  pub under : length begun < width
  pub faulty : Faulty rest (width - length begun) why.number
  pub place : why.place ≡ length whole + length part
  pub plane_row : why.plane_row ≡ length rows
  pub good_bytes : why.good_bytes ≡ length begun

-- `BeginsWith rows begun list`: a list of rows begins with these rows, and the row after them with these bytes
pub record BeginsWith (rows : List (List ℕ)) (begun : List ℕ) (list : List (List ℕ)) : Type 0 where
  pub whole : take (length rows) list ≡ rows
  pub next : take (length begun) (get_or list (length rows) []) ≡ begun
