-- What packing and unpacking one row promise (document 01, "Packed rows", "Order of judging").
use Rattle.std.specs.Prelude.{ℕ, ◌≤◌, ◌≡◌, List, length}
use Rattle.lists.specs.Over.{over}
use Rattle.outcome.specs.Outcome.{none}
use Rattle.packbits.specs.declared.RowAnswer.{RowAnswer}
use Rattle.packbits.specs.Row.{row_answer, row_output}
use Rattle.packbits.specs.Unpack.{unpack_row}
use Rattle.pack.specs.IsLeast.{IsLeast}
use Rattle.pack.specs.Pack.{max_body, pack_row}
use Rattle.unpack.specs.AcceptsRow.{AcceptsRow}

-- a row of 1 to 128 bytes, and an output of 129 at least
pub record Packable (row out : List ℕ) : Type 0 where
  pub one : 1 ≤ length row
  pub most : length row ≤ 128
  pub room : max_body ≤ length out

-- "The writer's row is the shortest byte string that unpacks to the row; among equally short ones, the first in
-- dictionary order of unsigned bytes."
pub record PacksLeast (row : List ℕ) (a : RowAnswer) (out after : List ℕ) : Type 0 where
  pub packed : List ℕ
  pub accepted : a.refusal ≡ none
  pub later : after ≡ over packed out
  pub least : IsLeast row packed a.records
  pub bytes : a.bytes ≡ length packed

-- some bytes at the input's front unpack to a row of that width
abbrev pub UnpacksToRow : List ℕ → ℕ → List ℕ → Type 0
UnpacksToRow packed width out =
    (used : ℕ) × (records : ℕ) × (row : List ℕ) × AcceptsRow packed width (length out) used records row

-- the answer of a row that unpacks
pub record Unpacked (used records : ℕ) (row : List ℕ) (a : RowAnswer) (out after : List ℕ) : Type 0 where
  pub accepted : a.refusal ≡ none
  pub bytes : a.bytes ≡ used
  pub count : a.records ≡ records
  pub later : after ≡ over row out

-- a refused row: the output as it was, and zero in all but the refusal
pub record RowRefused (a : RowAnswer) (out after : List ℕ) : Type 0 where
  pub later : after ≡ out
  pub bytes : a.bytes ≡ 0
  pub records : a.records ≡ 0

-- the whole answer of `pack::pack_row`, and of `unpack::unpack_row`
pub record AnswersPack (row : List ℕ) (a : RowAnswer) (out after : List ℕ) : Type 0 where
  pub answer : a ≡ row_answer (pack_row row (length out))
  pub later : after ≡ row_output (pack_row row (length out)) out

pub record AnswersUnpack (packed : List ℕ) (width : ℕ) (a : RowAnswer) (out after : List ℕ) : Type 0 where
  pub answer : a ≡ row_answer (unpack_row packed width (length out))
  pub later : after ≡ row_output (unpack_row packed width (length out)) out
