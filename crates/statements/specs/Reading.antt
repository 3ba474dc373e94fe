-- What reading a file promises (document 00, demand 2; of a refusal, demand 1).
use Rattle.std.specs.Prelude.{ℕ, ◌<◌, ◌≡◌, List, length, drop}
use Rattle.lists.specs.Over.{over}
use Rattle.outcome.specs.Outcome.{none}
use Rattle.resolution.specs.declared.Resolution.{Resolution}
use Rattle.resolution.specs.Shapes.{screen_bytes, width_of, height_of}
use Rattle.lines.specs.Registers.{register}
use Rattle.picture.specs.declared.ReadAnswer.{ReadAnswer}
use Rattle.picture.specs.Reading.{Reading, read_answer, read_area}
use Rattle.picture.specs.Tables.{no_picture}
use Rattle.reader.specs.Reading.{read_file}

-- every register of every pixel of one area is that of another, at every resolution
abbrev pub SameRegisters : List ℕ → List ℕ → Type 0
SameRegisters after screen =
    (r : Resolution) (x y : ℕ) → x < width_of r → y < height_of r → register after r x y ≡ register screen r x y

-- an accepted reading: the picture, both counts, and the screen over the area's first 32,000 bytes
pub record Reads (q : Reading) (a : ReadAnswer) (area after : List ℕ) : Type 0 where
  pub accepted : a.refusal ≡ none
  pub picture : a.picture ≡ q.picture
  pub body : a.body ≡ q.body
  pub records : a.records ≡ q.records
  pub registers : SameRegisters after q.screen
  pub later : after ≡ over q.screen area
  pub past : drop screen_bytes after ≡ drop screen_bytes area

-- a refused one: the area as it was, and zero in all but the refusal
pub record ReadsNothing (a : ReadAnswer) (area after : List ℕ) : Type 0 where
  pub later : after ≡ area
  pub picture : a.picture ≡ no_picture
  pub body : a.body ≡ 0
  pub records : a.records ≡ 0

-- the whole answer of `reader::read`, the refusal's number and place included
pub record AnswersRead (kind : ℕ) (file : List ℕ) (a : ReadAnswer) (area after : List ℕ) : Type 0 where
  pub answer : a ≡ read_answer (read_file kind file (length area))
  pub later : after ≡ read_area (read_file kind file (length area)) area
