-- A packed DEGAS file rewritten: read, and what it gives written as form 3 (document 02, ticket 12).
use Rattle.std.specs.Prelude.{ℕ, ◌≤◌, ◌≡◌, true, List, length, take, Ok}
use Rattle.outcome.specs.Outcome.{Outcome, bind}
use Rattle.resolution.specs.Shapes.{screen_bytes}
use Rattle.picture.specs.Reading.{Reading, read_area}
use Rattle.picture.specs.Writing.{Writing, file_bytes, write_answer, write_output}
use Rattle.degas.specs.Opening.{is_packed}
use Rattle.reader.specs.Reading.{kind_degas, read_file}
use Rattle.writer.specs.Writing.{form_packed, write_file}

-- the lent areas are of the stated sizes
pub record Lent (area out : List ℕ) : Type 0 where
  pub room : screen_bytes ≤ length area
  pub enough : file_bytes ≤ length out

-- the picture that reading gave, and the area that it was lent, written as form 3
abbrev pub write_read : List ℕ → List ℕ → Reading → Outcome Writing
write_read area out q = write_file form_packed q.picture (read_area (Ok q) area) (length out)

-- a DEGAS file rewritten, by way of a lent area and into a lent output; a refusal of the reading stays
abbrev pub rewrite : List ℕ → List ℕ → List ℕ → Outcome Writing
rewrite area out file = bind (read_file kind_degas file (length area)) (write_read area out)

-- the file that an output begins with after a writing, as long as the writing reports
abbrev pub file_in : List ℕ → Outcome Writing → List ℕ
file_in out o = take (write_answer o).length (write_output o out)

-- the file that rewriting leaves at the output's front
abbrev pub rewritten : List ℕ → List ℕ → List ℕ → List ℕ
rewritten area out file = file_in out (rewrite area out file)

-- `ReadsPacked file q`: a packed DEGAS file, whose reading into some area is accepted and gives q
pub record ReadsPacked (file : List ℕ) (q : Reading) : Type 0 where
  pub packed : is_packed file ≡ true
  pub area : ℕ
  pub reads : read_file kind_degas file area ≡ Ok q

-- resolution, palette words, tail words and screen are equal
pub record SamePicture (q other : Reading) : Type 0 where
  pub resolution : q.picture.resolution ≡ other.picture.resolution
  pub palette : q.picture.palette ≡ other.picture.palette
  pub tail : q.picture.tail ≡ other.picture.tail
  pub screen : q.screen ≡ other.screen

-- accepted, so never refused with 9, and no longer than the file
pub record NeverLonger (area out file : List ℕ) : Type 0 where
  pub written : (write_answer (rewrite area out file)).refusal.number ≡ 0
  pub bytes : length (rewritten area out file) ≤ length file
