-- What an accepted reading holds, what is given back, and what the lent area then holds (document 01, "Numbers given
-- back", "Order of judging": read).
use Rattle.std.specs.Prelude.{ℕ, List, take, drop, ltb, Ok, Err}
use Rattle.lists.specs.Over.{over}
use Rattle.outcome.specs.Outcome.{Outcome, none, refuse_if, map, later}
use Rattle.outcome.specs.Refusal.{area_too_short}
use Rattle.resolution.specs.Shapes.{screen_bytes}
use Rattle.picture.specs.declared.Picture.{Picture}
use Rattle.picture.specs.declared.PictureRead.{PictureRead}
use Rattle.picture.specs.declared.ReadAnswer.{ReadAnswer}
use Rattle.picture.specs.Tables.{no_picture}

-- the picture, the packed body's length and records (0 of a raw file), and the screen
pub record Reading : Type 0 where
  pub picture : Picture
  pub body : ℕ
  pub records : ℕ
  pub screen : List ℕ

-- a raw file: the screen's bytes as they stand from an offset on
abbrev pub raw_reading : Picture → List ℕ → ℕ → Reading
raw_reading p file at = record { picture = p; body = 0; records = 0; screen = take screen_bytes (drop at file) }

-- the length of the lent area is judged before all else
abbrev pub judge_area : {A : Type 0} → ℕ → Outcome A → Outcome A
judge_area area further = refuse_if (ltb area screen_bytes) area_too_short further

-- what is given of it besides the screen
abbrev pub picture_read : Reading → PictureRead
picture_read q = record { picture = q.picture; body = q.body; records = q.records }

-- C's answer of what is given: a refusal gives zero in all else
abbrev pub given_read_answer : Outcome PictureRead → ReadAnswer
given_read_answer (Ok q) = record { refusal = none; picture = q.picture; body = q.body; records = q.records }
given_read_answer (Err why) = record { refusal = why; picture = no_picture; body = 0; records = 0 }

abbrev pub read_answer : Outcome Reading → ReadAnswer
read_answer o = given_read_answer (map picture_read o)

-- the screen over the area's first 32,000 bytes; after a refusal the area as it was
abbrev pub read_area : Outcome Reading → List ℕ → List ℕ
read_area o area = later o (λ q. over q.screen area) area
