-- What reading a GEM IMG scan promises (document 02, ticket 11: demands 1 and 2 of scans).
use Rattle.std.specs.Prelude.{ℕ, ◌+◌, ◌*◌, ◌/◌, ◌≡◌, List, [], ◌∷◌, length}
use Rattle.lists.specs.Over.{over}
use Rattle.outcome.specs.declared.Refusal.{Refusal}
use Rattle.outcome.specs.Outcome.{none}
use Rattle.gem_img.specs.declared.ImgAnswer.{ImgAnswer}
use Rattle.gem_img.specs.Accepts.{AcceptsImg}
use Rattle.gem_img.specs.Reading.{Image, read_img, img_answer, img_area}

-- some image fits the file
pub record AcceptsSome (file : List ℕ) : Type 0 where
  pub image : Image
  pub fits : AcceptsImg file image

-- an accepted reading: width and lines, and the image over the area's front, (width + 7) / 8 bytes a line
pub record ReadsImage (image : Image) (a : ImgAnswer) (area after : List ℕ) : Type 0 where
  pub answer : a ≡ record { refusal = none; width = image.width; lines = image.lines }
  pub size : length image.bytes ≡ image.lines * ((image.width + 7) / 8)
  pub later : after ≡ over image.bytes area

-- a refused one: the area as it was, and zero in all but the refusal
pub record ReadsNoImage (why : Refusal) (a : ImgAnswer) (area after : List ℕ) : Type 0 where
  pub answer : a ≡ record { refusal = why; width = 0; lines = 0 }
  pub later : after ≡ area

-- the whole answer of `gem_img::read`
pub record AnswersImgRead (file : List ℕ) (a : ImgAnswer) (area after : List ℕ) : Type 0 where
  pub answer : a ≡ img_answer (read_img file (length area))
  pub later : after ≡ img_area (read_img file (length area)) area

-- a file of one line of 8 white pixels
abbrev pub white_line_file : List ℕ
white_line_file =
    0 ∷ 1 ∷ 0 ∷ 8 ∷ 0 ∷ 1 ∷ 0 ∷ 2 ∷ 0 ∷ 85 ∷ 0 ∷ 86 ∷ 0 ∷ 8 ∷ 0 ∷ 1 ∷ 1 ∷ []
