-- Reading a GEM IMG file: the whole judgement and what an accepted file gives (document 02, ticket 11).
use Rattle.std.specs.Prelude.{ℕ, cond, not, List, length, ltb, Ok, Err, ⊤}
use Rattle.lists.specs.Over.{over}
use Rattle.outcome.specs.Outcome.{Outcome, refusal, none, refuse_if, map, bind, later}
use Rattle.outcome.specs.Refusal.{area_too_short, wrong_length, wrong_tail, outside_profile}
use Rattle.filling.specs.Filling.{Filling}
use Rattle.gem_img.specs.declared.ImgSize.{ImgSize}
use Rattle.gem_img.specs.declared.ImgAnswer.{ImgAnswer}
use Rattle.gem_img.specs.Header.{least_header_bytes, header_bytes, pattern, width, lines, in_profile, bytes_per_line}
use Rattle.gem_img.specs.Lines.{fill_lines}

-- the area that is lent
abbrev pub area_bytes : ℕ
area_bytes = 32000

-- what an accepted file gives: a line's pixels, the lines, and their bytes, one line after another
pub record Image : Type 0 where
  pub width : ℕ
  pub lines : ℕ
  pub bytes : List ℕ

-- what the lines of a file come to, behind its header
abbrev pub fill_image : List ℕ → Filling
fill_image file = fill_lines (pattern file) (bytes_per_line (width file)) file (header_bytes file) (lines file)

-- no byte may be left behind the last line
abbrev pub judge_end : List ℕ → Filling → ℕ → Outcome Image
judge_end file f end =
    cond (ltb end (length file)) (Err (refusal wrong_tail end))
    (Ok (record { width = width file; lines = lines file; bytes = f.made }))

-- a file whose header is judged
unfoldable pub read_lines : List ℕ → Outcome Image
read_lines file = bind (fill_image file).ends (judge_end file (fill_image file))

-- the file's length, by itself and against the header that it names, then the profile
abbrev pub judge_header : {A : Type 0} → List ℕ → Outcome A → Outcome A
judge_header file further =
    refuse_if (ltb (length file) least_header_bytes) wrong_length
    (refuse_if (ltb (length file) (header_bytes file)) wrong_length
    (refuse_if (not (in_profile file)) outside_profile
    further))

-- length and profile judged
unfoldable pub header_judged : List ℕ → Outcome ⊤
header_judged file = judge_header file (Ok tt)

-- a file into an area of `area` bytes
unfoldable pub read_img : List ℕ → ℕ → Outcome Image
read_img file area =
    refuse_if (ltb area area_bytes) area_too_short
    (judge_header file
    (read_lines file))

-- what is given of an image besides its bytes
abbrev pub img_size : Image → ImgSize
img_size i = record { width = i.width; lines = i.lines }

-- C's answer of what is given: a refusal gives 0 in all else
abbrev pub given_img_answer : Outcome ImgSize → ImgAnswer
given_img_answer (Ok s) = record { refusal = none; width = s.width; lines = s.lines }
given_img_answer (Err why) = record { refusal = why; width = 0; lines = 0 }

abbrev pub img_answer : Outcome Image → ImgAnswer
img_answer o = given_img_answer (map img_size o)

-- the area's later content: the lines over its front; after a refusal as it was
abbrev pub img_area : Outcome Image → List ℕ → List ℕ
img_area o area = later o (λ i. over i.bytes area) area
