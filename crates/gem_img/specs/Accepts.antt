-- The GEM IMG files that reading accepts, and what it gives, said without the functions that judge and unpack (document
-- 02, ticket 11; ticket 5: "accepted exactly when no listed refusal comes").
use Rattle.std.specs.Prelude.{ℕ, ◌≤◌, ◌≡◌, List, [], length, drop}
use Rattle.gem_img.specs.Header.{version, header_words, header_bytes, planes, pattern, width, lines, bytes_per_line}
use Rattle.gem_img.specs.MakesLines.{MakesLines}
use Rattle.gem_img.specs.Reading.{Image}

-- a header within the screen profile
pub record Profiled (file : List ℕ) : Type 0 where
  pub first : version file ≡ 1
  pub words : 8 ≤ header_words file
  pub single : planes file ≡ 1
  pub repeats : (1 ≤ pattern file) × (pattern file ≤ 8)
  pub wide : (1 ≤ width file) × (width file ≤ 640)
  pub tall : (1 ≤ lines file) × (lines file ≤ 400)

-- `AcceptsImg file image`: the file has the header that it names, within the profile, and all the bytes behind it make
-- the lines of the image
pub record AcceptsImg (file : List ℕ) (image : Image) : Type 0 where
  pub header : header_bytes file ≤ length file
  pub profiled : Profiled file
  pub shown_width : image.width ≡ width file
  pub shown_lines : image.lines ≡ lines file
  pub body : MakesLines (pattern file) (bytes_per_line (width file)) (lines file) (drop (header_bytes file) file) []
      image.bytes
