-- The refusals of reading a GEM IMG file, each with its place, in the ticket's order and said without the functions
-- that judge and unpack (document 02, ticket 11).
use Rattle.std.specs.Prelude.{ℕ, ◌-◌, ◌≤◌, ◌<◌, ◌≡◌, ◌⊎◌, List, length, drop}
use Rattle.outcome.specs.declared.Refusal.{Refusal}
use Rattle.outcome.specs.Outcome.{refusal}
use Rattle.gem_img.specs.Header.{header_bytes, pattern, width, lines, bytes_per_line}
use Rattle.gem_img.specs.MakesLines.{MakesLines}
use Rattle.gem_img.specs.StopsLines.{StopsLines}
use Rattle.gem_img.specs.Accepts.{Profiled}

-- `RefusesImg file area why`: a file into an area of `area` bytes is refused for this reason
pub data RefusesImg (file : List ℕ) (area : ℕ) : Refusal → Type 0 where
  -- 1: the area is below 32,000 bytes
  area_short : area < 32000 → RefusesImg file area (refusal 1 0)
  -- 3: the file is below 16 bytes, or below the header that it names
  file_short : 32000 ≤ area → length file < 16 → RefusesImg file area (refusal 3 0)
  header_cut : 32000 ≤ area → 16 ≤ length file → length file < header_bytes file → RefusesImg file area (refusal 3 0)
  -- 21: the header is outside the profile
  not_profiled : 32000 ≤ area → 16 ≤ length file → header_bytes file ≤ length file → (Profiled file → ⊥)
      → RefusesImg file area (refusal 21 0)
  -- 22, without a place: the first record at fault is a scanline run of 4 bytes that is a bad one
  bad_run : {rest : List ℕ} → 32000 ≤ area → header_bytes file ≤ length file → Profiled file
      → StopsLines (pattern file) (bytes_per_line (width file)) (lines file) (drop (header_bytes file) file) 22 rest
      → RefusesImg file area (refusal 22 0)
  -- 6 and 7, at the first record at fault
  at_record : {number : ℕ} {rest : List ℕ} → 32000 ≤ area → header_bytes file ≤ length file → Profiled file
      → (number ≡ 6) ⊎ (number ≡ 7)
      → StopsLines (pattern file) (bytes_per_line (width file)) (lines file) (drop (header_bytes file) file) number rest
      → RefusesImg file area (refusal number (length file - length rest))
  -- 8, at the first of the bytes left behind the last line
  bytes_behind : {rest made : List ℕ} → 32000 ≤ area → header_bytes file ≤ length file → Profiled file
      → MakesLines (pattern file) (bytes_per_line (width file)) (lines file) (drop (header_bytes file) file) rest made
      → 0 < length rest → RefusesImg file area (refusal 8 (length file - length rest))
