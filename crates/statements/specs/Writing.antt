-- What writing a picture promises (document 00, demand 3; of a refusal, demand 1).
use Rattle.std.specs.Prelude.{ℕ, ◌+◌, ◌≤◌, ◌≡◌, List, length, take, drop}
use Rattle.lists.specs.Bytes.{Bytes}
use Rattle.lists.specs.Over.{over}
use Rattle.outcome.specs.Outcome.{none}
use Rattle.outcome.specs.Refusal.{no_packed_body}
use Rattle.resolution.specs.declared.Resolution.{Resolution}
use Rattle.resolution.specs.Shapes.{screen_bytes, raster_of}
use Rattle.bodies.specs.Unpacks.{ShortestBody, LeastBelow}
use Rattle.picture.specs.declared.Picture.{Picture}
use Rattle.picture.specs.declared.WriteAnswer.{WriteAnswer}
use Rattle.picture.specs.Writing.{write_answer, write_output}
use Rattle.degas.specs.Layout.{header_length, tail_length, body_limit, packed_file}
use Rattle.degas.specs.LeastBody.{most_bytes}
use Rattle.writer.specs.Writing.{write_file}
use Rattle.statements.specs.Blank.{blank_screen}

-- "it writes the picture's form 3 as document 01 fixes it, row by row; the body unpacks to that screen, and every other
-- byte string that does has at least as many bytes. It reports that body's length and number of records, and a file
-- length 66 above the body's."
pub record WritesLeast (r : Resolution) (p : Picture) (screen : List ℕ) (a : WriteAnswer) (out after : List ℕ)
    : Type 0 where
  pub packed : List ℕ
  pub accepted : a.refusal ≡ none
  pub later : after ≡ over (packed_file p packed) out
  -- from offset 34 on, up to the file's last 32 bytes
  pub place : take (length packed) (drop header_length after) ≡ packed
  pub total : a.length ≡ a.body + (header_length + tail_length)
  -- the writer's row for each plane row in turn, a shortest body, below 32,000 bytes
  pub least : LeastBelow (raster_of r) screen body_limit packed a.records
  pub body : a.body ≡ length packed

-- "The least body of a screen is never above 32,800 bytes at low resolution or 32,400 at the other two."
abbrev pub NeverAbove : Resolution → List ℕ → Type 0
NeverAbove r screen = (body : List ℕ) (n : ℕ) → ShortestBody (raster_of r) screen body n → length body ≤ most_bytes r

-- "At each resolution some screen's least body has exactly that many."
pub record Attained (r : Resolution) : Type 0 where
  pub screen : List ℕ
  pub whole : length screen ≡ screen_bytes
  pub bytes : Bytes screen
  pub packed : List ℕ
  pub records : ℕ
  pub least : ShortestBody (raster_of r) screen packed records
  pub most : length packed ≡ most_bytes r

-- the blank screen is written; one with the longest least body is refused
pub record BothOccur (r : Resolution) (screen : List ℕ) (a : WriteAnswer) : Type 0 where
  pub blank : screen ≡ blank_screen → a.refusal.number ≡ 0
  pub longest : (most : Attained r) → screen ≡ most.screen → a.refusal.number ≡ no_packed_body

-- a refused writing: the output as it was, and zero in all but the refusal
pub record WritesNothing (a : WriteAnswer) (out after : List ℕ) : Type 0 where
  pub later : after ≡ out
  pub total : a.length ≡ 0
  pub body : a.body ≡ 0
  pub records : a.records ≡ 0

-- the whole answer of `writer::write`, the refusal's number and place included
pub record AnswersWrite (form : ℕ) (p : Picture) (screen : List ℕ) (a : WriteAnswer) (out after : List ℕ) : Type 0 where
  pub answer : a ≡ write_answer (write_file form p screen (length out))
  pub later : after ≡ write_output (write_file form p screen (length out)) out
