-- The packed body of a raster (document 01, "Packed rows"): the raster and its area judged, and the answer of a body
-- packed or unpacked.
use Rattle.std.specs.Prelude.{ℕ, ◌≤◌, ◌≡◌, false, List, length, ltb, Ok, Err}
use Rattle.outcome.specs.declared.Refusal.{Refusal}
use Rattle.outcome.specs.Outcome.{Outcome, none, refuse_if}
use Rattle.outcome.specs.Refusal.{area_too_short, out_of_range}
use Rattle.packbits.specs.declared.Packed.{Packed}
use Rattle.packbits.specs.Row.{width_out_of_range}
use Rattle.raster.specs.declared.Raster.{Raster}
use Rattle.raster.specs.Shape.{row_bytes, bytes}
use Rattle.bodies.specs.declared.BodyAnswer.{BodyAnswer}

-- refused where a plane row is not 1 to 128 bytes wide, or an area of `room` bytes is shorter than the raster;
-- otherwise judged further
abbrev pub judge_raster : {A : Type 0} → Raster → ℕ → Outcome A → Outcome A
judge_raster r room further =
    refuse_if (width_out_of_range (row_bytes r)) out_of_range
    (refuse_if (ltb room (bytes r)) area_too_short
    further)

-- C's answer of an accepted body with its packed bytes and its records
abbrev pub body_done : ℕ → ℕ → BodyAnswer
body_done body records = record { refusal = none; body = body; records = records }

-- C's answer of a refused body
abbrev pub body_refused : Refusal → BodyAnswer
body_refused why = record { refusal = why; body = 0; records = 0 }

-- C's answer of what is given
abbrev pub given_body_answer : Outcome Packed → BodyAnswer
given_body_answer (Ok p) = body_done p.bytes p.records
given_body_answer (Err why) = body_refused why

-- what packing a row asks: the width of a row is in range, the area holds the raster, and the buffer is one row wide
pub record RowRoom (r : Raster) (area row : List ℕ) : Type 0 where
  pub range : width_out_of_range (row_bytes r) ≡ false
  pub full : bytes r ≤ length area
  pub width : length row ≡ row_bytes r
