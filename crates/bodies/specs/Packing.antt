-- The least body of an area at a raster, below a limit (document 01, "Packed rows").
use Rattle.std.specs.Prelude.{ℕ, ◌+◌, ◌-◌, ◌%◌, List, length, ltb, leb, Ok}
use Rattle.lists.specs.Over.{over_at}
use Rattle.lists.specs.Tabulate.{tabulate}
use Rattle.outcome.specs.Outcome.{Outcome, refuse_if, map, later}
use Rattle.outcome.specs.Refusal.{area_too_short, no_packed_body}
use Rattle.packbits.specs.declared.Packed.{Packed}
use Rattle.packbits.specs.Row.{Row, done}
use Rattle.pack.specs.Least.{least, least_records}
use Rattle.pack.specs.LeastRows.{least_rows, least_rows_records}
use Rattle.raster.specs.declared.Raster.{Raster}
use Rattle.raster.specs.Shape.{bytes}
use Rattle.raster.specs.PlaneRows.{plane_row, plane_rows}
use Rattle.bodies.specs.declared.BodyAnswer.{BodyAnswer}
use Rattle.bodies.specs.Body.{judge_raster, given_body_answer}

-- plane row n packed
abbrev pub packed_row : List ℕ → Raster → ℕ → Outcome Row
packed_row area r n =
    done (length (least (plane_row area r n))) (least_records (plane_row area r n)) (least (plane_row area r n))

-- the least body of an area: that of each plane row, in turn
abbrev pub least_body : Raster → List ℕ → List ℕ
least_body r area = least_rows (plane_rows area r)

-- the number of its records
abbrev pub least_body_records : Raster → List ℕ → ℕ
least_body_records r area = least_rows_records (plane_rows area r)

-- what packing gives of it besides its bytes
abbrev pub least_packed : Raster → List ℕ → Packed
least_packed r area = record { bytes = length (least_body r area); records = least_body_records r area }

-- The area whose bytes are 0 and 1 in turn. Where a plane row has a byte or more, no area of the raster has a longer
-- least body (proofs/Least.antt, `least-most` and `most-attained`).
unfoldable pub alternating : Raster → List ℕ
alternating r = tabulate (bytes r) (λ o. o % 2)

-- a body that was packed
pub record PackedBody : Type 0 where
  -- its length
  pub body : ℕ
  -- its records
  pub records : ℕ
  pub bytes : List ℕ

-- the least body, refused where it is not below a limit
abbrev pub below_limit : Raster → List ℕ → ℕ → Outcome PackedBody
below_limit r area limit =
    refuse_if (leb limit (length (least_body r area))) no_packed_body
    (Ok (record {
      body = length (least_body r area);
      records = least_body_records r area;
      bytes = least_body r area;
    }))

-- the same into an output of `room` bytes from an offset on, where it must have room for every body below the limit
unfoldable pub pack_body : Raster → List ℕ → ℕ → ℕ → ℕ → Outcome PackedBody
pack_body r area limit at room =
    judge_raster r (length area)
    (refuse_if (ltb room (at + (limit - 1))) area_too_short
    (below_limit r area limit))

-- what is given of it besides the bytes
abbrev pub body_packed : PackedBody → Packed
body_packed b = record { bytes = b.body; records = b.records }

abbrev pub packed_answer : Outcome PackedBody → BodyAnswer
packed_answer o = given_body_answer (map body_packed o)

-- the output's later content: the body over it from that offset on; after a refusal as it was
abbrev pub packed_output : Outcome PackedBody → ℕ → List ℕ → List ℕ
packed_output o at out = later o (λ b. over_at at b.bytes out) out
