-- A packed body that stands in a file after a header of `at` bytes and before exactly `after` bytes: read, and the
-- files that reading accepts (document 01, "File layouts"; document 02, ticket 9).
use Rattle.std.specs.Prelude.{ℕ, ◌+◌, ◌<◌, ◌≡◌, cond, List, ◌++◌, length, ltb, eqb, Ok, Err}
use Rattle.lists.specs.Over.{over}
use Rattle.outcome.specs.Outcome.{Outcome, refusal, refuse_if, bind, later}
use Rattle.outcome.specs.Refusal.{area_too_short, wrong_tail}
use Rattle.raster.specs.declared.Raster.{Raster}
use Rattle.raster.specs.Shape.{bytes}
use Rattle.bodies.specs.Body.{judge_raster}
use Rattle.bodies.specs.Unpacking.{UnpackedBody, unpack_body}
use Rattle.bodies.specs.Unpacks.{UnpacksImage}

-- after the body exactly `after` bytes; otherwise refused where the body ends
abbrev pub judge_end : List ℕ → ℕ → ℕ → UnpackedBody → Outcome UnpackedBody
judge_end file at after u =
    cond (eqb (length file) (at + u.body + after)) (Ok u) (Err (refusal wrong_tail (at + u.body)))

-- the plane rows are unpacked, and then the end is judged; the input of the rows is the whole file
unfoldable pub read_body : List ℕ → ℕ → ℕ → Raster → Outcome UnpackedBody
read_body file at after r = bind (unpack_body file at r) (judge_end file at after)

-- the same into an area of `area` bytes, by a buffer of `room` bytes
abbrev pub read_into : List ℕ → ℕ → ℕ → Raster → ℕ → ℕ → Outcome UnpackedBody
read_into file at after r room area =
    judge_raster r room
    (refuse_if (ltb area (bytes r)) area_too_short
    (read_body file at after r))

-- the area's later content: the image over its front; after a refusal as it was
abbrev pub body_area : Outcome UnpackedBody → List ℕ → List ℕ
body_area o area = later o (λ u. over u.image area) area

-- `BodyFits file at after limit r`: the file is a header of `at` bytes, a body below `limit` bytes that unpacks to an
-- image of the raster, and `after` bytes
pub record BodyFits (file : List ℕ) (at after limit : ℕ) (r : Raster) : Type 0 where
  pub header : List ℕ
  pub body : List ℕ
  pub tail : List ℕ
  pub image : List ℕ
  pub records : ℕ
  pub parts : file ≡ header ++ body ++ tail
  pub before : length header ≡ at
  pub below : length body < limit
  pub behind : length tail ≡ after
  pub size : length image ≡ bytes r
  pub runs : UnpacksImage r body image records

-- what it gives
abbrev pub body_given : {file : List ℕ} {at after limit : ℕ} {r : Raster} → BodyFits file at after limit r
    → UnpackedBody
body_given b = record { body = length b.body; records = b.records; image = b.image }
