-- What a packed writing makes, and how long a screen's least body can be (document 00, demand 3; document 01, "Packed
-- rows").
use Rattle.std.specs.Prelude.{ℕ, ◌+◌, ◌<◌, ◌≡◌, List, length}
use Rattle.lists.specs.Bytes.{Bytes}
use Rattle.resolution.specs.declared.Resolution.{Resolution}
use Rattle.resolution.specs.declared.Resolution.TheVariants.{Low, Medium, High}
use Rattle.resolution.specs.Shapes.{raster_of}
use Rattle.bodies.specs.Unpacks.{UnpacksImage, LeastBelow}
use Rattle.picture.specs.declared.Picture.{Picture}
use Rattle.picture.specs.Writing.{Writing}
use Rattle.degas.specs.Layout.{header_length, tail_length, body_limit, packed_file}

-- an accepted writing of form 3: the picture's file with the writer's row for each plane row, below 32,000 bytes, the
-- least body of the screen; reported are that body's length and number of records; the file's length is 66 above the
-- body's
pub record WritesPacked (r : Resolution) (p : Picture) (screen : List ℕ) (w : Writing) : Type 0 where
  pub packed : List ℕ
  pub form : w.file ≡ packed_file p packed
  pub least : LeastBelow (raster_of r) screen body_limit packed w.records
  pub size : w.body ≡ length packed
  pub all : length w.file ≡ w.body + (header_length + tail_length)

-- "no byte string under 32,000 bytes unpacks to that screen at that resolution"
abbrev pub NoBodyBelow : Resolution → List ℕ → Type 0
NoBodyBelow r screen =
    (body : List ℕ) (n : ℕ) → Bytes body → UnpacksImage (raster_of r) body screen n → length body < body_limit → ⊥

-- the most bytes of a least body
abbrev pub most_bytes : Resolution → ℕ
most_bytes Low = 32800
most_bytes Medium = 32400
most_bytes High = 32400
