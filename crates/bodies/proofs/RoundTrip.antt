-- The least body, put into a file, is read to the area that it was made from (document 00, demand 2).
use Rattle.std.specs.Prelude.{Ok}
use mathlib.Core.Path.{◌≡◌}
use mathlib.Core.Bool.{false}
use mathlib.Core.List.{List, ◌++◌}
use Prim.Native.Nat.{ℕ, ◌+◌, ◌≤◌}
use native.Mathlib.Omega.{arith}
use lib.ListN.{length, take, length-append}
use Rattle.packbits.specs.Row.{width_out_of_range}
use Rattle.raster.specs.declared.Raster.{Raster}
use Rattle.raster.specs.Shape.{row_bytes, bytes}
use Rattle.bodies.specs.Packing.{least_body, least_body_records}
use Rattle.bodies.specs.Reading.{read_body}
use Rattle.bodies.proofs.Exact.{body-complete}
use Rattle.bodies.proofs.Least.{least-shortest}
use Rattle.bodies.proofs.Reading.{read-ends}

-- after `front` and before `rest`: with the same length and records, and the bytes of the raster as they were
pub body_back : (r : Raster) (area : List ℕ) → width_out_of_range (row_bytes r) ≡ false → bytes r ≤ length area
    → (front rest : List ℕ) (at after : ℕ) → length front ≡ at → length rest ≡ after
    → read_body (front ++ (least_body r area ++ rest)) at after r
    ≡ Ok (record {
      body = length (least_body r area);
      records = least_body_records r area;
      image = take (bytes r) area;
    })
body_back r area range full front rest at after before behind =
    let body : List ℕ = least_body r area in
    let long : length (front ++ (body ++ rest)) ≡ at + length body + after =
    omega (arith, length-append front (body ++ rest), length-append body rest) in
    read-ends (front ++ (body ++ rest)) at after r _
    (rw (← before) (body-complete r area full (least-shortest r area range).unpacks front rest))
    long
