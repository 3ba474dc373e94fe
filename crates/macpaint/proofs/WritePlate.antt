-- Laws of writing a MacPaint file: the tests are those of packing its body; the header is put before the body.
use Rattle.std.specs.Prelude.{Ok, Err, IfOk}
use mathlib.Core.Path.{◌≡◌, refl, sym, ap, ap₂, ◌∙◌}
use mathlib.Core.Bool.{Bool, true, false}
use mathlib.Core.List.{List, ◌++◌}
use Prim.Native.Nat.{ℕ, ◌+◌, ◌≤◌, ◌<◌}
use native.Mathlib.Omega.{arith}
use lib.ListN.{length, take, drop, replicate, length-replicate, length-append}
use lib.Seq.{length-take-le}
use lib.Dec.{ltb}
use Rattle.lists.specs.Written.{Written}
use Rattle.outcome.specs.declared.Refusal.{Refusal}
use Rattle.outcome.specs.Outcome.{Outcome, refuse_if, map, Judged}
use Rattle.outcome.specs.Refusal.{area_too_short}
use Rattle.packbits.specs.declared.Packed.{Packed}
use Rattle.bodies.specs.Packing.{PackedBody, below_limit, pack_body, body_packed, packed_output}
use Rattle.bodies.proofs.Packing.{Below, packed-behind, packed-room, pack-judged, packed-at}
use Rattle.picture.specs.Writing.{file_written, write_output}
use Rattle.picture.proofs.Writing.{written-done}
use Rattle.macpaint.specs.Layout.{header_length, body_limit, longest_file, zero_header, plate_file}
use Rattle.macpaint.specs.Plate.{plate_raster, plate_bytes}
use Rattle.macpaint.specs.Writing.{plate_writing, packed_plate, write_plate}

pub length-zero_header : length zero_header ≡ header_length
unfolding zero_header
length-zero_header = length-replicate {A = ℕ} header_length 0

-- a header of zeros over the front of an output
pub zeros-written : (out front : List ℕ) → header_length ≤ length out
    → front ≡ replicate (length (take header_length out)) 0
    → Written zero_header out (front ++ drop header_length out) header_length
unfolding zero_header
zeros-written out front room is = record {
  bytes = sym length-zero_header;
  all =
      ap₂ ◌++◌ (is ∙ ap (λ (n : ℕ). replicate n 0) (length-take-le header_length out room))
      (ap (λ (n : ℕ). drop n out) (sym length-zero_header));
}

pub length-plate_file : (body : List ℕ) → length (plate_file body) ≡ header_length + length body
unfolding plate_file
length-plate_file body = omega (arith, length-append zero_header body, length-zero_header)

-- packing judges the plate and the output as the writing does
pub write-packed : (plate : List ℕ) (out : ℕ) → write_plate plate out ≡ map plate_writing (packed_plate plate out)
unfolding write_plate pack_body
write-packed plate out =
    go (below_limit plate_raster plate body_limit) (ltb out longest_file) (ltb (length plate) plate_bytes)
  where
    go : (o : Outcome PackedBody) (little short : Bool)
        → refuse_if little area_too_short (refuse_if short area_too_short (map plate_writing o))
        ≡ map plate_writing (refuse_if short area_too_short (refuse_if little area_too_short o))
    go o true true = refl
    go o true false = refl
    go o false true = refl
    go o false false = refl

module _ (plate out : List ℕ) {given : Outcome Packed} (is : given ≡ map body_packed (packed_plate plate (length out)))
  where
    -- it is below the limit, and the output has room
    pub packed-below : IfOk given (λ p. (p.bytes < body_limit) × (longest_file ≤ length out))
    packed-below =
        rw is
        (go (packed_plate plate (length out)) refl (pack-judged plate_raster plate body_limit header_length (length out)))
      where
        go : (o : Outcome PackedBody) → packed_plate plate (length out) ≡ o → Judged (Below plate_raster plate body_limit) o
            → IfOk (map body_packed o) (λ p. (p.bytes < body_limit) × (longest_file ≤ length out))
        go (Ok b) e holds = (holds.1, packed-room plate_raster plate body_limit header_length (length out) _ e)
        go (Err why) e holds = tt

    module _ (after : List ℕ) (made : after ≡ packed_output (packed_plate plate (length out)) header_length out) where
      -- refused: the output as it was
      pub plate-refused : {why : Refusal} → given ≡ Err why
          → (Err why ≡ map file_written (write_plate plate (length out)))
          × (after ≡ write_output (write_plate plate (length out)) out)
      plate-refused e = rw (write-packed plate (length out)) (go (packed_plate plate (length out)) (sym e ∙ is) made)
        where
          go : {why : Refusal} (o : Outcome PackedBody) → Err why ≡ map body_packed o
              → after ≡ packed_output o header_length out
              → (Err why ≡ map file_written (map plate_writing o)) × (after ≡ write_output (map plate_writing o) out)
          go (Ok b) e left = let z : ◌≡◌ {A = ℕ} 0 1 = cc in absurd (omega arith)
          go (Err w) e left = (cc, left)

      -- the header before the body
      pub plate-written : {k : Packed} → given ≡ Ok k → longest_file ≤ length out → (then : List ℕ) (n : ℕ)
          → Written zero_header after then n → n ≡ header_length
          → (Ok (record { length = n + k.bytes; body = k.bytes; records = k.records })
          ≡ map file_written (write_plate plate (length out)))
          × (then ≡ write_output (write_plate plate (length out)) out)
      unfolding plate_file
      plate-written {k} ok room then n h size =
          let a =
          packed-at plate_raster plate body_limit header_length out after k (packed_plate plate (length out))
          (pack-judged plate_raster plate body_limit header_length (length out)) (sym is ∙ ok) made in
          let all = packed-behind a zero_header then n size (omega (arith, room)) h in
          let body : PackedBody = record { body = k.bytes; records = k.records; bytes = a.bytes } in
          let done = written-done (plate_writing body) all in
          rw (write-packed plate (length out), a.is) (ap Ok done.0, done.1)
