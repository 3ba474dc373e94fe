-- Every accepted reading of a DEGAS file is whole: a picture of a known resolution, and a screen of 32,000 bytes.
use mathlib.Core.Path.{◌≡◌, ◌∙◌}
use mathlib.Core.List.{List}
use Prim.Native.Nat.{ℕ, ◌+◌, ◌≤◌}
use native.Mathlib.Omega.{arith}
use lib.ListN.{length, take, drop, length-drop}
use lib.Seq.{length-take-le}
use Rattle.outcome.specs.Outcome.{Judged}
use Rattle.resolution.specs.Shapes.{screen_bytes, raster_of}
use Rattle.resolution.specs.Choice.{number_of}
use Rattle.resolution.proofs.Choice.{chosen-number}
use Rattle.resolution.proofs.Rasters.{raster-bytes}
use Rattle.bodies.proofs.Reading.{ReadBounded, read-bounded}
use Rattle.picture.specs.Whole.{WholeReading}
use Rattle.picture.proofs.Whole.{whole-with-tail, whole-without-tail}
use Rattle.degas.specs.Layout.{palette_start, header_length, tail_length, plain_length}
use Rattle.degas.specs.Reading.{read_degas}
use Rattle.degas.proofs.ReadDegas.{packed-judged, by_form}

raw-size : (file : List ℕ) → plain_length ≤ length file
    → length (take screen_bytes (drop header_length file)) ≡ screen_bytes
raw-size file h = length-take-le screen_bytes (drop header_length file) (omega (arith, length-drop header_length file))

pub degas-whole : (file : List ℕ) (area : ℕ) → Judged WholeReading (read_degas file area)
degas-whole file =
    by_form file WholeReading
    (λ r _ _ e. record {
      whole = whole-without-tail file (number_of r) palette_start;
      resolution = r;
      known = chosen-number r;
      size = raw-size file (omega arith);
    })
    (λ r _ _ e. record {
      whole = whole-with-tail file (number_of r) palette_start plain_length;
      resolution = r;
      known = chosen-number r;
      size = raw-size file (omega arith);
    })
    (λ r _ _.
    packed-judged file r (ReadBounded file header_length tail_length (raster_of r)) WholeReading
    (read-bounded file header_length tail_length (raster_of r))
    (λ u _ b. record {
      whole = whole-with-tail file (number_of r) palette_start (header_length + u.body);
      resolution = r;
      known = chosen-number r;
      size = b.1.0 ∙ raster-bytes r;
    }))
