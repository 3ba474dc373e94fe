-- Which accepted files have a tail, and where it stands: packed ones and raw ones of 32,066 bytes, at the file's end.
use mathlib.Core.Path.{◌≡◌, ap}
use mathlib.Core.Bool.{true, false≢true, ◌||◌}
use mathlib.Core.List.{List}
use Prim.Native.Nat.{ℕ, ◌+◌, ◌-◌}
use native.Mathlib.Omega.{arith}
use lib.Dec.{eqb}
use lib.ListN.{length}
use borrow.Author.Tests.{eq-eqb, ne_eqb}
use Rattle.outcome.specs.Outcome.{Judged}
use Rattle.resolution.specs.Shapes.{raster_of}
use Rattle.bodies.proofs.Reading.{ReadBounded, read-bounded}
use Rattle.picture.specs.Tables.{tail_at}
use Rattle.picture.specs.Reading.{Reading}
use Rattle.degas.specs.Layout.{header_length, tail_length, plain_length, elite_length}
use Rattle.degas.specs.Opening.{is_packed}
use Rattle.degas.specs.Reading.{read_degas}
use Rattle.degas.proofs.ReadDegas.{packed-judged, by_form}

module _ (file : List ℕ) where
  pub record HasTail (q : Reading) : Type 0 where
    pub present : q.picture.tail_present ≡ is_packed file || eqb (length file) elite_length
    pub last : q.picture.tail_present ≡ true → q.picture.tail ≡ tail_at file (length file - tail_length)

  pub degas-tail : (area : ℕ) → Judged HasTail (read_degas file area)
  degas-tail =
      by_form file HasTail
      (λ r _ raw size. record {
        present = rw (raw, ne_eqb (length file) elite_length (omega arith));
        last = λ e. absurd (false≢true e);
      })
      (λ r _ raw size. record {
        present = rw (raw, eq-eqb (length file) elite_length size);
        last = λ e. let end : plain_length ≡ length file - tail_length = omega arith in ap (tail_at file) end;
      })
      (λ r _ packed.
      packed-judged file r (ReadBounded file header_length tail_length (raster_of r)) HasTail
      (read-bounded file header_length tail_length (raster_of r))
      (λ u _ b. record {
        present = rw packed;
        last = λ e.
            let end : header_length + u.body ≡ length file - tail_length = omega (arith, b.0) in
            ap (tail_at file) end;
      }))
