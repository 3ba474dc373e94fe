-- Laws of reading a DEGAS file: what each test that the code makes comes to.
use Rattle.std.specs.Prelude.{Ok, Err, Some, IfOk}
use mathlib.Core.Path.{◌≡◌, sym, ap, ◌∙◌}
use mathlib.Core.Bool.{true, false}
use mathlib.Core.List.{List, ◌++◌}
use Prim.Native.Nat.{ℕ, ◌+◌, ◌≤◌, ◌<◌}
use native.Mathlib.Omega.{arith}
use lib.ListN.{length, take, drop}
use borrow.Author.Tests.{lt-ltb, le-ltb, eq-eqb, ne_eqb}
use Rattle.lists.proofs.Cond.{cond-elim, cond-ltb, cond-eqb}
use Rattle.outcome.specs.declared.Refusal.{Refusal}
use Rattle.outcome.specs.Outcome.{Outcome, refuse, map, bind, Judged}
use Rattle.outcome.specs.Refusal.{area_too_short, wrong_length}
use Rattle.resolution.specs.declared.Resolution.{Resolution}
use Rattle.resolution.specs.Choice.{chosen}
use Rattle.resolution.specs.Shapes.{screen_bytes, raster_of}
use Rattle.packbits.specs.declared.Packed.{Packed}
use Rattle.bodies.specs.Unpacking.{UnpackedBody, body_unpacked}
use Rattle.bodies.specs.Reading.{read_body, body_area}
use Rattle.bodies.proofs.Reading.{ReadBounded, read-bounded}
use Rattle.picture.specs.declared.PictureRead.{PictureRead}
use Rattle.picture.specs.Reading.{Reading, raw_reading, picture_read, read_area}
use Rattle.picture.proofs.Reading.{area-short, area-fits, area-cut}
use Rattle.degas.specs.Layout.{header_length, tail_length, plain_length, elite_length, packed_most}
use Rattle.degas.specs.Opening.{resolution_number, is_packed, opening}
use Rattle.degas.specs.Reading.{plain_picture, elite_picture, read_raw, packed_reading, packed_body, read_packed}
use Rattle.degas.specs.Reading.{read_opened, read_degas}
use Rattle.degas.proofs.Opening.{opening-elim}

-- ---- raw

module _ (file : List ℕ) (r : Resolution) where
  pub raw-plain : length file ≡ plain_length
      → read_raw file r ≡ Ok (raw_reading (plain_picture file r) file header_length)
  unfolding read_raw
  raw-plain h = simp (eq-eqb (length file) plain_length h)

  pub raw-elite : length file ≡ elite_length
      → read_raw file r ≡ Ok (raw_reading (elite_picture file r plain_length) file header_length)
  unfolding read_raw
  raw-elite h = simp (ne_eqb (length file) plain_length (omega arith), eq-eqb (length file) elite_length h)

  pub raw-length : (length file ≡ plain_length → ⊥) → (length file ≡ elite_length → ⊥)
      → read_raw file r ≡ refuse wrong_length
  unfolding read_raw
  raw-length h k = simp (ne_eqb (length file) plain_length h, ne_eqb (length file) elite_length k)

-- ---- packed

module _ (file : List ℕ) (r : Resolution) where
  pub packed-long : packed_most < length file → read_packed file r ≡ refuse wrong_length
  unfolding read_packed
  packed-long h = simp (lt-ltb packed_most (length file) h)

  pub packed-short : length file ≤ packed_most
      → read_packed file r ≡ map (packed_reading file r) (read_body file header_length tail_length (raster_of r))
  unfolding read_packed
  packed-short h = rw (le-ltb packed_most (length file) h)

  -- what follows of an accepted body's reading holds of an accepted file's
  pub packed-judged : (P : UnpackedBody → Type 0) (Q : Reading → Type 0)
      → Judged P (read_body file header_length tail_length (raster_of r))
      → ((u : UnpackedBody) → length file ≤ packed_most → P u → Q (packed_reading file r u))
      → Judged Q (read_packed file r)
  unfolding read_packed
  packed-judged P Q p f =
      cond-ltb (Judged Q) packed_most (length file) (λ _ n. omega arith) (λ short.
      go short (read_body file header_length tail_length (raster_of r)) p)
    where
      go : length file ≤ packed_most → (o : Outcome UnpackedBody) → Judged P o → Judged Q (map (packed_reading file r) o)
      go short (Ok u) p = f u short p
      go short (Err why) p = p

-- what a reading must answer, and leave of the area
abbrev Reads : List ℕ → List ℕ → Outcome PictureRead → Outcome Reading → Type 0
Reads area after given o = (given ≡ map picture_read o) × (after ≡ read_area o area)

module _ (file : List ℕ) (r : Resolution) where
  abbrev bounded : UnpackedBody → Type 0
  bounded = ReadBounded file header_length tail_length (raster_of r)

  -- what is given of an accepted body
  abbrev pub read_of : Packed → PictureRead
  read_of p = record {
    picture = elite_picture file r (header_length + p.bytes);
    body = p.bytes;
    records = p.records;
  }

  module _ {given : Outcome Packed} (is : given ≡ map body_unpacked (packed_body file r)) where
    -- its bytes are there
    pub packed-bytes : IfOk given (λ p. header_length + p.bytes ≤ length file)
    packed-bytes = rw is (go (packed_body file r) (read-bounded file header_length tail_length (raster_of r)))
      where
        go : (o : Outcome UnpackedBody) → Judged bounded o
            → IfOk (map body_unpacked o) (λ p. header_length + p.bytes ≤ length file)
        go (Ok u) holds = omega (arith, holds.1.1)
        go (Err why) holds = tt

    module _ (short : length file ≤ packed_most) (area after : List ℕ)
        (left : after ≡ body_area (packed_body file r) area) where
      -- a refusal is the reading's
      pub packed-fault : {why : Refusal} → given ≡ Err why → Reads area after (Err why) (read_packed file r)
      packed-fault e = rw (packed-short file r short) (go (packed_body file r) (sym e ∙ is) left)
        where
          go : {why : Refusal} (o : Outcome UnpackedBody) → Err why ≡ map body_unpacked o → after ≡ body_area o area
              → Reads area after (Err why) (map (packed_reading file r) o)
          go (Ok u) e kept = let z : ◌≡◌ {A = ℕ} 0 1 = cc in absurd (omega arith)
          go (Err w) e kept = (cc, kept)

      -- and what is given of an accepted one
      pub packed-done : {p : Packed} → given ≡ Ok p → Reads area after (Ok (read_of p)) (read_packed file r)
      packed-done e = rw (packed-short file r short) (go (packed_body file r) (sym e ∙ is) left)
        where
          go : {p : Packed} (o : Outcome UnpackedBody) → Ok p ≡ map body_unpacked o → after ≡ body_area o area
              → Reads area after (Ok (read_of p)) (map (packed_reading file r) o)
          go {p = p} (Ok u) e made =
              let same : p ≡ body_unpacked u = cc in
              (ap (λ (k : Packed). Ok (read_of k)) same, made)
          go (Err w) e made = let z : ◌≡◌ {A = ℕ} 0 1 = cc in absurd (omega arith)

  -- a reading into the area cut to the screen is one into the whole area
  pub packed-cut : length file ≤ packed_most → (area part : List ℕ) → length part ≡ length (take screen_bytes area)
      → part ≡ body_area (packed_body file r) (take screen_bytes area)
      → part ++ drop screen_bytes area ≡ read_area (read_packed file r) area
  packed-cut short area part kept is =
      rw (packed-short file r short) (go (packed_body file r) is)
    where
      go : (o : Outcome UnpackedBody) → part ≡ body_area o (take screen_bytes area)
          → part ++ drop screen_bytes area ≡ read_area (map (packed_reading file r) o) area
      go (Ok u) is = area-cut (Ok (packed_reading file r u)) area part screen_bytes kept is
      go (Err why) is = area-cut (Err why) area part screen_bytes kept is

-- ---- the area

module _ (file : List ℕ) (area : ℕ) where
  pub read_short : area < screen_bytes → read_degas file area ≡ refuse area_too_short
  unfolding read_degas
  read_short h = area-short area _ h

  pub read_fits : screen_bytes ≤ area → read_degas file area ≡ bind (opening file) (read_opened file)
  unfolding read_degas
  read_fits h = area-fits area _ h

-- ---- every accepted file

-- what holds of a raw reading of either length and of a packed one holds of what is accepted
pub by_form : (file : List ℕ) (P : Reading → Type 0)
    → ((r : Resolution) → chosen (resolution_number file) ≡ Some r → is_packed file ≡ false
    → length file ≡ plain_length → P (raw_reading (plain_picture file r) file header_length))
    → ((r : Resolution) → chosen (resolution_number file) ≡ Some r → is_packed file ≡ false
    → length file ≡ elite_length → P (raw_reading (elite_picture file r plain_length) file header_length))
    → ((r : Resolution) → chosen (resolution_number file) ≡ Some r → is_packed file ≡ true
    → Judged P (read_packed file r))
    → (area : ℕ) → Judged P (read_degas file area)
unfolding read_degas read_raw
by_form file P plain elite packed area =
    cond-ltb (Judged P) area screen_bytes (λ _ n. omega arith) (λ _.
    opening-elim file (Judged P) (read_opened file) (λ n. omega arith) (λ n. omega arith) (λ r e.
    cond-elim (Judged P) (is_packed file) (packed r e) (λ raw.
    cond-eqb (Judged P) (length file) plain_length (plain r e raw) (λ _.
    cond-eqb (Judged P) (length file) elite_length (elite r e raw) (λ _ n. omega arith)))))
