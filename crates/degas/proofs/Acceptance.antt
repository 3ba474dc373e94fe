-- Demand 2 of DEGAS files: one is accepted exactly when it fits, and then gives what its parts are.
use Rattle.std.specs.Prelude.{Ok}
use mathlib.Core.Path.{◌≡◌, refl, sym, ap, ◌∙◌}
use mathlib.Core.Logic.{◌↔◌}
use mathlib.Core.List.{List}
use Prim.Native.Nat.{ℕ, ◌≤◌}
use native.Mathlib.Omega.{arith}
use lib.ListN.{length, take, drop}
use Rattle.lists.specs.Bytes.{Bytes}
use Rattle.outcome.specs.Outcome.{Outcome, map, Judged}
use Rattle.outcome.proofs.Outcome.{judged-known, judged-value, judged-map}
use Rattle.resolution.specs.declared.Resolution.{Resolution}
use Rattle.resolution.specs.Shapes.{screen_bytes, raster_of}
use Rattle.bodies.specs.Unpacking.{UnpackedBody}
use Rattle.bodies.specs.Unpacks.{UnpacksImage}
use Rattle.bodies.specs.Reading.{read_body, body_given}
use Rattle.bodies.proofs.Fits.{fits-length, fits-complete, fits-exactly, fits-counts}
use Rattle.bodies.proofs.Reading.{ReadBounded, read-bounded}
use Rattle.picture.specs.Reading.{Reading}
use Rattle.degas.specs.Layout.{header_length, tail_length, body_limit, packed_length}
use Rattle.degas.specs.Reading.{packed_reading, read_packed, read_opened, read_degas}
use Rattle.degas.specs.Accepts.{PackedFits, Fits, plain, elite, packed, AcceptsDegas}
use Rattle.degas.specs.Accepts.{packed_given, fits_given, degas_given}
use Rattle.degas.proofs.Opening.{header_of, opening-known}
use Rattle.degas.proofs.ReadDegas.{raw-plain, raw-elite, packed-short, packed-judged, read_fits, by_form}

module _ (file : List ℕ) (r : Resolution) where
  -- ---- a packed file that fits is accepted, with what its parts give

  pub packed-complete : (p : PackedFits file r) → read_packed file r ≡ Ok (packed_given r p)
  packed-complete p =
      packed-short file r (omega (arith, fits-length file header_length tail_length body_limit (raster_of r) p, p.below))
      ∙ ap (map (packed_reading file r)) (fits-complete file header_length tail_length body_limit (raster_of r) p)

  -- ---- a packed file that is accepted

  abbrev PackedGiven : Reading → Type 0
  PackedGiven q = (p : PackedFits file r) × (q ≡ packed_given r p)

  module _ (all : Bytes file) where
    abbrev body : Outcome UnpackedBody
    body = read_body file header_length tail_length (raster_of r)

    packed-given : Judged PackedGiven (read_packed file r)
    packed-given =
        let Known : UnpackedBody → Type 0 = ReadBounded file header_length tail_length (raster_of r) in
        packed-judged file r (λ u. (body ≡ Ok u) × Known u) PackedGiven
        (judged-known Known body (read-bounded file header_length tail_length (raster_of r)))
        (λ u short known.
        let g =
        (fits-exactly file header_length tail_length body_limit (raster_of r) all (omega arith) u
        ).0 known.0 in
        (g.0, ap (packed_reading file r) g.1))

    -- the counts of an accepted packed file are those of the body that unpacks to its screen
    pub packed-counts : (q : Reading) → read_packed file r ≡ Ok q
        → (length file ≡ packed_length q.body)
        × UnpacksImage (raster_of r) (take q.body (drop header_length file)) q.screen q.records
    packed-counts q e =
        let g = judged-value PackedGiven (read_packed file r) q packed-given e in
        let p : PackedFits file r = g.0 in
        let long = fits-length file header_length tail_length body_limit (raster_of r) p in
        rw g.1
        (fits-counts file header_length tail_length body_limit (raster_of r) all (omega (arith, long, p.below))
        (body_given p)
        (fits-complete file header_length tail_length body_limit (raster_of r) p))

  -- ---- a file of a known resolution

  opened-complete : (f : Fits file r) → read_opened file (header_of file r) ≡ Ok (fits_given f)
  opened-complete (plain is size) = rw is (raw-plain file r size)
  opened-complete (elite is size) = rw is (raw-elite file r size)
  opened-complete (packed is p) = rw is (packed-complete p)

  fits-header : Fits file r → header_length ≤ length file
  fits-header (plain is size) = omega arith
  fits-header (elite is size) = omega arith
  fits-header (packed is p) = omega (arith, fits-length file header_length tail_length body_limit (raster_of r) p)

-- ---- every file

module _ (file : List ℕ) (area : ℕ) where
  -- what is read of a file that fits
  abbrev pub Given : Reading → Type 0
  Given q = (a : AcceptsDegas file) × (q ≡ degas_given a)

  pub degas-judged : Bytes file → Judged Given (read_degas file area)
  degas-judged bytes =
      by_form file Given
      (λ r e raw size. (record { resolution = r; allowed = e; fits = plain raw size }, refl))
      (λ r e raw size. (record { resolution = r; allowed = e; fits = elite raw size }, refl))
      (λ r e is.
      judged-map (PackedGiven file r) Given (read_packed file r) (packed-given file r bytes)
      (λ q g. (record { resolution = r; allowed = e; fits = packed is g.0 }, g.1)))
      area

  module _ (room : screen_bytes ≤ area) where
    -- a file that fits is accepted
    pub degas-complete : (a : AcceptsDegas file) → read_degas file area ≡ Ok (degas_given a)
    degas-complete a =
        let h = fits-header file a.resolution a.fits in
        read_fits file area room
        ∙ rw (opening-known file h a.resolution a.allowed) (opened-complete file a.resolution a.fits)

    -- accepted exactly when it fits, and then with this
    pub degas-acceptance : Bytes file → (q : Reading) → (read_degas file area ≡ Ok q) ↔ Given q
    degas-acceptance bytes q = (
      judged-value Given (read_degas file area) q (degas-judged bytes),
      λ g. degas-complete g.0 ∙ ap Ok (sym g.1),
    )
