-- Change request 12, one packed file per picture: what holds of the rewriting of an accepted packed DEGAS file.
use Rattle.std.specs.Prelude.{Ok}
use mathlib.Core.Path.{◌≡◌, refl, sym, ap, ap₂, ◌∙◌}
use mathlib.Core.Logic.{◌↔◌}
use mathlib.Core.Bool.{true, false≢true}
use mathlib.Core.List.{List, [], ◌++◌}
use Prim.Native.Nat.{ℕ, ◌+◌, ◌/◌, ◌%◌, ◌^◌, ◌≤◌}
use native.Mathlib.Omega.{arith}
use lib.ListN.{length, drop, replicate}
use lib.Seq.{take_all, take-append_seam}
use borrow.Author.Tests.{lt-leb, eq-eqb}
use Rattle.lists.specs.Bytes.{Bytes}
use Rattle.lists.specs.Over.{over}
use Rattle.lists.proofs.Over.{length_over, get_or-over-in}
use Rattle.lists.proofs.Cond.{cond-ltb}
use Rattle.outcome.specs.Outcome.{Outcome, bind, map, later}
use Rattle.words.specs.Word.{word_at}
use Rattle.pack.specs.LeastRows.{least_rows}
use Rattle.raster.specs.PlaneRows.{plane_rows}
use Rattle.raster.proofs.PlaneRows.{plane_rows-front}
use Rattle.resolution.specs.declared.Resolution.{Resolution}
use Rattle.resolution.specs.Choice.{number_of}
use Rattle.resolution.specs.Shapes.{screen_bytes, raster_of}
use Rattle.resolution.proofs.Choice.{known-le, chosen-number}
use Rattle.resolution.proofs.Rasters.{raster-bytes}
use Rattle.bodies.specs.Packing.{least_body}
use Rattle.bodies.proofs.Fits.{fits-length}
use Rattle.bodies.proofs.Least.{least-shortest}
use Rattle.bodies.proofs.Packing.{packed, limit-below}
use Rattle.picture.specs.declared.Picture.{Picture}
use Rattle.picture.specs.Tables.{tail_bytes, with_tail}
use Rattle.picture.specs.Whole.{WholePicture}
use Rattle.picture.specs.Reading.{Reading}
use Rattle.picture.specs.Writing.{Writing, file_bytes, write_answer}
use Rattle.picture.proofs.Whole.{whole-with-tail}
use Rattle.degas.specs.declared.Form.TheVariants.{Packed}
use Rattle.degas.specs.Layout.{palette_start, header_length, tail_length, body_limit, packed_bit, header, packed_file}
use Rattle.degas.specs.Opening.{is_packed}
use Rattle.degas.specs.Reading.{read_degas}
use Rattle.degas.specs.Writing.{packed_writing, write_packed, write_degas}
use Rattle.degas.specs.Accepts as fitting
use Rattle.degas.specs.Accepts.{PackedFits, Fits, packed_given, fits_given}
use Rattle.degas.proofs.Acceptance.{Given, degas-acceptance}
use Rattle.degas.proofs.FileLayout.{header-word, length-packed_file}
use Rattle.degas.proofs.ReadDegas.{read_fits}
use Rattle.degas.proofs.ScreenRaster.{in-range}
use Rattle.degas.proofs.WriteDegas.{write-passed}
use Rattle.reader.specs.Reading.{kind_degas, read_file}
use Rattle.reader.proofs.Choice.{file-degas}
use Rattle.writer.specs.Writing.{form_packed, write_file}
use Rattle.writer.proofs.Choice.{form-packed}
use Rattle.conversion.specs.declared.Conversion.TheVariants.{ToElite, ToPlain}
use Rattle.conversion.specs.Converting.{write_elite, convert}
use Rattle.conversion.specs.Accepts.{AcceptsToPlain}
use Rattle.conversion.proofs.Elite.{elite-packed}
use Rattle.conversion.proofs.RoundTrip.{to-plain-back}
use Rattle.demands.proofs.RoundTrips.{written_read}
use Rattle.rewriting.specs.Rewrite.{Lent, write_read, rewrite, file_in, rewritten, ReadsPacked, SamePicture}
use Rattle.rewriting.specs.Rewrite.{NeverLonger}

-- ---- what is written is packed

packed-bit : (p : Picture) → WholePicture p → p.resolution ≤ 2 → (body : List ℕ) → is_packed (packed_file p body) ≡ true
unfolding packed_file
packed-bit p whole small body =
    let rest : List ℕ = body ++ tail_bytes p.tail in
    let file : List ℕ = header (packed_bit + p.resolution) p ++ rest in
    let word : word_at file 0 ≡ packed_bit + p.resolution = header-word p whole (packed_bit + p.resolution) rest in
    eq-eqb (word_at file 0 / 2 ^ 15 % 2) 1 (omega (arith, word, small))

-- ---- a packed file whose reading is accepted: its parts

by_kind : (file : List ℕ) (area : ℕ) → read_file kind_degas file area ≡ read_degas file area
by_kind file area = file-degas kind_degas file area refl

-- the area has 32,000 bytes or more, and then gives what any other of that size does
area-room : {file : List ℕ} {q : Reading} (f : ReadsPacked file q) → screen_bytes ≤ f.area
unfolding read_degas
area-room {file} {q} f =
    cond-ltb (λ (o : Outcome Reading). o ≡ Ok q → screen_bytes ≤ f.area) f.area screen_bytes
    (λ short e. let z : ◌≡◌ {A = ℕ} 0 1 = cc in absurd (omega arith))
    (λ full e. full)
    (sym (by_kind file f.area) ∙ f.reads)

reads-into : {file : List ℕ} {q : Reading} → ReadsPacked file q → (area : ℕ) → screen_bytes ≤ area
    → read_file kind_degas file area ≡ Ok q
reads-into {file} f area room =
    by_kind file area
    ∙ read_fits file area room
    ∙ sym (read_fits file f.area (area-room f))
    ∙ sym (by_kind file f.area)
    ∙ f.reads

record Parts (file : List ℕ) (q : Reading) : Type 0 where
  r : Resolution
  fits : PackedFits file r
  gives : q ≡ packed_given r fits

parts : {file : List ℕ} {q : Reading} → Bytes file → ReadsPacked file q → Parts file q
parts {file} {q} bytes f =
    let g = (degas-acceptance file f.area (area-room f) bytes q).0 (sym (by_kind file f.area) ∙ f.reads) in
    go g.0.resolution g.0.fits g.1
  where
    go : (r : Resolution) (fits : Fits file r) → q ≡ fits_given fits → Parts file q
    go r (fitting.plain raw size) is = absurd (false≢true (sym raw ∙ f.packed))
    go r (fitting.elite raw size) is = absurd (false≢true (sym raw ∙ f.packed))
    go r (fitting.packed bit fits) is = record { r = r; fits = fits; gives = is }

-- what reading gives of a file that was written of q
abbrev read_again : Reading → Writing → Reading
read_again q w = record { picture = q.picture; body = w.body; records = w.records; screen = q.screen }

-- ---- what rewriting makes of the parts: the picture's form 3 with the screen's least body

module _ {file : List ℕ} (r : Resolution) (fits : PackedFits file r) where
  abbrev picture : Picture
  picture = (packed_given r fits).picture

  abbrev least : List ℕ
  least = least_body (raster_of r) fits.image

  abbrev writing : Writing
  writing = packed_writing picture (packed (raster_of r) fits.image body_limit)

  least-below : length least ≤ length fits.body
  least-below = (least-shortest (raster_of r) fits.image (in-range r)).shortest fits.runs

  size : length fits.image ≡ screen_bytes
  size = fits.size ∙ raster-bytes r

  whole : WholePicture picture
  whole = whole-with-tail file (number_of r) palette_start (header_length + length fits.body)

  -- from any area with the screen's plane rows
  written : (s : List ℕ) → screen_bytes ≤ length s → plane_rows s (raster_of r) ≡ plane_rows fits.image (raster_of r)
      → (out : ℕ) → file_bytes ≤ out → write_file form_packed picture s out ≡ Ok writing
  unfolding write_packed
  written s full same out enough =
      let body : least_body (raster_of r) s ≡ least = ap least_rows same in
      form-packed form_packed picture s out refl
      ∙ write-passed Packed picture s out (record { screen-fits = full; output-fits = enough; known = chosen-number r })
      ∙ ap (map (packed_writing picture))
      (limit-below (raster_of r) s body_limit
      (lt-leb body_limit (length (least_body (raster_of r) s))
      (omega (arith, ap length body, least-below, fits.below))))
      ∙ rw same

  written-screen : write_file form_packed picture fits.image file_bytes ≡ Ok writing
  written-screen = written fits.image (omega (arith, size)) refl file_bytes (omega arith)

  written-area : (area out : List ℕ) → Lent area out
      → write_file form_packed picture (over fits.image area) (length out) ≡ Ok writing
  written-area area out lent =
      let long = length_over fits.image area (omega (arith, size, lent.room)) in
      written (over fits.image area) (omega (arith, long, lent.room))
      (plane_rows-front (over fits.image area) fits.image (raster_of r)
      (λ o h. get_or-over-in fits.image area o 0 (omega (arith, fits.size))))
      (length out)
      lent.enough

  -- read again: the same picture and screen
  written_back : (area : ℕ) → screen_bytes ≤ area
      → read_file kind_degas writing.file area ≡ Ok (read_again (packed_given r fits) writing)
  written_back area room =
      written_read picture whole fits.image area room form_packed file_bytes writing written-screen
      ∙ rw (take_all screen_bytes fits.image (omega (arith, size)))

  writing-packed : is_packed writing.file ≡ true
  writing-packed = packed-bit picture whole (known-le (number_of r) r (chosen-number r)) least

  writing-length : length writing.file ≤ length file
  writing-length =
      omega (
        arith,
        length-packed_file picture whole least,
        fits-length file header_length tail_length body_limit (raster_of r) fits,
        least-below,
      )

-- ---- one file

module _ {file : List ℕ} {q : Reading} (bytes : Bytes file) (f : ReadsPacked file q) where
  found : Parts file q
  found = parts bytes f

  abbrev canonical : Writing
  canonical = writing found.r found.fits

  canonical-back : (area : ℕ) → screen_bytes ≤ area
      → read_file kind_degas canonical.file area ≡ Ok (read_again q canonical)
  canonical-back area room =
      written_back found.r found.fits area room
      ∙ ap (λ (b : Reading). Ok (read_again b canonical)) (sym found.gives)

  module _ (area out : List ℕ) (lent : Lent area out) where
    rewrite-read : rewrite area out file ≡ write_read area out q
    rewrite-read = ap (λ (o : Outcome Reading). bind o (write_read area out)) (reads-into f (length area) lent.room)

    rewrite-is : rewrite area out file ≡ Ok canonical
    rewrite-is =
        rewrite-read
        ∙ ap (write_read area out) found.gives
        ∙ written-area found.r found.fits area out lent

    rewritten-is : rewritten area out file ≡ canonical.file
    rewritten-is = ap (file_in out) rewrite-is ∙ take-append_seam canonical.file (drop (length canonical.file) out)

    -- "rewriting an accepted packed DEGAS file as form 3 never gets 9, is never longer"
    pub never-longer : NeverLonger area out file
    never-longer = record {
      written = ap (λ (o : Outcome Writing). (write_answer o).refusal.number) rewrite-is;
      bytes = omega (arith, ap length rewritten-is, writing-length found.r found.fits);
    }

    -- what is written is a packed DEGAS file of the same picture, whose reading is accepted
    pub rewritten-reads : (b : Reading) × ReadsPacked (rewritten area out file) b × SamePicture q b
    rewritten-reads = (
      read_again q canonical,
      record {
        packed = ap is_packed rewritten-is ∙ writing-packed found.r found.fits;
        area = screen_bytes;
        reads =
            ap (λ (l : List ℕ). read_file kind_degas l screen_bytes) rewritten-is
            ∙ canonical-back screen_bytes (omega arith);
      },
      record { resolution = refl; palette = refl; tail = refl; screen = refl },
    )

  module _ (area out again into : List ℕ) (lent : Lent area out) (lent_again : Lent again into) where
    -- "and a second rewriting changes nothing", whatever areas are lent to it
    pub rewrite-twice : rewritten again into (rewritten area out file) ≡ rewritten area out file
    rewrite-twice =
        ap (λ (l : List ℕ). rewritten again into l) (rewritten-is area out lent)
        ∙ ap (λ (o : Outcome Reading). file_in into (bind o (write_read again into)))
        (canonical-back (length again) lent_again.room)
        ∙ ap (file_in into) (sym (rewrite-read again into lent_again))
        ∙ rewritten-is again into lent_again
        ∙ sym (rewritten-is area out lent)

  -- to plain and to Elite again, where the tail is zero: the rewriting, so accepted, packed and never longer
  module _ (zero : tail_bytes q.picture.tail ≡ replicate tail_length 0) where
    abbrev given : Given file f.area q
    given = (degas-acceptance file f.area (area-room f) bytes q).0 (sym (by_kind file f.area) ∙ f.reads)

    abbrev converts : AcceptsToPlain file
    converts = record {
      accepts = given.0;
      present =
          ap (λ (b : Reading). b.picture.tail_present) (sym given.1 ∙ found.gives);
      zero = ap (λ (b : Reading). tail_bytes b.picture.tail) (sym given.1) ∙ zero;
    }

    pub converted-back : (area out : List ℕ) → Lent area out → (plain : ℕ) → file_bytes ≤ plain → (w : Writing)
        → convert ToPlain file plain ≡ Ok w → convert ToElite w.file (length out) ≡ rewrite area out file
    converted-back area out lent plain room w is =
        let write : Reading → Outcome Writing = λ b. write_elite b.picture b.screen (length out) in
        let r : Resolution = found.r in
        let fits : PackedFits file r = found.fits in
        let packed : write_degas Packed (picture r fits) fits.image (length out) ≡ Ok canonical =
        sym (form-packed form_packed (picture r fits) fits.image (length out) refl)
        ∙ written r fits fits.image (omega (arith, size r fits)) refl (length out) lent.enough in
        to-plain-back converts plain room w is (length out) lent.enough
        ∙ ap write (sym given.1 ∙ found.gives)
        ∙ elite-packed (picture r fits) fits.image (length out) canonical packed
        ∙ sym (rewrite-is area out lent)

-- ---- two files

-- a packed file's picture is its resolution, palette and tail, which is present
picture-is : {file : List ℕ} {q : Reading} → Bytes file → ReadsPacked file q
    → q.picture ≡ with_tail q.picture.resolution q.picture.palette q.picture.tail
picture-is bytes f = let e = (parts bytes f).gives in rw e refl

module _ {file other : List ℕ} {q s : Reading} (bytes : Bytes file) (others : Bytes other) (f : ReadsPacked file q)
    (g : ReadsPacked other s)
    (area out area-other out-other : List ℕ) (lent : Lent area out) (lent_other : Lent area-other out-other) where
  -- "two such files have equal rewritings exactly when resolution, palette words, tail words and screen are equal"
  pub equal-exactly : (rewritten area out file ≡ rewritten area-other out-other other) ↔ SamePicture q s
  equal-exactly = (same-picture, same-file)
    where
      same-picture : rewritten area out file ≡ rewritten area-other out-other other → SamePicture q s
      same-picture e =
          let files =
          sym (rewritten-is bytes f area out lent) ∙ e ∙ rewritten-is others g area-other out-other lent_other in
          let same =
          sym (canonical-back bytes f screen_bytes (omega arith))
          ∙ ap (λ (l : List ℕ). read_file kind_degas l screen_bytes) files
          ∙ canonical-back others g screen_bytes (omega arith)
          in
          record {
            resolution = ap (λ (o : Outcome Reading). later o (λ b. b.picture.resolution) 0) same;
            palette = ap (λ (o : Outcome Reading). later o (λ b. b.picture.palette) []) same;
            tail = ap (λ (o : Outcome Reading). later o (λ b. b.picture.tail) []) same;
            screen = ap (λ (o : Outcome Reading). later o (λ b. b.screen) []) same;
          }

      same-file : SamePicture q s → rewritten area out file ≡ rewritten area-other out-other other
      same-file h =
          let pictures : q.picture ≡ s.picture =
          picture-is bytes f ∙ rw (h.resolution, h.palette, h.tail) (sym (picture-is others g)) in
          ap (file_in out)
          (rewrite-read bytes f area out lent
          ∙ ap₂ (λ (p : Picture) (l : List ℕ). write_file form_packed p (over l area) (length out)) pictures h.screen
          ∙ sym (rewrite-read others g area out lent))
          ∙ rewritten-is others g area out lent
          ∙ sym (rewritten-is others g area-other out-other lent_other)
