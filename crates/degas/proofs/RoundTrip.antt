-- Demand 2 of DEGAS files: what is written is read back, in every form.
use Rattle.std.specs.Prelude.{Ok, Some}
use mathlib.Core.Path.{◌≡◌, refl, ap, ◌∙◌}
use mathlib.Core.List.{List, ◌++◌}
use Prim.Native.Nat.{ℕ, ◌+◌, ◌/◌, ◌%◌, ◌^◌, ◌≤◌, ◌<◌}
use native.Mathlib.Omega.{arith}
use lib.ListN.{length, take, length-append}
use lib.Seq.{take_at, take_all, length-take-le}
use borrow.Author.Tests.{ne_eqb}
use Rattle.lists.proofs.Cond.{cond-leb}
use Rattle.outcome.specs.Outcome.{Outcome, map, bind, Judged}
use Rattle.words.specs.Word.{word_at}
use Rattle.resolution.specs.declared.Resolution.{Resolution}
use Rattle.resolution.specs.Shapes.{screen_bytes, raster_of}
use Rattle.resolution.specs.Choice.{chosen}
use Rattle.resolution.proofs.Choice.{number-chosen, known-le}
use Rattle.resolution.proofs.Rasters.{raster-bytes, raster-within}
use Rattle.bodies.specs.Packing.{least_body, PackedBody}
use Rattle.bodies.proofs.Packing.{packed}
use Rattle.bodies.proofs.RoundTrip.{body_back}
use Rattle.picture.specs.declared.Picture.{Picture}
use Rattle.picture.specs.Tables.{tail_bytes}
use Rattle.picture.specs.Whole.{WholePicture}
use Rattle.picture.specs.Writing.{Writing}
use Rattle.picture.proofs.Whole.{length-tail}
use Rattle.picture.proofs.Writing.{judge-elim}
use Rattle.degas.specs.declared.Form.{Form}
use Rattle.degas.specs.declared.Form.TheVariants.{Plain, Elite, Packed}
use Rattle.degas.specs.Layout.{header_length, tail_length, body_limit, plain_length, elite_length, packed_length}
use Rattle.degas.specs.Layout.{packed_bit, header, plain_file, elite_file, packed_file}
use Rattle.degas.specs.Opening.{resolution_number}
use Rattle.degas.specs.Reading.{read_raw, packed_reading, read_packed, read_opened, read_degas}
use Rattle.degas.specs.Writing.{packed_writing, write_packed, write_form, write_degas, degas_back}
use Rattle.degas.proofs.FileLayout.{length-header, header-word, header-palette, header-rest}
use Rattle.degas.proofs.FileLayout.{length-elite, elite-tail}
use Rattle.degas.proofs.Opening.{header_of, opening-known}
use Rattle.degas.proofs.ReadDegas.{raw-plain, raw-elite, packed-short, read_fits}
use Rattle.degas.proofs.ScreenRaster.{in-range}

module _ (p : Picture) (whole : WholePicture p) (screen : List ℕ) (area : ℕ) (room : screen_bytes ≤ area) where
  -- an accepted writing's file, read
  abbrev pub ReadsBack : Form → Writing → Type 0
  ReadsBack form w = read_degas w.file area ≡ Ok (degas_back form p screen w)

  module _ (r : Resolution) (known : chosen p.resolution ≡ Some r) (full : screen_bytes ≤ length screen) where
    small : p.resolution ≤ 2
    small = known-le p.resolution r known

    same : {n : ℕ} → n ≡ p.resolution → chosen n ≡ Some r
    same e = ap chosen e ∙ known

    size : length (take screen_bytes screen) ≡ screen_bytes
    size = length-take-le screen_bytes screen full

    -- ---- the first word is the resolution, with bit 15 for packed

    module _ (file : List ℕ) (long : header_length ≤ length file) where
      back-opened : resolution_number file ≡ p.resolution → read_degas file area ≡ read_opened file (header_of file r)
      back-opened e = read_fits file area room ∙ rw (opening-known file long r (same e))

      back-raw : word_at file 0 ≡ p.resolution → read_degas file area ≡ read_raw file r
      back-raw e =
          let bit : word_at file 0 / 2 ^ 15 % 2 ≡ 1 → ⊥ = λ one. omega (arith, small) in
          back-opened (omega (arith, small)) ∙ rw (ne_eqb (word_at file 0 / 2 ^ 15 % 2) 1 bit)

      back-packed : word_at file 0 ≡ packed_bit + p.resolution → read_degas file area ≡ read_packed file r
      back-packed e =
          let bit : word_at file 0 / 2 ^ 15 ≡ 1 = omega (arith, small) in
          back-opened (omega (arith, small)) ∙ rw bit

    -- ---- each form

    plain_back : ReadsBack Plain (record { file = plain_file p screen; body = 0; records = 0 })
    unfolding plain_file
    plain_back =
        let bytes : List ℕ = take screen_bytes screen in
        let file : List ℕ = header p.resolution p ++ bytes in
        let long : length file ≡ plain_length =
        omega (arith, length-append (header p.resolution p) bytes, length-header p whole p.resolution, size) in
        back-raw file (omega arith) (header-word p whole p.resolution bytes)
        ∙ raw-plain file r long
        ∙ rw (
          number-chosen p.resolution r known,
          header-palette p whole p.resolution bytes,
          header-rest p whole p.resolution bytes,
          take_all screen_bytes bytes (omega (arith, size)),
        )

    elite-back : ReadsBack Elite (record { file = elite_file p screen; body = 0; records = 0 })
    unfolding elite_file
    elite-back =
        let bytes : List ℕ = take screen_bytes screen in
        let rest : List ℕ = bytes ++ tail_bytes p.tail in
        let file : List ℕ = header p.resolution p ++ rest in
        let long : length file ≡ elite_length = omega (arith, length-elite p whole p.resolution bytes, size) in
        back-raw file (omega arith) (header-word p whole p.resolution rest)
        ∙ raw-elite file r long
        ∙ rw (
          number-chosen p.resolution r known,
          header-palette p whole p.resolution rest,
          elite-tail p whole p.resolution bytes plain_length (omega (arith, size)),
          header-rest p whole p.resolution rest,
          take_at bytes (tail_bytes p.tail) screen_bytes size,
        )

    packed-back : length (least_body (raster_of r) screen) < body_limit
        → ReadsBack Packed (packed_writing p (packed (raster_of r) screen body_limit))
    unfolding packed_file
    packed-back below =
        let body : List ℕ = least_body (raster_of r) screen in
        let first : ℕ = packed_bit + p.resolution in
        let rest : List ℕ = body ++ tail_bytes p.tail in
        let file : List ℕ = header first p ++ rest in
        let long : length file ≡ packed_length (length body) = length-elite p whole first body in
        let held = raster-within r (length screen) full in
        back-packed file (omega arith) (header-word p whole first rest)
        ∙ packed-short file r (omega arith)
        ∙ ap (map (packed_reading file r))
        (body_back (raster_of r) screen (in-range r) held (header first p) (tail_bytes p.tail) header_length tail_length
        (length-header p whole first) (length-tail p whole))
        ∙ rw (
          number-chosen p.resolution r known,
          header-palette p whole first rest,
          elite-tail p whole first body (header_length + length body) refl,
          raster-bytes r,
        )

    form-back : (form : Form) → Judged (ReadsBack form) (write_form form r p screen)
    unfolding write_packed
    form-back Plain = plain_back
    form-back Elite = elite-back
    form-back Packed =
        cond-leb (λ (o : Outcome PackedBody). Judged (ReadsBack Packed) (map (packed_writing p) o))
        body_limit
        (length (least_body (raster_of r) screen))
        (λ _ n. omega arith)
        packed-back

  pub degas-back : (form : Form) (out : ℕ) → Judged (ReadsBack form) (write_degas form p screen out)
  unfolding write_degas
  degas-back form out =
      judge-elim (length screen) out p.resolution
      (λ (o : Outcome Resolution). Judged (ReadsBack form) (bind o (λ r. write_form form r p screen)))
      (λ n. omega arith)
      (λ n. omega arith)
      (λ r a. form-back r a.known a.screen-fits form)
