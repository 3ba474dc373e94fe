-- Outcomes of reading and writing plates, as the contracts say them.
use Rattle.std.specs.Prelude.{Ok, Err}
use mathlib.Core.Path.{◌≡◌, refl, sym, ap, ap₂, ◌∙◌, subst}
use mathlib.Core.Logic.{◌↔◌}
use mathlib.Core.List.{List, flatten}
use Prim.Native.Nat.{ℕ, ◌≤◌, ◌<◌}
use native.Mathlib.Omega.{arith}
use lib.ListN.{length, take, drop, length-replicate}
use lib.Seq.{take-append_seam, drop_at}
use Rattle.lists.specs.Bytes.{Bytes}
use Rattle.lists.specs.Over.{over}
use Rattle.outcome.specs.declared.Refusal.{Refusal}
use Rattle.outcome.specs.Outcome.{Outcome, refuse, map, Judged}
use Rattle.outcome.specs.Refusal.{no_packed_body}
use Rattle.packbits.specs.Unpacks as unpacks
use Rattle.packbits.specs.UnpacksRows.{UnpacksRows}
use Rattle.pack.specs.LeastRows.{LeastRowsOf}
use Rattle.bodies.specs.declared.BodyAnswer.{BodyAnswer}
use Rattle.bodies.specs.Reading.{body_area}
use Rattle.bodies.specs.Packing.{least_body, least_body_records}
use Rattle.bodies.specs.Unpacking.{UnpackedBody, unpacked_answer}
use Rattle.bodies.specs.Unpacks.{UnpacksImage, ShortestBody}
use Rattle.bodies.proofs.Least.{least-shortest}
use Rattle.picture.specs.declared.WriteAnswer.{WriteAnswer}
use Rattle.picture.specs.Writing.{Writing, file_written, write_answer, write_output}
use Rattle.macpaint.specs.Layout.{body_limit, zero_header}
use Rattle.macpaint.specs.Plate.{plate_raster, plate_bytes}
use Rattle.macpaint.specs.Reading.{read_plate}
use Rattle.macpaint.specs.Writing.{write_plate, plate_back, WritesPlate}
use Rattle.macpaint.specs.Accepts.{AcceptsPlate, plate_given}
use Rattle.macpaint.proofs.Acceptance.{Given, plate-judged, plate-complete}
use Rattle.macpaint.proofs.Examples.{blank-plate}
use Rattle.macpaint.proofs.LeastBody.{least-bound, bound-attained, plate-refused-exactly, plate-otherwise}
use Rattle.macpaint.proofs.Plate.{in-range, plate-rows}
use Rattle.macpaint.proofs.ReadPlate.{read-judged}
use Rattle.macpaint.proofs.RoundTrip.{ReadsBack, round_trip}
use Rattle.demands.specs.Refusals.{Refuses}
use Rattle.demands.proofs.Refusals.{read-plate-refused, write-plate-refused}
use Rattle.statements.specs.declared.PlateRoundTrip.{PlateRoundTrip}
use Rattle.statements.specs.Plates.{HoldsPlate, StatedPlate, ReadsPlate, ReadsNoPlate, plate_rows}
use Rattle.statements.specs.Plates.{blank_plate, blank_plate_body, blank_plate_file, PlateBothOccur}
use Rattle.statements.specs.Plates.{UnpacksPlate, NoPlateBodyBelow, ShortestPlateBody, WritesLeastPlate}
use Rattle.statements.specs.Plates.{PlateNeverAbove, PlateAttained, AnswersPlateRead, PlateBack}
use Rattle.statements.specs.Blank.{zeros}
use Rattle.statements.specs.Writing.{WritesNothing}
use Rattle.statements.proofs.Writing.{refused-number}
use Rattle.statements.proofs.Blank.{zero-rows, unpacks-equal, bytes-equal, pair-bytes}

-- ---- reading

module _ (file area : List ℕ) where
  abbrev outcome : Outcome UnpackedBody
  outcome = read_plate file (length area)

  abbrev answer : BodyAnswer
  answer = unpacked_answer outcome

  accepts-number : (o : Outcome UnpackedBody) → Judged (Given file (length area)) o
      → (unpacked_answer o).refusal.number ≡ 0 → AcceptsPlate file
  accepts-number (Ok u) g e = g.0
  accepts-number (Err why) h e = absurd (h e)

  pub reads-plate : HoldsPlate area → (fits : AcceptsPlate file)
      → ReadsPlate (plate_given fits) answer area (body_area outcome area)
  reads-plate room fits =
      let e = plate-complete file (length area) room fits in
      let later = ap (λ (o : Outcome UnpackedBody). body_area o area) e in
      record {
        accepted = ap (λ (o : Outcome UnpackedBody). (unpacked_answer o).refusal) e;
        body = ap (λ (o : Outcome UnpackedBody). (unpacked_answer o).body) e;
        records = ap (λ (o : Outcome UnpackedBody). (unpacked_answer o).records) e;
        later = later;
        past =
            ap (drop plate_bytes) later
            ∙ drop_at (plate_given fits).image _ plate_bytes fits.fits.size
            ∙ ap (λ (n : ℕ). drop n area) fits.fits.size;
      }

  pub reads-exactly : HoldsPlate area → Bytes file → (answer.refusal.number ≡ 0) ↔ AcceptsPlate file
  reads-exactly room bytes = (
    accepts-number outcome (plate-judged file (length area) bytes),
    λ fits. ap (λ (a : BodyAnswer). a.refusal.number)
        (ap unpacked_answer (plate-complete file (length area) room fits)),
  )

  pub blank-read-plate : HoldsPlate area → file ≡ blank_plate_file → answer.refusal.number ≡ 0
  unfolding zero_header
  blank-read-plate room e =
      ap (λ (o : Outcome UnpackedBody). (unpacked_answer o).refusal.number)
      (read-judged file (length area) room ∙ sym (read-judged file plate_bytes (omega arith)))
      ∙ ap (λ (f : List ℕ). (unpacked_answer (read_plate f plate_bytes)).refusal.number) e
      ∙ ap (λ (a : BodyAnswer). a.refusal.number) blank-plate

  pub reads-no-plate : Refuses answer.refusal → ReadsNoPlate answer area (body_area outcome area)
  reads-no-plate h =
      let r = read-plate-refused file area h in
      record { later = r.0; body = r.1; records = r.2 }

-- ---- rows of a plate, as the raster has them and as the papers say them

module _ (plate : List ℕ) (full : HoldsPlate plate) where
  to-plate : {body : List ℕ} {n : ℕ} → UnpacksImage plate_raster body plate n → UnpacksPlate body plate n
  to-plate u = rw (plate-rows plate full) at u

  to-image : {body : List ℕ} {n : ℕ} → UnpacksPlate body plate n → UnpacksImage plate_raster body plate n
  to-image u = rw (plate-rows plate full) u

  plate-shortest : {body : List ℕ} {n : ℕ} → ShortestBody plate_raster plate body n → ShortestPlateBody plate body n
  plate-shortest s = record { unpacks = to-plate s.unpacks; shortest = λ u. s.shortest (to-image u) }

  image-shortest : {body : List ℕ} {n : ℕ} → ShortestPlateBody plate body n → ShortestBody plate_raster plate body n
  image-shortest s = record { unpacks = to-image s.unpacks; shortest = λ u. s.shortest (to-plate u) }

  pub plate-never-above : PlateNeverAbove plate
  plate-never-above body n s = least-bound plate (image-shortest s)

-- ---- writing

module _ (plate out : List ℕ) where
  abbrev written : Outcome Writing
  written = write_plate plate (length out)

  abbrev number : Outcome Writing → ℕ
  number o = (write_answer o).refusal.number

  module _ (stated : StatedPlate plate out) (bytes : Bytes plate) where
    exactly : (written ≡ refuse no_packed_body) ↔ NoPlateBodyBelow plate
    exactly =
        let e = plate-refused-exactly plate (length out) stated.plate-fits stated.output-fits bytes in (
          λ is body n b u below. e.0 is body n b (to-image plate stated.plate-fits u) below,
          λ none. e.1 (λ body n b u below. none body n b (to-plate plate stated.plate-fits u) below),
        )

    otherwise : (NoPlateBodyBelow plate → ⊥) → (w : Writing) × (written ≡ Ok w) × WritesPlate plate w
    otherwise some =
        plate-otherwise plate (length out) stated.plate-fits stated.output-fits (λ e. some (exactly.0 e))

    pub plate-refuses-exactly : (number written ≡ no_packed_body) ↔ NoPlateBodyBelow plate
    plate-refuses-exactly = (
      λ nine body n b u below.
          let w = otherwise (λ none. none body n b u below) in
          omega (arith, ap number w.1, nine),
      λ none. ap number (exactly.1 none),
    )

    pub writes-least-plate : (NoPlateBodyBelow plate → ⊥)
        → WritesLeastPlate plate (write_answer written) out (write_output written out)
    writes-least-plate some =
        let w = otherwise some in
        let e = w.1 in
        let q = w.2 in
        let full = stated.plate-fits in
        let records = sym (ap (λ (o : Outcome Writing). (write_answer o).records) e) in
        let body = ap (λ (o : Outcome Writing). (write_answer o).body) e in
        record {
          packed = q.packed;
          accepted = ap (λ (o : Outcome Writing). (write_answer o).refusal) e;
          later =
              ap (λ (o : Outcome Writing). write_output o out) e ∙ ap (λ (file : List ℕ). over file out) q.form;
          total = omega (arith, ap (λ (o : Outcome Writing). (write_answer o).length) e, q.all, body);
          rows =
              subst (LeastRowsOf q.packed (plate_rows plate)) records
              (rw (plate-rows plate full) at q.least.rows);
          least = subst (ShortestPlateBody plate q.packed) records (plate-shortest plate full q.least.least);
          body = body ∙ q.size;
          below = omega (arith, body, q.size, q.least.below);
        }

    pub plate-is-written : (NoPlateBodyBelow plate → ⊥) → number written ≡ 0
    plate-is-written some = ap (λ (w : Refusal). w.number) (writes-least-plate some).accepted

  pub writes-no-plate : Refuses (write_answer written).refusal
      → WritesNothing (write_answer written) out (write_output written out)
  writes-no-plate h =
      let r = write-plate-refused plate out h in
      record { later = r.0; total = r.1; body = r.2; records = r.3 }

pub plate-attained : PlateAttained
plate-attained =
    let b = bound-attained in
    let full : plate_bytes ≤ length b.0 = omega (arith, b.1) in
    let least = least-shortest plate_raster b.0 in-range in
    record {
      plate = b.0;
      whole = b.1;
      bytes = b.2;
      packed = least_body plate_raster b.0;
      records = least_body_records plate_raster b.0;
      least = plate-shortest b.0 full least;
      most = b.3 _ _ least;
    }

-- a plate with the longest least body has none below the limit, and the blank one has
none-below-plate : (most : PlateAttained) → NoPlateBodyBelow most.plate
none-below-plate most body n b u below = omega (arith, most.most, most.least.shortest u)

blank-plate-below : length blank_plate_body < body_limit
unfolding flatten
blank-plate-below = let n : length blank_plate_body ≡ 1440 = refl in omega arith

blank-plate-unpacks : UnpacksImage plate_raster blank_plate_body blank_plate 720
blank-plate-unpacks =
    subst (λ (list : List (List ℕ)). UnpacksRows blank_plate_body list 720) (sym (zero-rows plate_bytes plate_raster))
    (unpacks-equal 720 _ (zeros 72) (unpacks.repeat {x = 0xB9} {byte = 0} (omega arith) (omega arith) unpacks.full))

some-below-plate : NoPlateBodyBelow blank_plate → ⊥
some-below-plate none =
    let whole : plate_bytes ≤ length blank_plate = omega (arith, length-replicate {A = ℕ} plate_bytes 0) in
    none blank_plate_body 720 (bytes-equal 720 _ (pair-bytes 0xB9 (omega arith)))
    (to-plate blank_plate whole blank-plate-unpacks) blank-plate-below

pub plate-both-occur : (plate out : List ℕ) → StatedPlate plate out → Bytes plate
    → PlateBothOccur plate (write_answer (write_plate plate (length out)))
plate-both-occur plate out stated bytes =
    record {
      blank = λ e. plate-is-written plate out stated bytes (λ none. some-below-plate (rw e at none));
      longest = λ most e. (plate-refuses-exactly plate out stated bytes).1 (rw e (none-below-plate most));
    }

-- a refused writing has a number
pub plate-numbered : (plate : List ℕ) (out : ℕ) (why : Refusal) → map file_written (write_plate plate out) ≡ Err why
    → why.number ≡ 0 → ⊥
plate-numbered plate out why =
    refused-number _ (write_plate plate out) (round_trip plate plate_bytes (omega arith) out) why

-- ---- written and read back

module _ (plate out area : List ℕ) (room : HoldsPlate area) where
  -- the file is the output's front, as long as the writing answers
  file-back : (o : Outcome Writing) → Judged (ReadsBack plate (length area) room) o → (write_answer o).refusal.number ≡ 0
      → (w : Writing) × (write_answer o ≡ write_answer (Ok w))
      × (read_plate (take (write_answer o).length (write_output o out)) (length area) ≡ Ok (plate_back plate w))
  file-back (Ok w) back ok = (
    w,
    refl,
    ap (λ (f : List ℕ). read_plate f (length area)) (take-append_seam w.file (drop (length w.file) out)) ∙ back,
  )
  file-back (Err why) number ok = absurd (number ok)

  pub plate-read-back : (b : PlateRoundTrip) (file after : List ℕ)
      → b.written ≡ write_answer (write_plate plate (length out))
      → file ≡ write_output (write_plate plate (length out)) out
      → AnswersPlateRead (take b.written.length file) b.read area after → b.written.refusal.number ≡ 0
      → PlateBack plate b area after
  plate-read-back b file after is left read ok =
      let o : Outcome Writing = write_plate plate (length out) in
      let f = file-back o (round_trip plate (length area) room (length out)) (rw is at ok) in
      let written : b.written ≡ write_answer (Ok f.0) = is ∙ f.1 in
      let front : take b.written.length file ≡ take (write_answer o).length (write_output o out) =
      ap₂ (λ (a : WriteAnswer) (l : List ℕ). take a.length l) is left in
      let back : read_plate (take b.written.length file) (length area) ≡ Ok (plate_back plate f.0) =
      ap (λ (l : List ℕ). read_plate l (length area)) front ∙ f.2 in
      let answer : b.read ≡ unpacked_answer (Ok (plate_back plate f.0)) =
      read.answer ∙ ap unpacked_answer back in
      record {
        accepted = ap (λ (a : BodyAnswer). a.refusal) answer;
        body = ap (λ (a : BodyAnswer). a.body) answer ∙ sym (ap (λ (a : WriteAnswer). a.body) written);
        records = ap (λ (a : BodyAnswer). a.records) answer ∙ sym (ap (λ (a : WriteAnswer). a.records) written);
        later = read.later ∙ ap (λ (o : Outcome UnpackedBody). body_area o area) back;
      }
