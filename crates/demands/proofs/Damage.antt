-- Document 02, ticket 3, of the file reader: where a packed DEGAS file broke, and that what its refusal calls good is
-- what every completion of the file has.
use Rattle.std.specs.Prelude.{Ok, Err, Some}
use mathlib.Core.Path.{◌≡◌, refl, sym, ap, ap₂, ◌∙◌, subst}
use mathlib.Core.Logic.{◌↔◌, inl, inr}
use mathlib.Core.Bool.{true, false, not, ◌||◌}
use mathlib.Core.List.{List}
use Prim.Native.Nat.{ℕ, ◌+◌, ◌*◌, ◌/◌, ◌%◌, ◌^◌, ◌≤◌, ◌<◌}
use native.Mathlib.Omega.{arith}
use lib.ListN.{length, get_or}
use lib.Seq.{get_or-take}
use lib.Dec.{eqb}
use borrow.Author.Tests.{le-ltb, eqb-false, not-false}
use Rattle.lists.specs.Bytes.{Bytes}
use Rattle.lists.proofs.Cond.{cond-elim, cond-ltb, or-false}
use Rattle.outcome.specs.declared.Refusal.{Refusal}
use Rattle.outcome.specs.Outcome.{Outcome, refusal, map, bind, refusal_of}
use Rattle.outcome.proofs.Outcome.{judged-value}
use Rattle.outcome.specs.Refusal.{area_too_short, wrong_length, unknown_resolution, input_ends, record_crosses}
use Rattle.outcome.specs.Refusal.{wrong_version}
use Rattle.packbits.specs.Row.{Row, width_out_of_range, row_answer}
use Rattle.packbits.specs.Unpack.{unpack, unpack_row}
use Rattle.packbits.specs.Stops.{AtRecord, Stops}
use Rattle.packbits.proofs.Stops.{faulty-number, row-stops-exactly}
use Rattle.resolution.specs.declared.Resolution.{Resolution}
use Rattle.resolution.specs.Choice.{chosen, number_of}
use Rattle.resolution.specs.Shapes.{screen_bytes, raster_of}
use Rattle.resolution.proofs.Choice.{with_resolution-elim}
use Rattle.resolution.proofs.Rasters.{raster-bytes}
use Rattle.words.specs.Word.{word_at}
use Rattle.bodies.specs.Damage.{good_rows, good_row, good_part, good_count}
use Rattle.bodies.specs.Reading.{read_body}
use Rattle.bodies.specs.Unpacking.{UnpackedBody, unpacked_answer}
use Rattle.bodies.proofs.Damage as bodies
use Rattle.bodies.proofs.Damage.{stops-refused, stops-number, refused-stops, stops-place, good-below}
use Rattle.picture.specs.Reading.{Reading, read_answer}
use Rattle.degas.specs.declared.Header.{Header}
use Rattle.degas.specs.Layout.{header_length, tail_length, plain_length, elite_length, packed_most}
use Rattle.degas.specs.Opening.{resolution_number, is_packed, opening}
use Rattle.degas.specs.Reading.{read_raw, packed_reading, read_packed, read_opened, read_degas}
use Rattle.degas.specs.Accepts.{PackedFits, Fits, plain, elite, packed, packed_given, fits_given}
use Rattle.degas.proofs.Opening.{header_of, opening-known}
use Rattle.degas.proofs.ReadDegas.{packed-short, read_fits}
use Rattle.degas.proofs.Acceptance.{Given, degas-judged}
use Rattle.macpaint.specs.Layout as macpaint
use Rattle.macpaint.specs.Plate.{plate_raster, plate_bytes}
use Rattle.macpaint.specs.Reading.{version_allowed, read_plate}
use Rattle.macpaint.specs.Accepts.{AcceptsPlate, plate_given}
use Rattle.macpaint.proofs.Acceptance as macpaint-acceptance
use Rattle.macpaint.proofs.Acceptance.{plate-judged, version-sound, version-complete}
use Rattle.macpaint.proofs.ReadPlate.{judge-passed, read-judged}
use Rattle.reader.specs.Reading.{kind_degas, read_file}
use Rattle.reader.proofs.Choice.{file-degas}
use Rattle.demands.specs.Damage.{Damaged, Completion, GoodBefore, DamagedPlate, PlateCompletion, PlateGoodBefore}
use Rattle.demands.proofs.Answers.{read_answer_lem, body-answer, row-answer, refused-by}

-- ---- refused at a record, exactly where the body stops

-- an outcome whose refusal at a record comes from damage
module _ {A : Type 0} (why : Refusal) (Damage : Type 0) where
  abbrev BrokenBy : Outcome A → Type 0
  BrokenBy o = o ≡ Err why → AtRecord why.number → Damage

  broken-accepted : (a : A) → BrokenBy (Ok a)
  broken-accepted a e at = let z : ◌≡◌ {A = ℕ} 0 1 = cc in absurd (omega arith)

  -- another number is not that of a record
  broken-other : (number place : ℕ) → (eqb number input_ends || eqb number record_crosses) ≡ false
      → BrokenBy (Err (refusal number place))
  broken-other number place neither e at = absurd (go at)
    where
      not-one : (eqb number input_ends ≡ false) × (eqb number record_crosses ≡ false)
      not-one = or-false (eqb number input_ends) (eqb number record_crosses) neither

      same : number ≡ why.number
      same = ap (λ (o : Outcome A). (refusal_of o).number) e

      go : AtRecord why.number → ⊥
      go (inl six) = eqb-false number input_ends not-one.0 (same ∙ six)
      go (inr seven) = eqb-false number record_crosses not-one.1 (same ∙ seven)

module _ (file : List ℕ) (why : Refusal) where
  abbrev Broken : Outcome Reading → Type 0
  Broken o = BrokenBy why (Damaged file why) o

  module _ (all : Bytes file) (least : header_length ≤ length file) (r : Resolution)
      (known : chosen (resolution_number file) ≡ Some r) where
    body-broken : is_packed file ≡ true → length file ≤ packed_most → (o : Outcome UnpackedBody)
        → read_body file header_length tail_length (raster_of r) ≡ o → Broken (map (packed_reading file r) o)
    body-broken is most (Ok u) e = broken-accepted why (Damaged file why) _
    body-broken is most (Err w) e = λ same at.
        record {
          resolution = r;
          allowed = known;
          packed = is;
          least = least;
          most = most;
          stops =
              refused-stops file header_length (raster_of r) tail_length why all
              (e ∙ ap Err (ap (λ (o : Outcome Reading). refusal_of o) same)) at;
        }

    packed-broken : is_packed file ≡ true → Broken (read_packed file r)
    unfolding read_packed
    packed-broken is =
        cond-ltb Broken packed_most (length file)
        (λ _. broken-other why (Damaged file why) wrong_length 0 refl)
        (λ most. body-broken is most (read_body file header_length tail_length (raster_of r)) refl)

    raw-broken : Broken (read_raw file r)
    unfolding read_raw
    raw-broken =
        cond-elim Broken (eqb (length file) plain_length) (λ _. broken-accepted why (Damaged file why) _) (λ _.
        cond-elim Broken (eqb (length file) elite_length) (λ _. broken-accepted why (Damaged file why) _) (λ _.
        broken-other why (Damaged file why) wrong_length 0 refl))

    opened-broken : Broken (read_opened file (header_of file r))
    opened-broken = cond-elim Broken (is_packed file) packed-broken (λ _. raw-broken)

  read-broken : Bytes file → (area : ℕ) → Broken (read_degas file area)
  unfolding read_degas opening
  read-broken all area =
      let Opened : Outcome Header → Type 0 = λ o. Broken (bind o (read_opened file)) in
      cond-ltb Broken area screen_bytes
      (λ _. broken-other why (Damaged file why) area_too_short 0 refl) (λ _.
      cond-ltb Opened (length file) header_length
      (λ _. broken-other why (Damaged file why) wrong_length 0 refl) (λ least.
      with_resolution-elim Opened (resolution_number file) (λ r. Ok (header_of file r))
      (broken-other why (Damaged file why) unknown_resolution 0 refl)
      (λ r known. opened-broken all least r known)))

-- the width and the output are as they should be
row-judged : (bytes : List ℕ) (width room : ℕ) → width_out_of_range width ≡ false → width ≤ room
    → unpack_row bytes width room ≡ unpack bytes width
unfolding unpack_row
row-judged bytes width room range fits = rw (range, le-ltb room width fits)

damaged-read : (file : List ℕ) (area : ℕ) (why : Refusal) → screen_bytes ≤ area → Damaged file why
    → read_degas file area ≡ Err why
damaged-read file area why room d =
    let r : Resolution = d.resolution in
    read_fits file area room
    ∙ rw (opening-known file d.least r d.allowed, d.packed)
    (packed-short file r d.most
    ∙ ap (map (packed_reading file r)) (stops-refused file header_length (raster_of r) tail_length d.stops))

-- an answer with such a number is a refusal
at-record-refused : {A : Type 0} (o : Outcome A) (why : Refusal) → refusal_of o ≡ why → AtRecord why.number
    → o ≡ Err why
at-record-refused o why e (inl six) = refused-by o why e (λ zero. omega arith)
at-record-refused o why e (inr seven) = refused-by o why e (λ zero. omega arith)

answer-broken : (file : List ℕ) (area : ℕ) (why : Refusal) → Bytes file
    → (read_answer (read_file kind_degas file area)).refusal ≡ why → AtRecord why.number → Damaged file why
answer-broken file area why all e at =
    let o : Outcome Reading = read_file kind_degas file area in
    read-broken file why all area
    (sym (file-degas kind_degas file area refl) ∙ at-record-refused o why (sym (read_answer_lem o) ∙ e) at) at

-- "those of the file reader the plane row's number from 0 as well. Every caller passes these numbers up unaltered": the
-- reader answers with 6 and 7 exactly where the body stops, and with the body's numbers
pub damage-exactly : (file : List ℕ) (area : ℕ) (why : Refusal) → screen_bytes ≤ area → Bytes file
    → (((read_answer (read_file kind_degas file area)).refusal ≡ why) × AtRecord why.number) ↔ Damaged file why
damage-exactly file area why room all = (
  λ h. answer-broken file area why all h.0 h.1,
  λ d. (
    ap (λ (o : Outcome Reading). (read_answer o).refusal)
        (file-degas kind_degas file area refl ∙ damaged-read file area why room d),
    stops-number file header_length (raster_of d.resolution) d.stops,
  ),
)

-- "the bytes the row had before the faulty record": the row unpacker, with width and output as they should be, answers
-- with 6 and 7 exactly where the row stops
pub row-damage-exactly : (bytes : List ℕ) (width room : ℕ) (why : Refusal) → width_out_of_range width ≡ false
    → width ≤ room → Bytes bytes
    → (((row_answer (unpack_row bytes width room)).refusal ≡ why) × AtRecord why.number) ↔ Stops 1 width bytes why
row-damage-exactly bytes width room why range fits all =
    let o : Outcome Row = unpack_row bytes width room in
    let is : o ≡ unpack bytes width = row-judged bytes width room range fits in
    let exactly = row-stops-exactly width bytes why all in (
      λ h. exactly.0 (sym is ∙ at-record-refused o why (sym (row-answer o) ∙ h.0) h.1),
      λ s. (ap (λ (r : Outcome Row). (row_answer r).refusal) (is ∙ exactly.1 s), faulty-number s.faulty),
    )

-- ---- a completion

module _ {file : List ℕ} {why : Refusal} (d : Damaged file why) {other : List ℕ} {q : Reading}
    (c : Completion file why other q) where
  abbrev res : Resolution
  res = d.resolution

  -- its first word is the file's
  same_byte : (i : ℕ) → i < header_length → get_or other i 0 ≡ get_or file i 0
  same_byte i h =
      sym (get_or-take why.place other i 0 (omega (arith, stops-place d.stops)))
      ∙ ap (λ (l : List ℕ). get_or l i 0) c.same
      ∙ get_or-take why.place file i 0 (omega (arith, stops-place d.stops))

  same_word : word_at other 0 ≡ word_at file 0
  unfolding word_at
  same_word = ap₂ (λ (a b : ℕ). a * 256 + b) (same_byte 0 (omega arith)) (same_byte 1 (omega arith))

  -- so it is packed, at the file's resolution
  same-packed : is_packed other ≡ true
  same-packed = ap (λ (w : ℕ). eqb (w / 2 ^ 15 % 2) 1) same_word ∙ d.packed

  not-raw : is_packed other ≡ false → ⊥
  not-raw is = let t : is_packed other ≡ true = same-packed in let z : ◌≡◌ {A = ℕ} 0 1 = cc in omega arith

  fits-packed : (r : Resolution) → r ≡ res → (f : Fits other r) → q ≡ fits_given f
      → (p : PackedFits other res) × (q ≡ packed_given res p)
  fits-packed r e (plain is size) g = absurd (not-raw is)
  fits-packed r e (elite is size) g = absurd (not-raw is)
  fits-packed r e (packed is p) g =
      subst (λ (s : Resolution). (p : PackedFits other s) × (q ≡ packed_given s p)) e (p, g)

  completed : (p : PackedFits other res) × (q ≡ packed_given res p)
  completed =
      let g =
      judged-value (Given other c.area) (read_degas other c.area) q (degas-judged other c.area c.bytes)
      (sym (file-degas kind_degas other c.area refl) ∙ c.accepts) in
      let word : chosen (resolution_number other) ≡ Some res =
      ap (λ (w : ℕ). chosen (w % 4)) same_word ∙ d.allowed in
      let known : Some g.0.resolution ≡ Some res = sym g.0.allowed ∙ word in
      let same : g.0.resolution ≡ res = cc in
      fits-packed g.0.resolution same g.0.fits g.1

  same-resolution : q.picture.resolution ≡ number_of res
  same-resolution = ap (λ (x : Reading). x.picture.resolution) completed.1

  same-screen : q.screen ≡ completed.0.image
  same-screen = ap (λ (x : Reading). x.screen) completed.1

  -- what the refusal calls good of its screen is what the records before the one at fault make
  pub good-rows : good_rows (raster_of res) why q.screen ≡ d.stops.stops.rows
  good-rows =
      ap (good_rows (raster_of res) why) same-screen ∙ bodies.good-rows d.stops d.least completed.0 c.same

  pub good-row : good_row (raster_of res) why q.screen ≡ d.stops.stops.begun
  good-row =
      ap (good_row (raster_of res) why) same-screen ∙ bodies.good-row d.stops d.least completed.0 c.same

  good-count : length (good_part (raster_of res) why q.screen) ≡ good_count (raster_of res) why
  good-count =
      ap (λ (s : List ℕ). length (good_part (raster_of res) why s)) same-screen
      ∙ bodies.good-count d.stops d.least completed.0 c.same

-- ---- how far the map is good

-- "wants to know how far the map is good"
pub good-before : (file : List ℕ) (area : ℕ) (why : Refusal) → Bytes file
    → (read_answer (read_file kind_degas file area)).refusal ≡ why → AtRecord why.number → GoodBefore file why
good-before file area why all e at =
    let d : Damaged file why = answer-broken file area why all e at in
    record {
      resolution = d.resolution;
      allowed = d.allowed;
      same = λ c. same-resolution d c;
      rows = λ c k. good-rows d c ∙ sym (good-rows d k);
      row = λ c k. good-row d c ∙ sym (good-row d k);
      count = λ c. good-count d c;
      below = omega (arith, good-below d.stops, raster-bytes d.resolution);
    }

-- ---- MacPaint plates

module _ (file : List ℕ) (why : Refusal) where
  abbrev PlateBroken : Outcome UnpackedBody → Type 0
  PlateBroken o = BrokenBy why (DamagedPlate file why) o

  plate-broken : Bytes file → (area : ℕ) → PlateBroken (read_plate file area)
  unfolding read_plate
  plate-broken all area =
      cond-ltb PlateBroken area plate_bytes
      (λ _. broken-other why (DamagedPlate file why) area_too_short 0 refl) (λ _.
      cond-ltb PlateBroken (length file) macpaint.header_length
      (λ _. broken-other why (DamagedPlate file why) wrong_length 0 refl) (λ least.
      cond-ltb PlateBroken macpaint.longest_file (length file)
      (λ _. broken-other why (DamagedPlate file why) wrong_length 0 refl) (λ most.
      cond-elim PlateBroken (not (version_allowed file))
      (λ _. broken-other why (DamagedPlate file why) wrong_version 0 refl) (λ good e at.
      record {
        allowed = version-sound file (not-false _ good);
        least = least;
        most = most;
        stops = refused-stops file macpaint.header_length plate_raster macpaint.after_body why all e at;
      }))))

  plate-damaged : (area : ℕ) → plate_bytes ≤ area → DamagedPlate file why → read_plate file area ≡ Err why
  plate-damaged area room d =
      read-judged file area room
      ∙ judge-passed file _ d.least d.most (version-complete file d.allowed)
      ∙ stops-refused file macpaint.header_length plate_raster macpaint.after_body d.stops

  plate-answer-broken : (area : ℕ) → Bytes file → (unpacked_answer (read_plate file area)).refusal ≡ why
      → AtRecord why.number → DamagedPlate file why
  plate-answer-broken area all e at =
      let o : Outcome UnpackedBody = read_plate file area in
      plate-broken all area (at-record-refused o why (sym (body-answer o) ∙ e) at) at

  -- the reader answers with 6 and 7 exactly where the body stops, and with the body's numbers
  pub plate-damage-exactly : (area : ℕ) → plate_bytes ≤ area → Bytes file
      → (((unpacked_answer (read_plate file area)).refusal ≡ why) × AtRecord why.number) ↔ DamagedPlate file why
  plate-damage-exactly area room all = (
    λ h. plate-answer-broken area all h.0 h.1,
    λ d. (
      ap (λ (o : Outcome UnpackedBody). (unpacked_answer o).refusal) (plate-damaged area room d),
      stops-number file macpaint.header_length plate_raster d.stops,
    ),
  )

module _ {file : List ℕ} {why : Refusal} (d : DamagedPlate file why) {other : List ℕ} {u : UnpackedBody}
    (c : PlateCompletion file why other u) where
  plate-completed : (a : AcceptsPlate other) × (u ≡ plate_given a)
  plate-completed =
      judged-value (macpaint-acceptance.Given other c.area) (read_plate other c.area) u
      (plate-judged other c.area c.bytes) c.accepts

  same-plate : u.image ≡ plate-completed.0.fits.image
  same-plate = ap (λ (v : UnpackedBody). v.image) plate-completed.1

  plate-good-rows : good_rows plate_raster why u.image ≡ d.stops.stops.rows
  plate-good-rows =
      ap (good_rows plate_raster why) same-plate
      ∙ bodies.good-rows d.stops d.least plate-completed.0.fits (sym c.same)

  plate-good-row : good_row plate_raster why u.image ≡ d.stops.stops.begun
  plate-good-row =
      ap (good_row plate_raster why) same-plate
      ∙ bodies.good-row d.stops d.least plate-completed.0.fits (sym c.same)

  plate-good-count : length (good_part plate_raster why u.image) ≡ good_count plate_raster why
  plate-good-count =
      ap (λ (s : List ℕ). length (good_part plate_raster why s)) same-plate
      ∙ bodies.good-count d.stops d.least plate-completed.0.fits (sym c.same)

pub plate-good-before : (file : List ℕ) (area : ℕ) (why : Refusal) → Bytes file
    → (unpacked_answer (read_plate file area)).refusal ≡ why → AtRecord why.number → PlateGoodBefore file why
plate-good-before file area why all e at =
    let d : DamagedPlate file why = plate-answer-broken file why area all e at in
    record {
      rows = λ c k. plate-good-rows d c ∙ sym (plate-good-rows d k);
      row = λ c k. plate-good-row d c ∙ sym (plate-good-row d k);
      count = λ c. plate-good-count d c;
      below = good-below d.stops;
    }
