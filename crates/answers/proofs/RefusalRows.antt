-- Document 02, ticket 3: "All other answers, and bodies packed otherwise, give zero there", of the plane row and its
-- good bytes, of the answer of each public operation.
use Rattle.std.specs.Prelude.{Ok, Err, None, Option, Some}
use mathlib.Core.Path.{◌≡◌, refl, sym, subst}
use mathlib.Core.Logic.{inl, inr}
use mathlib.Core.Bool.{Bool, true, false, not, ◌||◌}
use mathlib.Core.List.{List}
use Prim.Native.Nat.{ℕ, ◌+◌}
use lib.ListN.{length, drop}
use lib.Dec.{ltb, leb, eqb}
use Rattle.lists.proofs.Cond.{cond-elim, cond-eqb}
use Rattle.outcome.specs.declared.Refusal.{Refusal}
use Rattle.outcome.specs.Outcome.{Outcome, refusal, refuse_if, map, bind, placed, refusal_of}
use Rattle.outcome.specs.Refusal.{area_too_short, unknown_kind, wrong_length, wrong_flag, unknown_resolution, wrong_tail}
use Rattle.outcome.specs.Refusal.{ignored_bits_set, no_zero_tail, not_owned}
use Rattle.outcome.specs.Refusal.{input_ends, record_crosses, no_packed_body, out_of_range, size_mismatch, wrong_version}
use Rattle.words.specs.Word.{word_at}
use Rattle.packbits.specs.Row.{Row, width_out_of_range, row_answer}
use Rattle.packbits.specs.Unpack.{progress, row_fault, outcome_of, unpack_row}
use Rattle.packbits.specs.Rows.{rows_progress, Rows, rows_fault, rows_outcome, unpack_rows}
use Rattle.packbits.specs.Stops.{AtRecord}
use Rattle.packbits.proofs.Unpack.{bounded}
use Rattle.packbits.proofs.RowsBounds.{rows-reached}
use Rattle.pack.specs.Pack.{max_body, pack_within, pack_row}
use Rattle.raster.specs.declared.Raster.{Raster}
use Rattle.raster.specs.Shape.{row_bytes, rows}
use Rattle.resolution.specs.declared.Resolution.{Resolution}
use Rattle.resolution.specs.Choice.{with_resolution, judge_screen}
use Rattle.resolution.specs.Shapes.{screen_bytes, width_of, height_of, registers_of, raster_of}
use Rattle.resolution.proofs.Choice.{with_resolution-elim}
use Rattle.lines.specs.Lines.{judge_line_at, registers_fit, line_out, line_in}
use Rattle.tally.specs.declared.Rectangle.{Rectangle}
use Rattle.tally.specs.Rectangles.{rectangle_fits, judge_rectangle}
use Rattle.tally.specs.Counts.{tallied, tally_answer}
use Rattle.colour.specs.declared.Machine.{Machine}
use Rattle.colour.specs.Machines.{chosen_machine, judge_machine, with_machine}
use Rattle.colour.specs.declared.Rgb.{Rgb}
use Rattle.colour.specs.Shown.{judge_register, shown, colour_answer}
use Rattle.legend.specs.declared.Legend.{Legend}
use Rattle.legend.specs.Entries.{is_anothers, owns}
use Rattle.legend.specs.Setting.{call_fits, set_fits, setting, releasing}
use Rattle.pond.specs.declared.PondCounts.{PondCounts}
use Rattle.pond.specs.Reading.{question_fits, pond_reading, pond_answer}
use Rattle.bodies.specs.Packing.{least_body, PackedBody, below_limit}
use Rattle.bodies.specs.Unpacking.{UnpackedBody, body_of, unpack_body, unpacked_answer}
use Rattle.bodies.specs.Reading.{judge_end, read_body}
use Rattle.picture.specs.declared.Picture.{Picture}
use Rattle.picture.specs.Reading.{Reading, read_answer}
use Rattle.picture.specs.Writing.{Writing, file_bytes, judge_areas, judge_writing, write_answer}
use Rattle.degas.specs.declared.Form.{Form}
use Rattle.degas.specs.declared.Form.TheVariants.{Plain, Elite, Packed}
use Rattle.degas.specs.Layout.{header_length, tail_length, body_limit, plain_length, elite_length, packed_most}
use Rattle.degas.specs.Opening.{is_packed}
use Rattle.degas.specs.Reading.{read_raw, packed_reading, read_packed, read_opened, read_degas}
use Rattle.degas.specs.Writing.{write_packed, write_form, write_degas}
use Rattle.degas.proofs.Opening.{opening-elim}
use Rattle.neochrome.specs.Layout.{file_length, resolution_start}
use Rattle.neochrome.specs.Opening.{opening}
use Rattle.neochrome.specs.Reading.{neochrome_reading, read_neochrome}
use Rattle.neochrome.specs.Writing.{write_neochrome}
use Rattle.tiny_runs.specs.Expansion.{Expansion}
use Rattle.tiny.specs.Layout.{shortest_length, highest_byte, resolution_byte, control_start, data_count, body_length}
use Rattle.tiny.specs.ScreenWords.{screen_words}
use Rattle.tiny.specs.Reading.{expanded, read_runs, read_sections, read_tiny}
use Rattle.macpaint.specs.Layout as macpaint
use Rattle.macpaint.specs.Plate.{plate_raster, plate_bytes}
use Rattle.macpaint.specs.Reading.{version_allowed, read_plate}
use Rattle.macpaint.specs.Writing.{plate_writing, write_plate}
use Rattle.reader.specs.Reading.{kind_degas, kind_neochrome, kind_tiny, read_file}
use Rattle.writer.specs.Writing.{form_plain, form_elite, form_packed, form_neochrome, write_file}
use Rattle.conversion.specs.declared.Conversion.{Conversion}
use Rattle.conversion.specs.declared.Conversion.TheVariants.{ToElite, ToPlain}
use Rattle.conversion.specs.Converting.{ignored_bits, zero_tail, recover, write_elite, plain_to_elite, elite_to_plain}
use Rattle.conversion.specs.Converting.{converted, convert}
use Rattle.answers.specs.RefusalRows.{BothZero, ZeroUnless, PackedDegas}
use Rattle.demands.proofs.Answers.{read_answer_lem, body-answer, write-answer, row-answer}
use Rattle.answers.proofs.IndexAnswers.{tally-answer, colour-answer, pond-answer}

-- ---- an outcome by the way it is judged

-- the same of the refusal that an outcome gives
record ZeroExcept (Given : ℕ → Type 0) {A : Type 0} (o : Outcome A) : Type 0 where
  unless : ZeroUnless Given (refusal_of o)

-- no number: both are 0 always
abbrev NoNumber : ℕ → Type 0
NoNumber number = ⊥

-- what holds of an outcome's refusal holds of the answer's, which is the same
module _ {A : Type 0} (o : Outcome A) {why : Refusal} (answer : why ≡ refusal_of o) where
  answer-unless : {Given : ℕ → Type 0} → ZeroExcept Given o → ZeroUnless Given why
  answer-unless {Given} p = subst (λ (w : Refusal). ZeroUnless Given w) (sym answer) p.unless

  answer-zero : ZeroExcept NoNumber o → BothZero why
  answer-zero p = answer-unless p (λ none. none)

module _ {Given : ℕ → Type 0} {A : Type 0} where
  accepts : (a : A) → ZeroExcept Given (Ok a)
  accepts a = record { unless = λ h. (refl, refl) }

  refuses : (number place : ℕ) → ZeroExcept Given {A = A} (Err (refusal number place))
  refuses number place = record { unless = λ h. (refl, refl) }

  by-if : (t : Bool) (number : ℕ) {further : Outcome A} → ZeroExcept Given further
      → ZeroExcept Given (refuse_if t number further)
  by-if true number p = refuses number 0
  by-if false number p = p

  by-bind : {B : Type 0} (o : Outcome B) (further : B → Outcome A) → ZeroExcept Given o
      → ((b : B) → ZeroExcept Given (further b)) → ZeroExcept Given (bind o further)
  by-bind (Ok b) further p q = q b
  by-bind (Err why) further p q = record { unless = p.unless }

  by_map : {B : Type 0} (f : B → A) (o : Outcome B) → ZeroExcept Given o → ZeroExcept Given (map f o)
  by_map f (Ok b) p = accepts (f b)
  by_map f (Err why) p = record { unless = p.unless }

  by_place : (at : ℕ) (o : Outcome A) → ZeroExcept Given o → ZeroExcept Given (placed at o)
  by_place at (Ok a) p = p
  by_place at (Err why) p = record { unless = p.unless }

  by-resolution : (number : ℕ) (further : Resolution → Outcome A) → ((r : Resolution) → ZeroExcept Given (further r))
      → ZeroExcept Given (with_resolution number further)
  by-resolution number further p =
      with_resolution-elim (λ (o : Outcome A). ZeroExcept Given o) number further (refuses unknown_resolution 0)
      (λ r _. p r)

  by-screen : (screen number : ℕ) (further : Resolution → Outcome A) → ((r : Resolution) → ZeroExcept Given (further r))
      → ZeroExcept Given (judge_screen screen number further)
  by-screen screen number further p =
      by-if (ltb screen screen_bytes) area_too_short (by-resolution number further p)

-- a fault, which is 6 or 7
at-fault : {A : Type 0} (why : Refusal)
    → ((why.number ≡ input_ends → ⊥) → (why.number ≡ record_crosses → ⊥) → why.number ≡ 0)
    → (why.number ≡ 0 → ⊥) → ZeroExcept AtRecord {A = A} (Err why)
at-fault why numbers e =
    record { unless = λ h. absurd (e (numbers (λ six. h (inl six)) (λ seven. h (inr seven)))) }

-- ---- reading a file: with 6 and 7 only, and of packed DEGAS files only

rows-at-record : (n width : ℕ) (input : List ℕ) → ZeroExcept AtRecord (unpack_rows n width input)
unfolding rows_outcome
rows-at-record n width input =
    cond-eqb (λ (o : Outcome Rows). ZeroExcept AtRecord o) (rows_progress n width input).fault 0 (λ _. accepts _)
    (at-fault (rows_fault (rows_progress n width input)) (rows-reached n width input).numbers)

body-at-record : (file : List ℕ) (at after : ℕ) (r : Raster) → ZeroExcept AtRecord (read_body file at after r)
unfolding read_body
body-at-record file at after r =
    let o : Outcome Rows = unpack_rows (rows r) (row_bytes r) (drop at file) in
    by-bind (unpack_body file at r) (judge_end file at after)
    (by_map (body_of r) (placed at o) (by_place at o (rows-at-record (rows r) (row_bytes r) (drop at file))))
    (λ u.
    cond-elim (λ (o : Outcome UnpackedBody). ZeroExcept AtRecord o) (eqb (length file) (at + u.body + after))
    (λ _. accepts u) (λ _. refuses wrong_tail (at + u.body)))

packed-at-record : (file : List ℕ) (r : Resolution) → ZeroExcept AtRecord (read_packed file r)
unfolding read_packed
packed-at-record file r =
    by-if (ltb packed_most (length file)) wrong_length
    (by_map (packed_reading file r) (read_body file header_length tail_length (raster_of r))
    (body-at-record file header_length tail_length (raster_of r)))

module _ (Given : ℕ → Type 0) where
  abbrev Of : Outcome Reading → Type 0
  Of o = ZeroExcept Given o

  raw-rows : (file : List ℕ) (r : Resolution) → Of (read_raw file r)
  unfolding read_raw
  raw-rows file r =
      cond-elim Of (eqb (length file) plain_length) (λ _. accepts _) (λ _.
      cond-elim Of (eqb (length file) elite_length) (λ _. accepts _) (λ _. refuses wrong_length 0))

  degas-rows : (file : List ℕ) (area : ℕ) → (is_packed file ≡ true → (r : Resolution) → Of (read_packed file r))
      → Of (read_degas file area)
  unfolding read_degas
  degas-rows file area packed =
      by-if (ltb area screen_bytes) area_too_short
      (opening-elim file Of (read_opened file) (refuses wrong_length 0) (refuses unknown_resolution 0)
      (λ r _. cond-elim Of (is_packed file) (λ is. packed is r) (λ _. raw-rows file r)))

  neochrome-rows : (file : List ℕ) (area : ℕ) → Of (read_neochrome file area)
  unfolding read_neochrome opening
  neochrome-rows file area =
      by-if (ltb area screen_bytes) area_too_short
      (by-bind (opening file) (λ r. Ok (neochrome_reading file r))
      (by-if (not (eqb (length file) file_length)) wrong_length
      (by-if (not (eqb (word_at file 0) 0)) wrong_flag
      (by-resolution (word_at file resolution_start) (λ r. Ok r) (λ r. accepts r))))
      (λ r. accepts (neochrome_reading file r)))

  tiny-rows : (file : List ℕ) (area : ℕ) → Of (read_tiny file area)
  unfolding read_tiny read_sections read_runs
  tiny-rows file area =
      let p : Expansion = expanded file in
      by-if (ltb area screen_bytes) area_too_short
      (by-if (ltb (length file) shortest_length) wrong_length
      (by-if (ltb highest_byte (resolution_byte file)) unknown_resolution
      (by-if (ltb (length file) (control_start file)) wrong_length
      (by-if (not (eqb (length file) (control_start file + body_length file))) wrong_length
      (cond-elim Of (not (eqb p.fault 0)) (λ _. refuses p.fault (control_start file + p.controls)) (λ _.
      by-if (ltb p.datas (data_count file) || ltb (length p.made) screen_words) size_mismatch (accepts _)))))))

  read-rows : (kind : ℕ) (file : List ℕ) (area : ℕ)
      → (PackedDegas kind file → (r : Resolution) → Of (read_packed file r)) → Of (read_file kind file area)
  unfolding read_file
  read-rows kind file area packed =
      cond-eqb Of kind kind_degas (λ k. degas-rows file area (λ is. packed (k, is))) (λ _.
      cond-eqb Of kind kind_neochrome (λ _. neochrome-rows file area) (λ _.
      cond-eqb Of kind kind_tiny (λ _. tiny-rows file area) (λ _.
      by-if (ltb area screen_bytes) area_too_short (refuses unknown_kind 0))))

pub read-at-record : (kind : ℕ) (file : List ℕ) (area : ℕ)
    → ZeroUnless AtRecord (read_answer (read_file kind file area)).refusal
read-at-record kind file area =
    let o : Outcome Reading = read_file kind file area in
    answer-unless o (read_answer_lem o) (read-rows AtRecord kind file area (λ _. packed-at-record file))

pub read-otherwise : (kind : ℕ) (file : List ℕ) (area : ℕ) → (PackedDegas kind file → ⊥)
    → BothZero (read_answer (read_file kind file area)).refusal
read-otherwise kind file area other =
    let o : Outcome Reading = read_file kind file area in
    answer-zero o (read_answer_lem o) (read-rows NoNumber kind file area (λ is. absurd (other is)))

-- ---- reading a plate: with 6 and 7 only; writing one: never

pub read-plate-at-record : (file : List ℕ) (area : ℕ)
    → ZeroUnless AtRecord (unpacked_answer (read_plate file area)).refusal
unfolding read_plate
read-plate-at-record file area =
    answer-unless (read_plate file area) (body-answer (read_plate file area))
    (by-if (ltb area plate_bytes) area_too_short
    (by-if (ltb (length file) macpaint.header_length) wrong_length
    (by-if (ltb macpaint.longest_file (length file)) wrong_length
    (by-if (not (version_allowed file)) wrong_version
    (body-at-record file macpaint.header_length macpaint.after_body plate_raster)))))

pub write-plate-zero : (plate : List ℕ) (out : ℕ) → BothZero (write_answer (write_plate plate out)).refusal
unfolding write_plate
write-plate-zero plate out =
    let o : Outcome PackedBody = below_limit plate_raster plate macpaint.body_limit in
    answer-zero (write_plate plate out) (write-answer (write_plate plate out))
    (by-if (ltb out macpaint.longest_file) area_too_short
    (by-if (ltb (length plate) plate_bytes) area_too_short
    (by_map plate_writing o
    (by-if (leb macpaint.body_limit (length (least_body plate_raster plate))) no_packed_body (accepts _)))))

-- ---- unpacking a row: with 6 and 7 only, and the plane row is 0 always

pub unpack-at-record : (packed : List ℕ) (width room : ℕ)
    → ZeroUnless AtRecord (row_answer (unpack_row packed width room)).refusal
unfolding unpack_row outcome_of
unpack-at-record packed width room =
    answer-unless (unpack_row packed width room) (row-answer (unpack_row packed width room))
    (by-if (width_out_of_range width) out_of_range
    (by-if (ltb room width) area_too_short
    (cond-eqb (λ (o : Outcome Row). ZeroExcept AtRecord o) (progress packed width).fault 0 (λ _. accepts _)
    (at-fault (row_fault (progress packed width)) (bounded packed width).numbers))))

pub unpack-first-row : (packed : List ℕ) (width room : ℕ)
    → (row_answer (unpack_row packed width room)).refusal.plane_row ≡ 0
unfolding unpack_row outcome_of
unpack-first-row packed width room =
    let Q : Outcome Row → Type 0 = λ o. (row_answer o).refusal.plane_row ≡ 0 in
    cond-elim Q (width_out_of_range width) (λ _. refl) (λ _.
    cond-elim Q (ltb room width) (λ _. refl) (λ _.
    cond-elim Q (eqb (progress packed width).fault 0) (λ _. refl) (λ _. refl)))

-- ---- all other operations: both are 0 always

pub pack-zero : (row : List ℕ) (room : ℕ) → BothZero (row_answer (pack_row row room)).refusal
unfolding pack_within
pack-zero row room =
    answer-zero (pack_row row room) (row-answer (pack_row row room))
    (by-if (width_out_of_range (length row)) out_of_range (by-if (ltb room max_body) area_too_short (accepts _)))

by-line : {A : Type 0} (r : Resolution) (y room : ℕ) {further : Outcome A} → ZeroExcept NoNumber further
    → ZeroExcept NoNumber (judge_line_at r y room further)
by-line r y room p = by-if (leb (height_of r) y) out_of_range (by-if (ltb room (width_of r)) area_too_short p)

pub line-out-zero : (screen : List ℕ) (number y room : ℕ) → BothZero (refusal_of (line_out screen number y room))
unfolding line_out
line-out-zero screen number y room =
    answer-zero (line_out screen number y room) refl
    (by-screen (length screen) number _ (λ r. by-line r y room (accepts _)))

pub line-in-zero : (screen : List ℕ) (number y : ℕ) (line : List ℕ)
    → BothZero (refusal_of (line_in screen number y line))
unfolding line_in
line-in-zero screen number y line =
    answer-zero (line_in screen number y line) refl
    (by-screen (length screen) number _
    (λ r. by-line r y (length line) (by-if (not (registers_fit r line)) out_of_range (accepts _))))

by-rectangle : {A : Type 0} (screen number : ℕ) (a : Rectangle) (further : Resolution → Outcome A)
    → ((r : Resolution) → ZeroExcept NoNumber (further r))
    → ZeroExcept NoNumber (judge_rectangle screen number a further)
by-rectangle screen number a further p =
    by-screen screen number _ (λ r. by-if (not (rectangle_fits r a)) out_of_range (p r))

pub tally-zero : (screen : List ℕ) (number : ℕ) (a : Rectangle)
    → BothZero (tally_answer (tallied screen number a)).refusal
unfolding tallied
tally-zero screen number a =
    answer-zero (tallied screen number a) (tally-answer (tallied screen number a))
    (by-rectangle (length screen) number a _ (λ r. accepts _))

pub pond-zero : (screen : List ℕ) (number : ℕ) (a : Rectangle) (party class floor : ℕ) (l : Legend)
    → BothZero (pond_answer (pond_reading screen number a party class floor l)).refusal
unfolding pond_reading
pond-zero screen number a party class floor l =
    let o : Outcome PondCounts = pond_reading screen number a party class floor l in
    answer-zero o (pond-answer o)
    (by-rectangle (length screen) number a _
    (λ r. by-if (not (question_fits party class floor l)) out_of_range (accepts _)))

pub set-zero : (l : Legend) (party register class confidence : ℕ)
    → BothZero (refusal_of (setting l party register class confidence))
unfolding setting
set-zero l party register class confidence =
    answer-zero (setting l party register class confidence) refl
    (by-if (not (set_fits l party register class confidence)) out_of_range
    (by-if (is_anothers l party register) not_owned (accepts _)))

pub release-zero : (l : Legend) (party register : ℕ) → BothZero (refusal_of (releasing l party register))
unfolding releasing
release-zero l party register =
    answer-zero (releasing l party register) refl
    (by-if (not (call_fits l party register)) out_of_range
    (by-if (not (owns l party register)) not_owned (accepts _)))

by-machine : {A : Type 0} (machine : ℕ) (further : Machine → Outcome A)
    → ((m : Machine) → ZeroExcept NoNumber (further m)) → ZeroExcept NoNumber (with_machine machine further)
by-machine machine further p = go (chosen_machine machine)
  where
    go : (c : Option Machine) → ZeroExcept NoNumber (judge_machine c further)
    go (Some m) = p m
    go None = refuses out_of_range 0

pub colour-zero : (number machine : ℕ) (palette : List ℕ) (register : ℕ)
    → BothZero (colour_answer (shown number machine palette register)).refusal
unfolding shown judge_register
colour-zero number machine palette register =
    let o : Outcome Rgb = shown number machine palette register in
    answer-zero o (colour-answer o)
    (by-resolution number _ (λ r. by-machine machine _ (λ m.
    by-if (leb (registers_of r) register) out_of_range (accepts _))))

-- ---- writing a file

form-zero : (form : Form) (r : Resolution) (p : Picture) (screen : List ℕ)
    → ZeroExcept NoNumber (write_form form r p screen)
unfolding write_packed
form-zero Plain r p screen = accepts _
form-zero Elite r p screen = accepts _
form-zero Packed r p screen =
    by_map _ _ (by-if (leb body_limit (length (least_body (raster_of r) screen))) no_packed_body (accepts _))

by-areas : {A : Type 0} (screen out : ℕ) {further : Outcome A} → ZeroExcept NoNumber further
    → ZeroExcept NoNumber (judge_areas screen out further)
by-areas screen out p = by-if (ltb screen screen_bytes) area_too_short (by-if (ltb out file_bytes) area_too_short p)

by-writing : (screen out number : ℕ) (next : Resolution → Outcome Writing)
    → ((r : Resolution) → ZeroExcept NoNumber (next r))
    → ZeroExcept NoNumber (bind (judge_writing screen out number) next)
unfolding judge_writing
by-writing screen out number next h =
    by-bind (judge_writing screen out number) next
    (by-areas screen out (by-resolution number (λ r. Ok r) (λ r. accepts r))) h

degas-zero : (form : Form) (p : Picture) (screen : List ℕ) (out : ℕ)
    → ZeroExcept NoNumber (write_degas form p screen out)
unfolding write_degas
degas-zero form p screen out =
    by-writing (length screen) out p.resolution (λ r. write_form form r p screen) (λ r. form-zero form r p screen)

file-zero : (form : ℕ) (p : Picture) (screen : List ℕ) (out : ℕ) → ZeroExcept NoNumber (write_file form p screen out)
unfolding write_file write_degas write_neochrome
file-zero form p screen out =
    let Q : Outcome Writing → Type 0 = λ o. ZeroExcept NoNumber o in
    let degas : (f : Form) → Q (write_degas f p screen out) = λ f. degas-zero f p screen out in
    cond-elim Q (eqb form form_plain) (λ _. degas Plain) (λ _.
    cond-elim Q (eqb form form_elite) (λ _. degas Elite) (λ _.
    cond-elim Q (eqb form form_packed) (λ _. degas Packed) (λ _.
    cond-elim Q (eqb form form_neochrome)
    (λ _. by-writing (length screen) out p.resolution _ (λ r. accepts _))
    (λ _. by-areas (length screen) out (refuses unknown_kind 0)))))

pub write-zero : (form : ℕ) (p : Picture) (screen : List ℕ) (out : ℕ)
    → BothZero (write_answer (write_file form p screen out)).refusal
write-zero form p screen out =
    let o : Outcome Writing = write_file form p screen out in
    answer-zero o (write-answer o) (file-zero form p screen out)

-- ---- converting a file: as its reading

-- what holds whatever the number holds of some numbers
weaken : {Given : ℕ → Type 0} {A : Type 0} {o : Outcome A} → ZeroExcept NoNumber o → ZeroExcept Given o
weaken p = record { unless = λ _. p.unless (λ none. none) }

by-recover : (number : ℕ) (o other : Outcome Writing) → ZeroExcept NoNumber o → ZeroExcept NoNumber other
    → ZeroExcept NoNumber (recover number o other)
by-recover number (Ok w) other p q = accepts w
by-recover number (Err why) other p q =
    cond-elim (λ (o : Outcome Writing). ZeroExcept NoNumber o) (eqb why.number number) (λ _. q) (λ _. p)

converted-zero : (to : Conversion) (word : ℕ) (p : Picture) (screen : List ℕ) (out : ℕ)
    → ZeroExcept NoNumber (converted to word p screen out)
unfolding plain_to_elite write_elite elite_to_plain
converted-zero ToElite word p screen out =
    by-if p.tail_present unknown_kind
    (by-if (not (eqb (ignored_bits word) 0)) ignored_bits_set
    (by-recover no_packed_body (write_degas Packed p screen out) (write_degas Elite p screen out)
    (degas-zero Packed p screen out) (degas-zero Elite p screen out)))
converted-zero ToPlain word p screen out =
    by-if (not (zero_tail p)) no_zero_tail (degas-zero Plain p screen out)

module _ (Given : ℕ → Type 0) where
  convert-rows : (to : Conversion) (file : List ℕ) (out : ℕ)
      → (is_packed file ≡ true → (r : Resolution) → ZeroExcept Given (read_packed file r))
      → ZeroExcept Given (convert to file out)
  unfolding convert
  convert-rows to file out packed =
      by-if (ltb out file_bytes) area_too_short
      (by-bind (read_degas file screen_bytes) _ (degas-rows Given file screen_bytes packed)
      (λ q. weaken (converted-zero to (word_at file 0) q.picture q.screen out)))

pub convert-at-record : (to : Conversion) (file : List ℕ) (out : ℕ)
    → ZeroUnless AtRecord (write_answer (convert to file out)).refusal
convert-at-record to file out =
    let o : Outcome Writing = convert to file out in
    answer-unless o (write-answer o) (convert-rows AtRecord to file out (λ _. packed-at-record file))

pub convert-otherwise : (to : Conversion) (file : List ℕ) (out : ℕ) → (is_packed file ≡ true → ⊥)
    → BothZero (write_answer (convert to file out)).refusal
convert-otherwise to file out other =
    let o : Outcome Writing = convert to file out in
    answer-zero o (write-answer o) (convert-rows NoNumber to file out (λ is. absurd (other is)))
