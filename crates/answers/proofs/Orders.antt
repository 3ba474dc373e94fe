-- Demand 1: "Bad input gets the refusal number that document 01 gives for it". The number in each operation's answer is
-- that of the first test that holds in the papers' order.
use Rattle.std.specs.Prelude.{Ok, Err, Option}
use mathlib.Core.Path.{◌≡◌, refl, sym, ap, ◌∙◌}
use mathlib.Core.Logic.{◌⊎◌, inl, inr}
use mathlib.Core.Bool.{Bool, true, false, not, cond, ◌&&◌, ◌||◌}
use mathlib.Core.List.{List, [], ◌∷◌, ◌++◌}
use Prim.Native.Nat.{ℕ, zero, suc, ◌+◌, ◌-◌, ◌/◌, ◌%◌, ◌≤◌, ◌<◌}
use native.Mathlib.Omega.{arith}
use lib.ListN.{length, get_or, drop}
use lib.Dec.{ltb, leb, eqb}
use borrow.Author.Tests.{lt-ltb, le-ltb, leb-true, leb-false, ltb-true, ltb-false, eqb-true, eqb-false, ne_eqb}
use borrow.Author.Tests.{not-true}
use Rattle.lists.specs.All.{all_first}
use Rattle.lists.proofs.All.{all_below-ext}
use Rattle.lists.proofs.Cond.{cond-elim, cond-eqb, and-true}
use Rattle.outcome.specs.Outcome.{Outcome, refusal, refuse, refuse_if, map, bind, placed, refusal_of}
use Rattle.outcome.specs.Outcome.{Judged}
use Rattle.outcome.specs.Refusal.{area_too_short, wrong_length, wrong_flag, unknown_resolution, wrong_tail, no_packed_body}
use Rattle.outcome.specs.Refusal.{wrong_version, unknown_kind, ignored_bits_set, no_zero_tail}
use Rattle.outcome.specs.Refusal.{out_of_range, undefined_control, run_too_long, size_mismatch, not_owned}
use Rattle.words.specs.Word.{word_at}
use Rattle.packbits.specs.declared.Record.{Record}
use Rattle.packbits.specs.declared.Record.TheVariants.{Literal, Repeat, Nothing, Truncated, Crossing}
use Rattle.packbits.specs.Records.{control, packed_len, row_len, fault, record_at}
use Rattle.packbits.specs.Row.{Row, row_answer, width_out_of_range}
use Rattle.packbits.specs.Unpack.{Progress, step, progress_within, progress, unpack_row, outcome_of}
use Rattle.packbits.specs.Rows.{RowsProgress, row_step, rows_from, rows_progress, rows_outcome}
use Rattle.pack.specs.Pack.{max_body, pack_row, pack_within}
use Rattle.raster.specs.declared.Raster.{Raster}
use Rattle.raster.specs.Shape.{rows, row_bytes}
use Rattle.resolution.specs.declared.Resolution.{Resolution}
use Rattle.resolution.specs.declared.Resolution.TheVariants.{Low, Medium, High}
use Rattle.resolution.specs.Shapes.{screen_bytes, width_of, height_of, registers_of, raster_of}
use Rattle.resolution.specs.Choice.{judge_with, with_resolution}
use Rattle.lines.specs.Registers.{scan_line}
use Rattle.lines.specs.Lines.{judge_line_at, line_out_at, line_in_at, registers_fit, line_out, line_in}
use Rattle.tally.specs.declared.Rectangle.{Rectangle}
use Rattle.tally.specs.Rectangles.{judge_rectangle_at, judge_rectangle}
use Rattle.tally.specs.Counts.{counts, tallied, tally_answer}
use Rattle.bodies.specs.Unpacking.{UnpackedBody, body_of, unpacked_answer}
use Rattle.bodies.specs.Reading.{judge_end, read_body}
use Rattle.bodies.specs.Packing.{least_body, PackedBody}
use Rattle.colour.specs.declared.Machine.{Machine}
use Rattle.colour.specs.declared.Machine.TheVariants.{St, Ste}
use Rattle.colour.specs.Machines.{judge_machine, with_machine}
use Rattle.colour.specs.declared.Rgb.{Rgb}
use Rattle.colour.specs.Shown.{judge_register, shown, colour_answer}
use Rattle.legend.specs.declared.Legend.{Legend}
use Rattle.legend.specs.Entries.{is_party, is_anothers, owns, owner_of, class_of, confidence_of, register_fits, class_fits}
use Rattle.legend.specs.Entries.{confidence_fits, entry_fits, legend_fits, with_entry, free}
use Rattle.legend.specs.Setting.{setting, releasing}
use Rattle.legend.proofs.Entries.{party-some}
use Rattle.pond.specs.declared.PondCounts.{PondCounts}
use Rattle.pond.specs.Reading.{pond_of, question_fits, pond_reading, pond_answer}
use Rattle.picture.specs.declared.Picture.{Picture}
use Rattle.picture.specs.declared.Table.{Table}
use Rattle.picture.specs.Tables.{tail_bytes}
use Rattle.picture.specs.Whole.{WholeReading}
use Rattle.picture.specs.Reading.{Reading, read_answer}
use Rattle.picture.specs.Writing.{Writing, raw_writing, file_bytes, judge_writing, write_answer}
use Rattle.degas.specs.declared.Header.{Header}
use Rattle.degas.specs.declared.Form.TheVariants.{Plain, Elite, Packed}
use Rattle.degas.specs.Layout.{header_length, tail_length, body_limit, plain_length, elite_length, packed_most}
use Rattle.degas.specs.Opening as degas-opening
use Rattle.degas.specs.Reading.{read_raw, packed_reading, read_packed, read_opened, read_degas}
use Rattle.degas.specs.Writing.{packed_writing, write_packed, write_form, write_degas}
use Rattle.degas.proofs.Opening.{header_of}
use Rattle.degas.proofs.Tail.{HasTail, degas-tail}
use Rattle.degas.proofs.Whole.{degas-whole}
use Rattle.degas.proofs.WriteDegas.{write-passed}
use Rattle.neochrome.specs.Layout.{file_length, neochrome_file}
use Rattle.neochrome.specs.Opening as neochrome-opening
use Rattle.neochrome.specs.Reading.{neochrome_reading, read_neochrome}
use Rattle.neochrome.specs.Writing.{write_neochrome}
use Rattle.tiny.specs.Layout.{shortest_length, highest_byte, plain_palette, rotated_palette, control_count_offset}
use Rattle.tiny.specs.Layout.{data_count_offset, control_offset, resolution_byte, palette_start, control_count, data_count}
use Rattle.tiny.specs.Layout.{control_start, body_length, control_section, data_section}
use Rattle.tiny_runs.specs.Runs.{defined, faulty, long_run, run_of, fitted, run_at}
use Rattle.tiny_runs.specs.Expansion.{Expansion, run_step, expand_within, expand}
use Rattle.tiny.specs.ScreenWords.{screen_words}
use Rattle.tiny.specs.Reading.{expanded, read_runs, read_sections, read_tiny}
use Rattle.macpaint.specs.Layout as macpaint
use Rattle.macpaint.specs.Plate.{plate_raster, plate_bytes}
use Rattle.macpaint.specs.Reading.{version_allowed, read_plate}
use Rattle.macpaint.specs.Writing.{plate_writing, write_plate}
use Rattle.reader.specs.Reading.{read_file}
use Rattle.writer.specs.Writing.{write_file}
use Rattle.conversion.specs.declared.Conversion.{Conversion}
use Rattle.conversion.specs.declared.Conversion.TheVariants.{ToElite, ToPlain}
use Rattle.conversion.specs.Converting.{ignored_bits, zero_tail, plain_to_elite, elite_to_plain, converted, convert}
use Rattle.conversion.proofs.Acceptance.{whole-passed}
use Rattle.conversion.proofs.Elite.{elite-number}
use Rattle.answers.specs.Orders.{Test, first_refusal, width, height, registers, row_pack_order, record_makes}
use Rattle.answers.specs.Orders.{record_takes, record_order, record_faults, row_unpack_order, line_out_order}
use Rattle.answers.specs.Orders.{line_in_order, colour_order, rectangle_tests, tally_order, pond_order, run_makes}
use Rattle.answers.specs.Orders.{no_machine, no_party, wrong_entry, wrong_legend, anothers, set_order, release_order}
use Rattle.answers.specs.Orders.{run_takes, run_order, degas_resolution, degas_packed, raw_tests, body_progress}
use Rattle.answers.specs.Orders.{packed_tests, degas_tests, neochrome_tests, rotated, tiny_header, control_bytes}
use Rattle.answers.specs.Orders.{data_words, section_tests, tiny_tests, read_order, raster_at, write_order, one_of}
use Rattle.answers.specs.Orders.{row_pack_numbers, row_unpack_numbers, colour_numbers, screen_numbers, read_numbers}
use Rattle.answers.specs.Orders.{write_numbers, read_plate_order, write_plate_order, read_plate_numbers}
use Rattle.answers.specs.Orders.{write_plate_numbers, conversion_order, has_tail, last_tail, to_elite_order}
use Rattle.answers.specs.Orders.{to_plain_order, to_elite_numbers, to_plain_numbers, legend_numbers}

-- ---- an outcome judged by tests, in order

module _ {A : Type 0} (number : Outcome A → ℕ) (is : (n : ℕ) → number (refuse n) ≡ n) where
  pub first-test : (t : Bool) (n : ℕ) {further : Outcome A} {next : ℕ} → (t ≡ false → number further ≡ next)
      → number (refuse_if t n further) ≡ cond t n next
  first-test true n h = is n
  first-test false n h = h refl

  -- two tests with one number
  first_either : (s t : Bool) (n : ℕ) {further : Outcome A} {next : ℕ} → number further ≡ next
      → number (refuse_if s n (refuse_if t n further)) ≡ cond (s || t) n next
  first_either true t n h = is n
  first_either false true n h = is n
  first_either false false n h = h

  -- a resolution's number, 5 above 2, and then what is judged at the resolution
  pub first-resolution : (n : ℕ) (further : Resolution → Outcome A) (next : ℕ → ℕ) → number (further Low) ≡ next 0
      → number (further Medium) ≡ next 1 → number (further High) ≡ next 2
      → number (with_resolution n further) ≡ cond (ltb 2 n) 5 (next n)
  first-resolution n further next low medium high =
      cond-eqb Is n 0 (λ e. rw e low) (λ not0.
      cond-eqb Is n 1 (λ e. rw e medium) (λ not1.
      cond-eqb Is n 2 (λ e. rw e high) (λ not2.
      rw (lt-ltb 2 n (omega arith)) (is 5))))
    where
      Is : Option Resolution → Type 0
      Is c = number (judge_with c further) ≡ cond (ltb 2 n) 5 (next n)

-- a number that is none of 1 to most
pub outside : (n most : ℕ) → ((n ≡ 0 → ⊥) → most < n) → eqb n 0 || ltb most n ≡ true
outside n most h = go (eqb n 0) refl
  where
    go : (b : Bool) → eqb n 0 ≡ b → b || ltb most n ≡ true
    go true e = refl
    go false e = lt-ltb most n (h (eqb-false n 0 e))

-- a machine's number, 10 for neither 1 nor 2, and then what is judged on the machine
module _ {A : Type 0} (number : Outcome A → ℕ) (is : (n : ℕ) → number (refuse n) ≡ n) where
  first-machine : (machine : ℕ) (further : Machine → Outcome A) {next : ℕ} → ((m : Machine) → number (further m) ≡ next)
      → number (with_machine machine further) ≡ cond (no_machine machine) 10 next
  first-machine machine further {next} h =
      cond-eqb Is machine 1 (λ e. rw e (h St)) (λ not1.
      cond-eqb Is machine 2 (λ e. rw e (h Ste)) (λ not2.
      rw (outside machine 2 (λ not0. omega arith)) (is 10)))
    where
      Is : Option Machine → Type 0
      Is c = number (judge_machine c further) ≡ cond (no_machine machine) 10 next

-- ---- one row

-- no fault, 6 or 7
abbrev RecordFault : ℕ → Type 0
RecordFault n = (n ≡ 0) ⊎ ((n ≡ 6) ⊎ (n ≡ 7))

-- what control byte x begins makes and takes so many bytes, and has no fault of its own
control-is : (x : ℕ)
    → (row_len (control x) ≡ record_makes x) × (packed_len (control x) ≡ record_takes x) × (fault (control x) ≡ 0)
unfolding control
control-is x = go (ltb x 128) (eqb x 128)
  where
    go : (s t : Bool)
        → (row_len (cond s (Literal (x + 1)) (cond t Nothing (Repeat (257 - x)))) ≡ cond s (x + 1) (cond t 0 (257 - x)))
        × (packed_len (cond s (Literal (x + 1)) (cond t Nothing (Repeat (257 - x)))) ≡ cond s (x + 1 + 1) (cond t 1 2))
        × (fault (cond s (Literal (x + 1)) (cond t Nothing (Repeat (257 - x)))) ≡ 0)
    go true t = (refl, refl, refl)
    go false true = (refl, refl, refl)
    go false false = (refl, refl, refl)

pub record-order : (input : List ℕ) (room : ℕ) → fault (record_at input room) ≡ first_refusal (record_order input room)
unfolding record_at
record-order [] room = refl
record-order (x ∷ rest) room =
    let c = control-is x in
    rw (ne_eqb (suc (length rest)) 0 (omega arith), sym c.0, sym c.1)
    (go (ltb room (row_len (control x))) (ltb (suc (length rest)) (packed_len (control x))))
  where
    go : (s t : Bool) → fault (cond s Crossing (cond t Truncated (control x))) ≡ cond s 7 (cond t 6 0)
    go true t = refl
    go false true = refl
    go false false = (control-is x).2

record-fault : (input : List ℕ) (room : ℕ) → RecordFault (fault (record_at input room))
record-fault input room =
    rw (record-order input room)
    (cond-elim RecordFault (eqb (length input) 0) (λ _. inr (inl refl)) (λ _.
    cond-elim RecordFault (ltb room (record_makes (get_or input 0 0))) (λ _. inr (inr refl)) (λ _.
    cond-elim RecordFault (ltb (length input) (record_takes (get_or input 0 0))) (λ _. inr (inl refl)) (λ _. inl refl))))

row-fault : (bound : ℕ) (input : List ℕ) (room : ℕ) → RecordFault (progress_within bound input room).fault
unfolding progress_within step
row-fault zero input room = inr (inl refl)
row-fault (suc bound) input zero = inl refl
row-fault (suc bound) input (suc room) =
    let r : Record = record_at input (suc room) in
    cond-elim (λ (p : Progress). RecordFault p.fault) (eqb (fault r) 0)
    (λ _. row-fault bound (drop (packed_len r) input) (suc room - row_len r))
    (λ _. record-fault input (suc room))

rows-fault : (n width : ℕ) (begun input : List ℕ) → RecordFault (rows_from n width begun input).fault
unfolding rows_from row_step progress
rows-fault zero width begun input = inl refl
rows-fault (suc n) width begun input =
    let p : Progress = progress input (width - length begun) in
    cond-elim (λ (q : RowsProgress). RecordFault q.fault) (eqb p.fault 0)
    (λ _. rows-fault n width [] (drop p.bytes input))
    (λ _. row-fault (suc (length input)) input (width - length begun))

abbrev row_number : Outcome Row → ℕ
row_number o = (row_answer o).refusal.number

pub row-pack-order : (row out : List ℕ) → row_number (pack_row row (length out)) ≡ first_refusal (row_pack_order row out)
unfolding pack_within
row-pack-order row out =
    first-test row_number (λ n. refl) (width_out_of_range (length row)) out_of_range (λ _.
    first-test row_number (λ n. refl) (ltb (length out) max_body) area_too_short (λ _. refl))

progress-number : (p : Progress) → RecordFault p.fault
    → row_number (outcome_of p) ≡ first_refusal (record_faults p.fault [])
unfolding outcome_of
progress-number p (inl e) = rw e
progress-number p (inr (inl e)) = rw e
progress-number p (inr (inr e)) = rw e

pub row-unpack-order : (packed : List ℕ) (row_width : ℕ) (out : List ℕ)
    → row_number (unpack_row packed row_width (length out)) ≡ first_refusal (row_unpack_order packed row_width out)
unfolding unpack_row progress
row-unpack-order packed row_width out =
    first-test row_number (λ n. refl) (width_out_of_range row_width) out_of_range (λ _.
    first-test row_number (λ n. refl) (ltb (length out) row_width) area_too_short (λ _.
    progress-number (progress packed row_width) (row-fault (suc (length packed)) packed row_width)))

-- ---- scan lines

abbrev line_number : Outcome (List ℕ) → ℕ
line_number o = (refusal_of o).number

line-tests : (r : Resolution) (y room : ℕ) (further : Outcome (List ℕ)) {next : ℕ} → line_number further ≡ next
    → line_number (judge_line_at r y room further) ≡ cond (leb (height_of r) y) 10 (cond (ltb room (width_of r)) 1 next)
line-tests r y room further h =
    first-test line_number (λ n. refl) (leb (height_of r) y) out_of_range (λ _.
    first-test line_number (λ n. refl) (ltb room (width_of r)) area_too_short (λ _. h))

module _ (screen : List ℕ) (number y : ℕ) (line : List ℕ) where
  pub line-out-order : line_number (line_out screen number y (length line))
      ≡ first_refusal (line_out_order screen number y line)
  unfolding line_out
  line-out-order =
      first-test line_number (λ n. refl) (ltb (length screen) screen_bytes) area_too_short (λ _.
      first-resolution line_number (λ n. refl) number (λ r. line_out_at screen r y (length line))
      (λ n. first_refusal ((leb (height n) y, 10) ∷ (ltb (length line) (width n), 1) ∷ []))
      (at Low) (at Medium) (at High))
    where
      at : (r : Resolution) → line_number (line_out_at screen r y (length line))
          ≡ first_refusal ((leb (height_of r) y, 10) ∷ (ltb (length line) (width_of r), 1) ∷ [])
      at r = line-tests r y (length line) (Ok (scan_line screen r y)) refl

  abbrev line_in_tests : ℕ → ℕ → ℕ → List Test
  line_in_tests h w n =
      (leb h y, 10) ∷ (ltb (length line) w, 1) ∷ (not (all_first w (λ v. ltb v n) line), 10) ∷ []

  pub line-in-order : line_number (line_in screen number y line) ≡ first_refusal (line_in_order screen number y line)
  unfolding line_in
  line-in-order =
      first-test line_number (λ n. refl) (ltb (length screen) screen_bytes) area_too_short (λ _.
      first-resolution line_number (λ n. refl) number (λ r. line_in_at screen r y line)
      (λ n. first_refusal (line_in_tests (height n) (width n) (registers n)))
      (at Low) (at Medium) (at High))
    where
      at : (r : Resolution) → line_number (line_in_at screen r y line)
          ≡ first_refusal (line_in_tests (height_of r) (width_of r) (registers_of r))
      at r =
          line-tests r y (length line) _
          (first-test line_number (λ n. refl) (not (registers_fit r line)) out_of_range (λ _. refl))

-- ---- colour, tally and pond reading

abbrev colour_number : Outcome Rgb → ℕ
colour_number o = (colour_answer o).refusal.number

pub colour-order : (number machine : ℕ) (palette : List ℕ) (register : ℕ)
    → colour_number (shown number machine palette register) ≡ first_refusal (colour_order number machine register)
unfolding shown judge_register
colour-order number machine palette register =
    first-resolution colour_number (λ n. refl) number judged
    (λ n. first_refusal ((no_machine machine, 10) ∷ (leb (registers n) register, 10) ∷ []))
    (at Low) (at Medium) (at High)
  where
    judged : Resolution → Outcome Rgb
    judged r = with_machine machine (λ m. judge_register r m (get_or palette register 0) register)

    at : (r : Resolution)
        → colour_number (judged r) ≡ first_refusal ((no_machine machine, 10) ∷ (leb (registers_of r) register, 10) ∷ [])
    at r =
        first-machine colour_number (λ n. refl) machine (λ m. judge_register r m (get_or palette register 0) register) (λ m.
        first-test colour_number (λ n. refl) (leb (registers_of r) register) out_of_range (λ _. refl))

-- what is not at most a number is above it
above : (m n : ℕ) → ltb n m ≡ not (leb m n)
above m n = go (leb m n) refl
  where
    go : (b : Bool) → leb m n ≡ b → ltb n m ≡ not b
    go true e = le-ltb n m (leb-true m n e)
    go false e = lt-ltb n m (leb-false m n e)

module _ {A : Type 0} (answer : Outcome A → ℕ) (is : (n : ℕ) → answer (refuse n) ≡ n) (screen : List ℕ) (number : ℕ)
    (a : Rectangle) (rest : List Test) where
  rectangle-order : (further : Resolution → Outcome A) → ((r : Resolution) → answer (further r) ≡ first_refusal rest)
      → answer (judge_rectangle (length screen) number a further) ≡ first_refusal (rectangle_tests screen number a rest)
  rectangle-order further h =
      first-test answer is (ltb (length screen) screen_bytes) area_too_short (λ _.
      first-resolution answer is number (λ r. judge_rectangle_at r a (further r)) (λ n. tests (width n) (height n))
      (at Low) (at Medium) (at High))
    where
      tests : ℕ → ℕ → ℕ
      tests w h = first_refusal ((ltb w (a.left + a.columns), 10) ∷ (ltb h (a.top + a.lines), 10) ∷ rest)

      both : (r : Resolution) (s t : Bool)
          → answer (refuse_if (not (s && t)) out_of_range (further r)) ≡ first_refusal ((not s, 10) ∷ (not t, 10) ∷ rest)
      both r true true = h r
      both r true false = is 10
      both r false t = is 10

      at : (r : Resolution) → answer (judge_rectangle_at r a (further r)) ≡ tests (width_of r) (height_of r)
      at r =
          rw (above (a.left + a.columns) (width_of r), above (a.top + a.lines) (height_of r))
          (both r (leb (a.left + a.columns) (width_of r)) (leb (a.top + a.lines) (height_of r)))

abbrev tally_number : Outcome (List ℕ) → ℕ
tally_number o = (tally_answer o).refusal.number

pub tally-order : (screen : List ℕ) (number : ℕ) (a : Rectangle)
    → tally_number (tallied screen number a) ≡ first_refusal (tally_order screen number a)
unfolding tallied
tally-order screen number a =
    rectangle-order tally_number (λ n. refl) screen number a [] (λ r. Ok (counts screen r a)) (λ r. refl)

abbrev pond_number : Outcome PondCounts → ℕ
pond_number o = (pond_answer o).refusal.number

-- each test of party, register and legend as the definitions have it

party-test : (party : ℕ) → no_party party ≡ not (is_party party)
unfolding is_party
party-test party = go (eqb party 0) refl
  where
    go : (b : Bool) → eqb party 0 ≡ b → b || ltb 2 party ≡ not (ltb 0 party && leb party 2)
    go true e = rw (eqb-true party 0 e)
    go false e =
        let some : party ≡ 0 → ⊥ = eqb-false party 0 e in rw (lt-ltb 0 party (omega arith), above party 2)

register-test : (v : ℕ) → ltb 15 v ≡ not (register_fits v)
register-test v = go (ltb v 16) refl
  where
    go : (b : Bool) → ltb v 16 ≡ b → ltb 15 v ≡ not b
    go true e = le-ltb 15 v (omega (arith, ltb-true v 16 e))
    go false e = lt-ltb 15 v (omega (arith, ltb-false v 16 e))

entry-test : (owner class confidence : ℕ)
    → not (wrong_entry owner class confidence) ≡ entry_fits owner class confidence
unfolding entry_fits
entry-test owner class confidence =
    rw (above owner 2, above confidence 100)
    (go (leb owner 2) (leb confidence 100) (eqb owner 0) (eqb class 0 && eqb confidence 0))
  where
    go : (o c f z : Bool) → not (not o || (not c || (f && not z))) ≡ o && (c && cond f z true)
    go true true true true = refl
    go true true true false = refl
    go true true false z = refl
    go true false f z = refl
    go false c f z = refl

legend-test : (l : Legend) → wrong_legend l ≡ not (legend_fits l)
unfolding legend_fits
legend-test l =
    ap not (all_below-ext _ _ 16 (λ v. entry-test (owner_of l v) (class_of l v) (confidence_of l v)))

module _ (screen : List ℕ) (number : ℕ) (a : Rectangle) (party class floor : ℕ) (l : Legend) where
  pub pond-order : pond_number (pond_reading screen number a party class floor l)
      ≡ first_refusal (pond_order screen number a party class floor l)
  unfolding pond_reading
  pond-order =
      rectangle-order pond_number (λ n. refl) screen number a
      ((no_party party, 10) ∷ (ltb 255 class, 10) ∷ (ltb 100 floor, 10) ∷ (wrong_legend l, 10) ∷ [])
      (λ r. refuse_if (not (question_fits party class floor l)) out_of_range (counted r))
      (λ r.
      rw (party-test party, above class 255, above floor 100, legend-test l)
      (go (counted r) refl (is_party party) (class_fits class) (confidence_fits floor) (legend_fits l)))
    where
      counted : Resolution → Outcome PondCounts
      counted r = Ok (pond_of screen r a party class floor l)

      go : (o : Outcome PondCounts) → pond_number o ≡ 0 → (p c f g : Bool)
          → pond_number (refuse_if (not ((p && (c && f)) && g)) out_of_range o)
          ≡ first_refusal ((not p, 10) ∷ (not c, 10) ∷ (not f, 10) ∷ (not g, 10) ∷ [])
      go o e true true true true = e
      go o e true true true false = refl
      go o e true true false g = refl
      go o e true false f g = refl
      go o e false c f g = refl

-- ---- the legend

abbrev legend_number : Outcome Legend → ℕ
legend_number o = (refusal_of o).number

pub set-order : (l : Legend) (party register class confidence : ℕ)
    → legend_number (setting l party register class confidence)
    ≡ first_refusal (set_order l party register class confidence)
unfolding setting
set-order l party register class confidence =
    rw (party-test party, register-test register, above class 255, above confidence 100, legend-test l)
    (go
    (with_entry l register party class confidence)
    (is_party party)
    (register_fits register)
    (class_fits class)
    (confidence_fits confidence)
    (legend_fits l)
    (is_anothers l party register))
  where
    go : (next : Legend) (p r c f g o : Bool)
        → legend_number
        (refuse_if (not ((c && (f && (p && r))) && g)) out_of_range (refuse_if o not_owned (Ok next)))
        ≡ first_refusal
        ((not p, 10) ∷ (not r, 10) ∷ (not c, 10) ∷ (not f, 10) ∷ (not g, 10) ∷ (o, 19) ∷ [])
    go next true true true true true true = refl
    go next true true true true true false = refl
    go next true true true true false o = refl
    go next true true true false g o = refl
    go next true true false f g o = refl
    go next true false true true g o = refl
    go next true false true false g o = refl
    go next true false false f g o = refl
    go next false r true true g o = refl
    go next false r true false g o = refl
    go next false r false f g o = refl

pub release-order : (l : Legend) (party register : ℕ)
    → legend_number (releasing l party register) ≡ first_refusal (release_order l party register)
unfolding releasing
release-order l party register =
    rw (party-test party, register-test register, legend-test l)
    (go (is_party party) refl (register_fits register) (legend_fits l))
  where
    next : Legend
    next = with_entry l register free 0 0

    owner : ℕ
    owner = owner_of l register

    -- an entry that is not a party's is another's or free
    unowned : is_party party ≡ true → (b : Bool) → eqb owner 0 ≡ b
        → not (owns l party register) ≡ (not b && not (owns l party register)) || b
    unowned known true e =
        let some : 0 ≡ party → ⊥ = party-some party known in
        rw (ne_eqb owner party (λ is. some (sym (eqb-true owner 0 e) ∙ is)))
    unowned known false e = same (owns l party register)
      where
        same : (b : Bool) → not b ≡ not b || false
        same true = refl
        same false = refl

    go : (p : Bool) → is_party party ≡ p → (r g : Bool)
        → legend_number
        (refuse_if (not ((p && r) && g)) out_of_range
        (refuse_if (not (owns l party register)) not_owned (Ok next)))
        ≡ first_refusal
        ((not p, 10) ∷ (not r, 10) ∷ (not g, 10)
        ∷ (anothers owner party || eqb owner 0, 19) ∷ [])
    go true e true true = rw (← unowned e (eqb owner 0) refl) (own (owns l party register))
      where
        own : (b : Bool) → legend_number (refuse_if (not b) not_owned (Ok next)) ≡ cond (not b) 19 0
        own true = refl
        own false = refl
    go true e true false = refl
    go true e false g = refl
    go false e r g = refl

-- ---- reading

abbrev read_number : Outcome Reading → ℕ
read_number o = (read_answer o).refusal.number

abbrev body_number : Outcome UnpackedBody → ℕ
body_number o = (unpacked_answer o).refusal.number

module _ (file : List ℕ) (at after : ℕ) (r : Raster) where
  -- the tests after the rows' progress
  end-tests : (p : RowsProgress) → RecordFault p.fault
      → body_number (bind (map (body_of r) (placed at (rows_outcome p))) (judge_end file at after))
      ≡ first_refusal (record_faults p.fault ((not (eqb (length file) (at + p.bytes + after)), 8) ∷ []))
  unfolding rows_outcome
  end-tests p (inr (inl e)) = rw e
  end-tests p (inr (inr e)) = rw e
  end-tests p (inl e) = rw e (go (eqb (length file) (at + p.bytes + after)) _ _)
    where
      go : (t : Bool) (u : UnpackedBody) (place : ℕ)
          → body_number (cond t (Ok u) (Err (refusal wrong_tail place))) ≡ cond (not t) 8 0
      go true u place = refl
      go false u place = refl

  -- a body's rows, and then its end
  abbrev in_body : RowsProgress
  in_body = rows_progress (rows r) (row_bytes r) (drop at file)

  body-tests : body_number (read_body file at after r)
      ≡ first_refusal (record_faults in_body.fault ((not (eqb (length file) (at + in_body.bytes + after)), 8) ∷ []))
  unfolding read_body
  body-tests = end-tests in_body (rows-fault (rows r) (row_bytes r) [] (drop at file))

module _ (file : List ℕ) where
  raw-tests : (r : Resolution) → read_number (read_raw file r) ≡ first_refusal (raw_tests file)
  unfolding read_raw
  raw-tests r = go (eqb (length file) plain_length) (eqb (length file) elite_length) _ _
    where
      go : (s t : Bool) (a b : Reading)
          → read_number (cond s (Ok a) (cond t (Ok b) (refuse wrong_length))) ≡ cond (not (s || t)) 3 0
      go true t a b = refl
      go false true a b = refl
      go false false a b = refl

  -- the number of a reading is that of its body
  map-number : (f : UnpackedBody → Reading) (o : Outcome UnpackedBody) → read_number (map f o) ≡ body_number o
  map-number f (Ok u) = refl
  map-number f (Err why) = refl

  packed-tests : (r : Resolution) → read_number (read_packed file r)
      ≡ first_refusal (packed_tests file (rows_progress (rows (raster_of r)) (row_bytes (raster_of r)) (drop 34 file)))
  unfolding read_packed
  packed-tests r =
      first-test read_number (λ n. refl) (ltb packed_most (length file)) wrong_length (λ _.
      map-number (packed_reading file r) (read_body file header_length tail_length (raster_of r))
      ∙ body-tests file header_length tail_length (raster_of r))

  degas-order : (area : ℕ) → read_number (read_degas file area) ≡ first_refusal ((ltb area 32000, 1) ∷ degas_tests file)
  unfolding read_degas degas-opening.opening
  degas-order area =
      first-test read_number (λ n. refl) (ltb area screen_bytes) area_too_short (λ _.
      first-test opened (λ n. refl) (ltb (length file) header_length) wrong_length (λ _.
      first-resolution opened (λ n. refl) (degas_resolution file) (λ r. Ok (header_of file r))
      (λ n. first_refusal (cond (degas_packed file) (packed_tests file (body_progress file n)) (raw_tests file)))
      (at Low) (at Medium) (at High)))
    where
      opened : Outcome Header → ℕ
      opened o = read_number (bind o (read_opened file))

      go : (r : Resolution) (b : Bool) → read_number (cond b (read_packed file r) (read_raw file r))
          ≡ first_refusal
          (cond b (packed_tests file (rows_progress (rows (raster_of r)) (row_bytes (raster_of r)) (drop 34 file)))
          (raw_tests file))
      go r true = packed-tests r
      go r false = raw-tests r

      at : (r : Resolution) → read_number (read_opened file (header_of file r))
          ≡ first_refusal
          (cond (degas_packed file)
          (packed_tests file (rows_progress (rows (raster_of r)) (row_bytes (raster_of r)) (drop 34 file)))
          (raw_tests file))
      at r = go r (degas_packed file)

  neochrome-order : (area : ℕ)
      → read_number (read_neochrome file area) ≡ first_refusal ((ltb area 32000, 1) ∷ neochrome_tests file)
  unfolding read_neochrome neochrome-opening.opening
  neochrome-order area =
      first-test read_number (λ n. refl) (ltb area screen_bytes) area_too_short (λ _.
      first-test opened (λ n. refl) (not (eqb (length file) file_length)) wrong_length (λ _.
      first-test opened (λ n. refl) (not (eqb (word_at file 0) 0)) wrong_flag (λ _.
      first-resolution opened (λ n. refl) (word_at file 2) (λ r. Ok r) (λ _. 0) refl refl refl)))
    where
      opened : Outcome Resolution → ℕ
      opened o = read_number (bind o (λ r. Ok (neochrome_reading file r)))

-- ---- reading: Tiny

-- no fault, 11 or 12
abbrev RunFault : ℕ → Type 0
RunFault n = (n ≡ 0) ⊎ ((n ≡ 11) ⊎ (n ≡ 12))

-- a defined run, against the data words left and the words to make
past-order : (repeats : Bool) (count controls left room : ℕ) → (fitted (defined repeats count controls) left room).fault
    ≡ cond (ltb room count || ltb left (cond repeats 1 count)) 12 0
past-order repeats count controls left room = go (ltb room count || ltb left (cond repeats 1 count))
  where
    go : (b : Bool) → (cond b (faulty run_too_long) (defined repeats count controls)).fault ≡ cond b 12 0
    go true = refl
    go false = refl

-- a run of a long count: the count is judged first
long_order : (s t repeats : Bool) (count left room : ℕ)
    → (fitted (cond s (faulty run_too_long) (cond t (faulty undefined_control) (defined repeats count 3))) left room).fault
    ≡ cond s 12 (cond t 11 (cond (ltb room count || ltb left (cond repeats 1 count)) 12 0))
long_order true t repeats count left room = rw (le-ltb room 0 (omega arith), le-ltb left 0 (omega arith))
long_order false true repeats count left room = rw (le-ltb room 0 (omega arith), le-ltb left 0 (omega arith))
long_order false false repeats count left room = past-order repeats count 3 left room

pub run-order : (x : ℕ) (rest : List ℕ) (left room : ℕ)
    → (run_at (x ∷ rest) left room).fault ≡ first_refusal (run_order x rest left room)
unfolding run_at run_of long_run
run-order x rest left room = go (ltb x 2) refl (ltb x 128) refl
  where
    other : (u : Bool) → (fitted (cond u (faulty undefined_control) (defined false (256 - x) 1)) left room).fault
        ≡ cond u 11 (cond (ltb room (256 - x) || ltb left (256 - x)) 12 0)
    other true = rw (le-ltb room 0 (omega arith), le-ltb left 0 (omega arith))
    other false = past-order false (256 - x) 1 left room

    go : (s : Bool) → ltb x 2 ≡ s → (t : Bool) → ltb x 128 ≡ t
        → (fitted
        (cond s (long_run (eqb x 0) rest)
        (cond t (defined true x 1)
        (cond (eqb x 128) (faulty undefined_control)
        (defined false (256 - x) 1))))
        left room).fault
        ≡ first_refusal (run_order x rest left room)
    go true e t f =
        rw (e, ne_eqb x 128 (omega (arith, ltb-true x 2 e)))
        (long_order (ltb (length rest) 2) (ltb (word_at rest 0) 128 || ltb 32767 (word_at rest 0)) (eqb x 0)
        (word_at rest 0) left room)
    go false e true f =
        rw (e, f, ne_eqb x 128 (omega (arith, ltb-true x 128 f))) (past-order true x 1 left room)
    go false e false f = rw (e, f) (other (eqb x 128))

run-fault : (x : ℕ) (rest : List ℕ) (left room : ℕ) → RunFault (run_at (x ∷ rest) left room).fault
run-fault x rest left room =
    rw (run-order x rest left room)
    (cond-elim RunFault (ltb x 2 && ltb (length rest) 2) (λ _. inr (inr refl)) (λ _.
    cond-elim RunFault (ltb x 2 && (ltb (word_at rest 0) 128 || ltb 32767 (word_at rest 0))) (λ _. inr (inl refl)) (λ _.
    cond-elim RunFault (eqb x 128) (λ _. inr (inl refl)) (λ _.
    cond-elim RunFault (ltb room (run_makes x rest) || ltb left (run_takes x rest)) (λ _. inr (inr refl)) (λ _.
    inl refl)))))

runs-fault : (bound : ℕ) (controls datas : List ℕ) (room : ℕ)
    → RunFault (expand_within bound controls datas room).fault
unfolding expand_within run_step
runs-fault zero controls datas room = inl refl
runs-fault (suc bound) [] datas room = inl refl
runs-fault (suc bound) (x ∷ rest) datas room =
    let r = run_at (x ∷ rest) (length datas) room in
    cond-elim (λ (p : Expansion). RunFault p.fault) (eqb r.fault 0)
    (λ _. runs-fault bound (drop r.controls (x ∷ rest)) (drop r.datas datas) (room - r.count))
    (λ _. run-fault x rest (length datas) room)

module _ (file : List ℕ) where
  run-tests : (p : Expansion) → RunFault p.fault
      → read_number (read_runs file p)
      ≡ first_refusal
      ((eqb p.fault 11, 11)
      ∷ (eqb p.fault 12, 12)
      ∷ (ltb p.datas (data_count file), 13)
      ∷ (ltb (length p.made) 16000, 13)
      ∷ [])
  unfolding read_runs
  run-tests p (inr (inl e)) = rw e
  run-tests p (inr (inr e)) = rw e
  run-tests p (inl e) = rw e (go (ltb p.datas (data_count file)) (ltb (length p.made) screen_words) _)
    where
      go : (s t : Bool) (q : Reading)
          → read_number (refuse_if (s || t) size_mismatch (Ok q)) ≡ cond s 13 (cond t 13 0)
      go true t q = refl
      go false true q = refl
      go false false q = refl

  -- the header's end and the counts, with and without rotation bytes
  header_is : (b : Bool) → cond b rotated_palette plain_palette + control_offset ≡ cond b 41 37
  header_is true = refl
  header_is false = refl

  controls-at : (b : Bool) → cond b rotated_palette plain_palette + control_count_offset ≡ cond b 41 37 - 4
  controls-at true = refl
  controls-at false = refl

  datas-at : (b : Bool) → cond b rotated_palette plain_palette + data_count_offset ≡ cond b 41 37 - 2
  datas-at true = refl
  datas-at false = refl

  abbrev section_number : ℕ → ℕ → ℕ → ℕ
  section_number header controls datas = first_refusal (section_tests file header controls datas)

  section-tests : 37 ≤ length file → read_number (read_sections file)
      ≡ cond (rotated file && ltb (length file) 41) 3
      (section_number (tiny_header file) (control_bytes file) (data_words file))
  unfolding read_sections palette_start expand
  section-tests long =
      first-test read_number (λ n. refl) (ltb (length file) (control_start file)) wrong_length (λ _.
      first-test read_number (λ n. refl) (not (eqb (length file) (control_start file + body_length file))) wrong_length
      (λ _.
      run-tests (expanded file)
      (runs-fault (length (control_section file)) (control_section file) (data_section file) screen_words))
      ∙ ap (λ (h : ℕ). section_number h (control_count file) (data_count file)) (header_is (rotated file))
      ∙ ap (λ (at : ℕ). section_number (tiny_header file) (word_at file at) (data_count file)) (controls-at (rotated file))
      ∙ ap (λ (at : ℕ). section_number (tiny_header file) (control_bytes file) (word_at file at)) (datas-at (rotated file)))
      ∙ ap (λ (t : Bool). cond t 3 (section_number (tiny_header file) (control_bytes file) (data_words file)))
      (short (rotated file))
    where
      short : (b : Bool)
          → ltb (length file) (cond b rotated_palette plain_palette + control_offset) ≡ b && ltb (length file) 41
      short true = refl
      short false = le-ltb (length file) 37 long

  tiny-order : (area : ℕ) → read_number (read_tiny file area) ≡ first_refusal ((ltb area 32000, 1) ∷ tiny_tests file)
  unfolding read_tiny
  tiny-order area =
      first-test read_number (λ n. refl) (ltb area screen_bytes) area_too_short (λ _.
      first-test read_number (λ n. refl) (ltb (length file) shortest_length) wrong_length (λ long.
      first-test read_number (λ n. refl) (ltb highest_byte (resolution_byte file)) unknown_resolution (λ _.
      section-tests (ltb-false (length file) shortest_length long))))

-- ---- reading: a file of any kind

pub read-order : (kind : ℕ) (file area : List ℕ)
    → read_number (read_file kind file (length area)) ≡ first_refusal (read_order kind file area)
unfolding read_file
read-order kind file area =
    cond-eqb Is kind 1 (λ e. rw e (degas-order file (length area))) (λ not1.
    cond-eqb Is kind 2 (λ e. rw e (neochrome-order file (length area))) (λ not2.
    cond-eqb Is kind 3 (λ e. rw e (tiny-order file (length area))) (λ not3.
    rw (outside kind 3 (λ not0. omega arith))
    (first-test read_number (λ n. refl) (ltb (length area) screen_bytes) area_too_short (λ _. refl)))))
  where
    Is : Outcome Reading → Type 0
    Is o = read_number o ≡ first_refusal (read_order kind file area)

-- ---- writing

abbrev write_number : Outcome Writing → ℕ
write_number o = (write_answer o).refusal.number

module _ (p : Picture) (screen out : List ℕ) where
  -- the areas, the resolution, and then what is judged at the resolution
  written-order : (further : Resolution → Outcome Writing) (next : ℕ → ℕ) → write_number (further Low) ≡ next 0
      → write_number (further Medium) ≡ next 1 → write_number (further High) ≡ next 2
      → write_number (bind (judge_writing (length screen) (length out) p.resolution) further)
      ≡ cond (ltb (length screen) 32000 || ltb (length out) 32128) 1
      (cond (ltb 2 p.resolution) 5 (next p.resolution))
  unfolding judge_writing
  written-order further next low medium high =
      first_either judged (λ n. refl) (ltb (length screen) screen_bytes) (ltb (length out) file_bytes) area_too_short
      (first-resolution judged (λ n. refl) p.resolution (λ r. Ok r) next low medium high)
    where
      judged : Outcome Resolution → ℕ
      judged o = write_number (bind o further)

  packed-written : (r : Resolution)
      → write_number (write_packed r p screen) ≡ cond (leb 32000 (length (least_body (raster_of r) screen))) 9 0
  unfolding write_packed
  packed-written r =
      first-test (λ (o : Outcome PackedBody). write_number (map (packed_writing p) o)) (λ n. refl)
      (leb body_limit (length (least_body (raster_of r) screen))) no_packed_body (λ _. refl)

  pub write-order : (form : ℕ)
      → write_number (write_file form p screen (length out)) ≡ first_refusal (write_order form p screen out)
  unfolding write_file write_degas write_neochrome
  write-order form =
      cond-eqb Is form 1 (λ e. rw e (written-order (λ r. write_form Plain r p screen) (λ _. 0) refl refl refl)) (λ not1.
      cond-eqb Is form 2 (λ e. rw e (written-order (λ r. write_form Elite r p screen) (λ _. 0) refl refl refl)) (λ not2.
      cond-eqb Is form 3
      (λ e.
      rw e
      (written-order (λ r. write_form Packed r p screen)
      (λ n. cond (leb 32000 (length (least_body (raster_at n) screen))) 9 0)
      (packed-written Low) (packed-written Medium) (packed-written High)))
      (λ not3.
      cond-eqb Is form 4
      (λ e. rw e (written-order (λ r. raw_writing (neochrome_file p screen)) (λ _. 0) refl refl refl))
      (λ not4.
      rw (outside form 4 (λ not0. omega arith))
      (first_either write_number (λ n. refl) (ltb (length screen) screen_bytes) (ltb (length out) file_bytes) area_too_short
      refl)))))
    where
      Is : Outcome Writing → Type 0
      Is o = write_number o ≡ first_refusal (write_order form p screen out)

-- ---- conversions of DEGAS files

-- tests after which others stand: those come where none of the first holds, and none of these has the number 0
abbrev numbered : List Test → Bool
numbered [] = true
numbered (t ∷ rest) = not (eqb t.1 0) && numbered rest

first-stands : (tests own : List Test) → (first_refusal tests ≡ 0 → ⊥) → first_refusal (tests ++ own) ≡ first_refusal tests
first-stands [] own h = absurd (h refl)
first-stands ((true, n) ∷ rest) own h = refl
first-stands ((false, n) ∷ rest) own h = first-stands rest own h

first_passes : (tests own : List Test) → numbered tests ≡ true → first_refusal tests ≡ 0
    → first_refusal (tests ++ own) ≡ first_refusal own
first_passes [] own all e = refl
first_passes ((true, n) ∷ rest) own all e =
    absurd (eqb-false n 0 (not-true (eqb n 0) (and-true (not (eqb n 0)) (numbered rest) all).0) e)
first_passes ((false, n) ∷ rest) own all e =
    first_passes rest own (and-true (not (eqb n 0)) (numbered rest) all).1 e

module _ (file out : List ℕ) where
  degas-numbered : numbered (degas_tests file) ≡ true
  degas-numbered =
      cond-elim (λ (tests : List Test). numbered tests ≡ true) (degas_packed file) (λ _. refl) (λ _. refl)

  -- what an accepted reading is judged by afterwards
  record Accepted (q : Reading) : Type 0 where
    whole : WholeReading q
    tail : HasTail file q

  accepted-reading : Judged Accepted (read_degas file screen_bytes)
  accepted-reading = go (read_degas file screen_bytes) (degas-whole file screen_bytes) (degas-tail file screen_bytes)
    where
      go : (o : Outcome Reading) → Judged WholeReading o → Judged (HasTail file) o → Judged Accepted o
      go (Ok q) w t = record { whole = w; tail = t }
      go (Err why) w t = w

  -- the output, the reading, and what the conversion judges itself
  conversion-order : (to : Conversion) (own : List Test)
      → ((q : Reading) → Accepted q → file_bytes ≤ length out
      → write_number (converted to (word_at file 0) q.picture q.screen (length out)) ≡ first_refusal own)
      → write_number (convert to file (length out)) ≡ first_refusal (conversion_order file out own)
  unfolding convert
  conversion-order to own h =
      first-test write_number (λ n. refl) (ltb (length out) file_bytes) area_too_short (λ long.
      go (read_degas file screen_bytes) accepted-reading (degas-order file screen_bytes)
      (ltb-false (length out) file_bytes long))
    where
      go : (o : Outcome Reading) → Judged Accepted o → read_number o ≡ first_refusal (degas_tests file)
          → file_bytes ≤ length out
          → write_number (bind o (λ q. converted to (word_at file 0) q.picture q.screen (length out)))
          ≡ first_refusal (degas_tests file ++ own)
      go (Ok q) a e room = h q a room ∙ sym (first_passes (degas_tests file) own degas-numbered (sym e))
      go (Err why) number e room = e ∙ sym (first-stands (degas_tests file) own (λ z. number (e ∙ z)))

  pub to-elite-order : write_number (convert ToElite file (length out)) ≡ first_refusal (to_elite_order file out)
  unfolding plain_to_elite
  to-elite-order =
      conversion-order ToElite _
      (λ q a room.
      first-test write_number (λ n. refl) q.picture.tail_present unknown_kind (λ _.
      first-test write_number (λ n. refl) (not (eqb (ignored_bits (word_at file 0)) 0)) ignored_bits_set (λ _.
      elite-number a.whole.resolution q.picture q.screen (length out)
      (whole-passed q a.whole (length out) room)))
      ∙ ap (λ (t : Bool). cond t 2 (cond (not (eqb (word_at file 0 / 4 % 8192) 0)) 17 0)) a.tail.present)

  -- the tail that was read stands in the file's last 32 bytes
  zero-last : (q : Reading) → HasTail file q
      → zero_tail q.picture ≡ has_tail file && all_first 32 (λ b. eqb b 0) (last_tail file)
  zero-last q t =
      go q.picture.tail_present refl
      ∙ ap (λ (present : Bool). present && all_first 32 (λ b. eqb b 0) (last_tail file)) t.present
    where
      go : (present : Bool) → q.picture.tail_present ≡ present
          → zero_tail q.picture ≡ q.picture.tail_present && all_first 32 (λ b. eqb b 0) (last_tail file)
      go true e =
          ap (λ (tail : List Table). q.picture.tail_present && all_first 32 (λ b. eqb b 0) (tail_bytes tail))
          (t.last e)
      go false e = rw e

  pub to-plain-order : write_number (convert ToPlain file (length out)) ≡ first_refusal (to_plain_order file out)
  unfolding elite_to_plain
  to-plain-order =
      conversion-order ToPlain _
      (λ q a room.
      first-test write_number (λ n. refl) (not (zero_tail q.picture)) no_zero_tail (λ _.
      ap write_number
      (write-passed Plain q.picture q.screen (length out) (whole-passed q a.whole (length out) room)))
      ∙ ap (λ (zero : Bool). cond (not zero) 18 0) (zero-last q a.tail))

-- ---- MacPaint plates

pub read-plate-order : (file plate : List ℕ)
    → body_number (read_plate file (length plate)) ≡ first_refusal (read_plate_order file plate)
unfolding read_plate
read-plate-order file plate =
    first-test body_number (λ n. refl) (ltb (length plate) plate_bytes) area_too_short (λ _.
    first_either body_number (λ n. refl)
    (ltb (length file) macpaint.header_length) (ltb macpaint.longest_file (length file)) wrong_length
    (first-test body_number (λ n. refl) (not (version_allowed file)) wrong_version (λ _.
    body-tests file macpaint.header_length macpaint.after_body plate_raster)))

pub write-plate-order : (plate out : List ℕ)
    → write_number (write_plate plate (length out)) ≡ first_refusal (write_plate_order plate out)
unfolding write_plate
write-plate-order plate out =
    first_either write_number (λ n. refl) (ltb (length out) macpaint.longest_file) (ltb (length plate) plate_bytes)
    area_too_short
    (first-test (λ (o : Outcome PackedBody). write_number (map plate_writing o)) (λ n. refl)
    (leb macpaint.body_limit (length (least_body plate_raster plate))) no_packed_body (λ _. refl))

-- ---- the numbers that an operation can give back

-- 0 and the number of each test that can hold are among these
abbrev pub give_only : List ℕ → List Test → Bool
give_only numbers [] = one_of numbers 0
give_only numbers (t ∷ rest) = (one_of numbers t.1 || not t.0) && give_only numbers rest

given-next : (numbers : List ℕ) (t : Bool) (n next : ℕ) → one_of numbers n || not t ≡ true → one_of numbers next ≡ true
    → one_of numbers (cond t n next) ≡ true
given-next numbers true n next e h = go (one_of numbers n) e
  where
    go : (s : Bool) → s || false ≡ true → s ≡ true
    go true e = refl
    go false e = e
given-next numbers false n next e h = h

first-given : (numbers : List ℕ) (tests : List Test) → give_only numbers tests ≡ true
    → one_of numbers (first_refusal tests) ≡ true
first-given numbers [] e = e
first-given numbers (t ∷ rest) e =
    let p = and-true (one_of numbers t.1 || not t.0) (give_only numbers rest) e in
    given-next numbers t.0 t.1 (first_refusal rest) p.0 (first-given numbers rest p.1)

pub in_order : (numbers : List ℕ) (tests : List Test) {n : ℕ} → n ≡ first_refusal tests → give_only numbers tests ≡ true
    → one_of numbers n ≡ true
in_order numbers tests e h = ap (one_of numbers) e ∙ first-given numbers tests h

-- an unknown kind or form: 1 or 2
unknown-given : (t : Bool) → one_of (1 ∷ 2 ∷ []) (cond t 1 2) ≡ true
unknown-given true = refl
unknown-given false = refl

pub row-pack-numbers : (row out : List ℕ) → one_of row_pack_numbers (row_number (pack_row row (length out))) ≡ true
row-pack-numbers row out = in_order row_pack_numbers (row_pack_order row out) (row-pack-order row out) refl

pub row-unpack-numbers : (packed : List ℕ) (row_width : ℕ) (out : List ℕ)
    → one_of row_unpack_numbers (row_number (unpack_row packed row_width (length out))) ≡ true
row-unpack-numbers packed row_width out =
    in_order row_unpack_numbers (row_unpack_order packed row_width out) (row-unpack-order packed row_width out) refl

pub line-out-numbers : (screen : List ℕ) (number y : ℕ) (out : List ℕ)
    → one_of screen_numbers (line_number (line_out screen number y (length out))) ≡ true
line-out-numbers screen number y out =
    in_order screen_numbers (line_out_order screen number y out) (line-out-order screen number y out) refl

pub line-in-numbers : (screen : List ℕ) (number y : ℕ) (line : List ℕ)
    → one_of screen_numbers (line_number (line_in screen number y line)) ≡ true
line-in-numbers screen number y line =
    in_order screen_numbers (line_in_order screen number y line) (line-in-order screen number y line) refl

pub colour-numbers : (number machine : ℕ) (palette : List ℕ) (register : ℕ)
    → one_of colour_numbers (colour_number (shown number machine palette register)) ≡ true
colour-numbers number machine palette register =
    in_order colour_numbers (colour_order number machine register) (colour-order number machine palette register) refl

pub tally-numbers : (screen : List ℕ) (number : ℕ) (a : Rectangle)
    → one_of screen_numbers (tally_number (tallied screen number a)) ≡ true
tally-numbers screen number a = in_order screen_numbers (tally_order screen number a) (tally-order screen number a) refl

pub pond-numbers : (screen : List ℕ) (number : ℕ) (a : Rectangle) (party class floor : ℕ) (l : Legend)
    → one_of screen_numbers (pond_number (pond_reading screen number a party class floor l)) ≡ true
pond-numbers screen number a party class floor l =
    in_order screen_numbers (pond_order screen number a party class floor l)
    (pond-order screen number a party class floor l)
    refl

pub set-numbers : (l : Legend) (party register class confidence : ℕ)
    → one_of legend_numbers (legend_number (setting l party register class confidence)) ≡ true
set-numbers l party register class confidence =
    in_order legend_numbers (set_order l party register class confidence)
    (set-order l party register class confidence)
    refl

pub release-numbers : (l : Legend) (party register : ℕ)
    → one_of legend_numbers (legend_number (releasing l party register)) ≡ true
release-numbers l party register =
    in_order legend_numbers (release_order l party register) (release-order l party register) refl

module _ (kind : ℕ) (file area : List ℕ) where
  pub read-numbers : one_of (read_numbers kind) (read_number (read_file kind file (length area))) ≡ true
  read-numbers =
      cond-eqb Gives kind 1
      (λ e.
      rw e
      (in_order (read_numbers 1) (read_order 1 file area) (read-order 1 file area)
      (cond-elim (λ (tests : List Test). give_only (read_numbers 1) tests ≡ true) (degas_packed file) (λ _. refl) (λ _.
      refl))))
      (λ not1.
      cond-eqb Gives kind 2
      (λ e. rw e (in_order (read_numbers 2) (read_order 2 file area) (read-order 2 file area) refl))
      (λ not2.
      cond-eqb Gives kind 3
      (λ e. rw e (in_order (read_numbers 3) (read_order 3 file area) (read-order 3 file area) refl))
      (λ not3.
      rw (read-order kind file area, outside kind 3 (λ not0. omega arith))
      (unknown-given (ltb (length area) 32000)))))
    where
      Gives : List ℕ → Type 0
      Gives numbers = one_of numbers (read_number (read_file kind file (length area))) ≡ true

module _ (form : ℕ) (p : Picture) (screen out : List ℕ) where
  pub write-numbers : one_of (write_numbers form) (write_number (write_file form p screen (length out))) ≡ true
  write-numbers =
      cond-eqb Gives form 1 (λ e. rw e (known 1 refl)) (λ not1.
      cond-eqb Gives form 2 (λ e. rw e (known 2 refl)) (λ not2.
      cond-eqb Gives form 3 (λ e. rw e (known 3 refl)) (λ not3.
      cond-eqb Gives form 4 (λ e. rw e (known 4 refl)) (λ not4.
      rw (write-order p screen out form, outside form 4 (λ not0. omega arith))
      (unknown-given (ltb (length screen) 32000 || ltb (length out) 32128))))))
    where
      Gives : List ℕ → Type 0
      Gives numbers = one_of numbers (write_number (write_file form p screen (length out))) ≡ true

      known : (f : ℕ) → give_only (write_numbers f) (write_order f p screen out) ≡ true
          → one_of (write_numbers f) (write_number (write_file f p screen (length out))) ≡ true
      known f = in_order (write_numbers f) (write_order f p screen out) (write-order p screen out f)

pub read-plate-numbers : (file plate : List ℕ)
    → one_of read_plate_numbers (body_number (read_plate file (length plate))) ≡ true
read-plate-numbers file plate =
    in_order read_plate_numbers (read_plate_order file plate) (read-plate-order file plate) refl

pub write-plate-numbers : (plate out : List ℕ)
    → one_of write_plate_numbers (write_number (write_plate plate (length out))) ≡ true
write-plate-numbers plate out =
    in_order write_plate_numbers (write_plate_order plate out) (write-plate-order plate out) refl

module _ (file out : List ℕ) where
  pub to-elite-numbers : one_of to_elite_numbers (write_number (convert ToElite file (length out))) ≡ true
  to-elite-numbers =
      let own : List Test = (has_tail file, 2) ∷ (not (eqb (word_at file 0 / 4 % 8192) 0), 17) ∷ [] in
      in_order to_elite_numbers (to_elite_order file out) (to-elite-order file out)
      (cond-elim (λ (tests : List Test). give_only to_elite_numbers (tests ++ own) ≡ true) (degas_packed file)
      (λ _. refl) (λ _. refl))

  pub to-plain-numbers : one_of to_plain_numbers (write_number (convert ToPlain file (length out))) ≡ true
  to-plain-numbers =
      let own : List Test = (not (has_tail file && all_first 32 (λ b. eqb b 0) (last_tail file)), 18) ∷ [] in
      in_order to_plain_numbers (to_plain_order file out) (to-plain-order file out)
      (cond-elim (λ (tests : List Test). give_only to_plain_numbers (tests ++ own) ≡ true) (degas_packed file)
      (λ _. refl) (λ _. refl))
