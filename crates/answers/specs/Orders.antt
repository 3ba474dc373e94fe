-- The order of judging of each operation as the papers give it (document 01, "Order of judging", "Numbers given back";
-- document 02, tickets 1, 4, 7, 8 and 9): a list of tests, each with its refusal number. The papers' numbers stand here
-- a second time; that the contracts' definitions judge in these orders is proved (proofs/Orders.antt).
use Rattle.std.specs.Prelude.{ℕ, ◌+◌, ◌-◌, ◌*◌, ◌/◌, ◌%◌, ◌^◌, Bool, false, not, cond, ◌&&◌, ◌||◌, List, [], ◌∷◌, ◌++◌, length, get_or, take, drop, ltb, leb, eqb}
use Rattle.lists.specs.All.{all_below, all_first}
use Rattle.words.specs.Word.{word_at, words_at}
use Rattle.packbits.specs.Unpack.{progress}
use Rattle.packbits.specs.Rows.{RowsProgress, rows_progress}
use Rattle.raster.specs.declared.Raster.{Raster}
use Rattle.bodies.specs.Packing.{least_body}
use Rattle.tally.specs.declared.Rectangle.{Rectangle}
use Rattle.legend.specs.declared.Legend.{Legend}
use Rattle.picture.specs.declared.Picture.{Picture}
use Rattle.picture.specs.Tables.{tail_at, tail_bytes}
use Rattle.tiny_runs.specs.Expansion.{Expansion, expand}

-- a test, and the number of the refusal where it is the first that holds
abbrev pub Test : Type 0
Test = Bool × ℕ

-- the number of the first test that holds; where none does 0, accepted
abbrev pub first_refusal : List Test → ℕ
first_refusal [] = 0
first_refusal (t ∷ rest) = cond t.0 t.1 (first_refusal rest)

-- ---- document 01, "Three resolutions", by the resolution's number

abbrev pub by_number : ℕ → ℕ → ℕ → ℕ → ℕ
by_number number low medium high = cond (eqb number 0) low (cond (eqb number 1) medium high)

abbrev pub width : ℕ → ℕ
width number = by_number number 320 640 640

abbrev pub height : ℕ → ℕ
height number = by_number number 200 200 400

abbrev pub planes : ℕ → ℕ
planes number = by_number number 4 2 1

abbrev pub row_bytes : ℕ → ℕ
row_bytes number = by_number number 40 80 80

abbrev pub plane_rows : ℕ → ℕ
plane_rows number = by_number number 800 400 400

-- the registers that the planes can name
abbrev pub registers : ℕ → ℕ
registers number = 2 ^ planes number

-- ---- one row

-- "10 (width), 1 (output below 129)"; "rows are 1 to 128 bytes wide"
abbrev pub row_pack_order : List ℕ → List ℕ → List Test
row_pack_order row out = (eqb (length row) 0 || ltb 128 (length row), 10) ∷ (ltb (length out) 129, 1) ∷ []

-- the bytes that the record of control byte x makes, and those that it takes, the control byte included
abbrev pub record_makes : ℕ → ℕ
record_makes x = cond (ltb x 128) (x + 1) (cond (eqb x 128) 0 (257 - x))

abbrev pub record_takes : ℕ → ℕ
record_takes x = cond (ltb x 128) (x + 1 + 1) (cond (eqb x 128) 1 2)

-- one record, with `room` bytes of its row to make: "the row's end is judged before missing input"
abbrev pub record_order : List ℕ → ℕ → List Test
record_order input room =
    (eqb (length input) 0, 6)
    ∷ (ltb room (record_makes (get_or input 0 0)), 7)
    ∷ (ltb (length input) (record_takes (get_or input 0 0)), 6)
    ∷ []

-- a packed row or body: "6 or 7 at the first record at fault"
abbrev pub record_faults : ℕ → List Test → List Test
record_faults fault rest = (eqb fault 6, 6) ∷ (eqb fault 7, 7) ∷ rest

-- "10, 1 (output below the width), then 6 or 7"
abbrev pub row_unpack_order : List ℕ → ℕ → List ℕ → List Test
row_unpack_order packed row_width out =
    (eqb row_width 0 || ltb 128 row_width, 10)
    ∷ (ltb (length out) row_width, 1)
    ∷ record_faults (progress packed row_width).fault []

-- ---- scan lines

-- "1 (screen), 5, 10 (line not below the height), 1 (output below the width)", and then for line in "the same, then"
abbrev pub line_tests : List ℕ → ℕ → ℕ → List ℕ → List Test → List Test
line_tests screen number y line rest =
    (ltb (length screen) 32000, 1)
    ∷ (ltb 2 number, 5)
    ∷ (leb (height number) y, 10)
    ∷ (ltb (length line) (width number), 1)
    ∷ rest

abbrev pub line_out_order : List ℕ → ℕ → ℕ → List ℕ → List Test
line_out_order screen number y out = line_tests screen number y out []

-- "10 for a register not below 2^planes among the first width entries"
abbrev pub line_in_order : List ℕ → ℕ → ℕ → List ℕ → List Test
line_in_order screen number y line =
    line_tests screen number y line
    ((not (all_first (width number) (λ v. ltb v (registers number)) line), 10) ∷ [])

-- ---- colour, tally and pond reading

-- document 02, ticket 4: "machine 1, ST, or 2, STE"
abbrev pub no_machine : ℕ → Bool
no_machine machine = eqb machine 0 || ltb 2 machine

-- "5, 10 (register not below 2^planes)"; "10 for another machine, judged after 5"
abbrev pub colour_order : ℕ → ℕ → ℕ → List Test
colour_order number machine register =
    (ltb 2 number, 5) ∷ (no_machine machine, 10) ∷ (leb (registers number) register, 10) ∷ []

-- "1, 5, 10"; "left plus columns must not exceed the width, nor top plus lines the height"
abbrev pub rectangle_tests : List ℕ → ℕ → Rectangle → List Test → List Test
rectangle_tests screen number a rest =
    (ltb (length screen) 32000, 1)
    ∷ (ltb 2 number, 5)
    ∷ (ltb (width number) (a.left + a.columns), 10)
    ∷ (ltb (height number) (a.top + a.lines), 10)
    ∷ rest

abbrev pub tally_order : List ℕ → ℕ → Rectangle → List Test
tally_order screen number a = rectangle_tests screen number a []

-- "10 for party"; the parties are 1 and 2
abbrev pub no_party : ℕ → Bool
no_party party = eqb party 0 || ltb 2 party

-- "an owner above 2, a confidence above 100 or a free entry not zero", of an entry and of any of 16
abbrev pub wrong_entry : ℕ → ℕ → ℕ → Bool
wrong_entry owner class confidence =
    ltb 2 owner || (ltb 100 confidence || (eqb owner 0 && not (eqb class 0 && eqb confidence 0)))

abbrev pub wrong_legend : Legend → Bool
wrong_legend l =
    not (all_below 16 (λ v. not (wrong_entry (get_or l.owners v 0) (get_or l.classes v 0) (get_or l.confidences v 0))))

-- "1, 5, 10", with "a floor .. above 100", a class of 0 to 255, and party and legend as ticket 8 has them
abbrev pub pond_order : List ℕ → ℕ → Rectangle → ℕ → ℕ → ℕ → Legend → List Test
pond_order screen number a party class floor l =
    rectangle_tests screen number a
    ((no_party party, 10) ∷ (ltb 255 class, 10) ∷ (ltb 100 floor, 10) ∷ (wrong_legend l, 10) ∷ [])

-- ---- the legend

-- "another's entry"
abbrev pub anothers : ℕ → ℕ → Bool
anothers owner party = not (eqb owner 0) && not (eqb owner party)

-- "10 for party, register, class or confidence, or a legend ..; then 19 for another's entry"
abbrev pub set_order : Legend → ℕ → ℕ → ℕ → ℕ → List Test
set_order l party register class confidence =
    (no_party party, 10)
    ∷ (ltb 15 register, 10)
    ∷ (ltb 255 class, 10)
    ∷ (ltb 100 confidence, 10)
    ∷ (wrong_legend l, 10)
    ∷ (anothers (get_or l.owners register 0) party, 19)
    ∷ []

-- "or for the release of a free one"
abbrev pub release_order : Legend → ℕ → ℕ → List Test
release_order l party register =
    (no_party party, 10)
    ∷ (ltb 15 register, 10)
    ∷ (wrong_legend l, 10)
    ∷ (anothers (get_or l.owners register 0) party || eqb (get_or l.owners register 0) 0, 19)
    ∷ []

-- ---- a run of a Tiny file, from its control byte x and the control bytes behind it

-- the words that it makes, and the data words that it takes: 0 is a long repeat, 1 a long literal, 2 to 127 a repeat,
-- 129 to 255 a literal
abbrev pub run_makes : ℕ → List ℕ → ℕ
run_makes x rest = cond (ltb x 2) (word_at rest 0) (cond (ltb x 128) x (256 - x))

abbrev pub run_takes : ℕ → List ℕ → ℕ
run_takes x rest = cond (ltb x 2) (cond (eqb x 0) 1 (word_at rest 0)) (cond (ltb x 128) 1 (256 - x))

-- "12 for a count cut short, 11 for an undefined control or count, 12 for a run past 16,000 words or the data"
abbrev pub run_order : ℕ → List ℕ → ℕ → ℕ → List Test
run_order x rest left room =
    (ltb x 2 && ltb (length rest) 2, 12)
    ∷ (ltb x 2 && (ltb (word_at rest 0) 128 || ltb 32767 (word_at rest 0)), 11)
    ∷ (eqb x 128, 11)
    ∷ (ltb room (run_makes x rest) || ltb left (run_takes x rest), 12)
    ∷ []

-- ---- reading

module _ (file : List ℕ) where
  -- "bits 0-1 are the resolution, bit 15 says packed"
  abbrev pub degas_resolution : ℕ
  degas_resolution = word_at file 0 % 4

  abbrev pub degas_packed : Bool
  degas_packed = eqb (word_at file 0 / 32768 % 2) 1

  -- raw: "32,034 bytes plain, 32,066 with tail; .. any other raw length gets 3"
  abbrev pub raw_tests : List Test
  raw_tests = (not (eqb (length file) 32034 || eqb (length file) 32066), 3) ∷ []

  -- the plane rows of a packed body, which begins at 34
  abbrev pub body_progress : ℕ → RowsProgress
  body_progress number = rows_progress (plane_rows number) (row_bytes number) (drop 34 file)

  -- packed: "at most 32,065. A packed length above that gets 3"; then 6 or 7; "after the body not exactly 32 bytes", 8
  abbrev pub packed_tests : RowsProgress → List Test
  packed_tests p =
      (ltb 32065 (length file), 3)
      ∷ record_faults p.fault ((not (eqb (length file) (34 + p.bytes + 32)), 8) ∷ [])

  -- "3 (DEGAS under 34 ..), 5, 3 (the remaining length rule), then 6 or 7 at the first record at fault, 8"
  abbrev pub degas_tests : List Test
  degas_tests =
      (ltb (length file) 34, 3)
      ∷ (ltb 2 degas_resolution, 5)
      ∷ cond degas_packed (packed_tests (body_progress degas_resolution)) raw_tests

  -- "3 (.. NEO not 32,128), 4, 5"; "flag word 0; resolution word at 2"
  abbrev pub neochrome_tests : List Test
  neochrome_tests =
      (not (eqb (length file) 32128), 3) ∷ (not (eqb (word_at file 0) 0), 4) ∷ (ltb 2 (word_at file 2), 5) ∷ []

  -- Tiny: the resolution byte, above 2 four rotation bytes, 16 palette words, the two counts, the two sections
  abbrev pub rotated : Bool
  rotated = ltb 2 (get_or file 0 0)

  abbrev pub tiny_header : ℕ
  tiny_header = cond rotated 41 37

  abbrev pub control_bytes : ℕ
  control_bytes = word_at file (tiny_header - 4)

  abbrev pub data_words : ℕ
  data_words = word_at file (tiny_header - 2)

  -- the runs of both sections, in a screen of 16,000 words
  abbrev pub tiny_runs : ℕ → ℕ → ℕ → Expansion
  tiny_runs header controls datas =
      expand (take controls (drop header file)) (words_at datas (drop (header + controls) file) 0) 16000

  -- "not what its counts give", 3; "at each control byte 12 .., 11 .., 12 ..; after the last, 13 for data left or words
  -- missing"
  abbrev pub section_tests : ℕ → ℕ → ℕ → List Test
  section_tests header controls datas =
      (not (eqb (length file) (header + (controls + datas * 2))), 3)
      ∷ (eqb (tiny_runs header controls datas).fault 11, 11)
      ∷ (eqb (tiny_runs header controls datas).fault 12, 12)
      ∷ (ltb (tiny_runs header controls datas).datas datas, 13)
      ∷ (ltb (length (tiny_runs header controls datas).made) 16000, 13)
      ∷ []

  -- "3 (under 37 bytes), 5, 3 (under 41 with rotation, or ..)"
  abbrev pub tiny_tests : List Test
  tiny_tests =
      (ltb (length file) 37, 3)
      ∷ (ltb 5 (get_or file 0 0), 5)
      ∷ (rotated && ltb (length file) 41, 3)
      ∷ section_tests tiny_header control_bytes data_words

-- "1 (area below 32,000), 2", then by the kind: 1 DEGAS, 2 NEO, 3 Tiny
abbrev pub read_order : ℕ → List ℕ → List ℕ → List Test
read_order kind file area =
    (ltb (length area) 32000, 1)
    ∷ (eqb kind 0 || ltb 3 kind, 2)
    ∷ cond (eqb kind 1) (degas_tests file) (cond (eqb kind 2) (neochrome_tests file) (tiny_tests file))

-- ---- writing

-- a screen's raster: groups of 16 pixels
abbrev pub raster_at : ℕ → Raster
raster_at number = record { lines = height number; groups = width number / 16; planes = planes number }

-- "1 (screen below 32,000 or output below 32,128), 2, 5, 9"; 9, of form 3: "no packed body below 32,000 exists"
abbrev pub write_order : ℕ → Picture → List ℕ → List ℕ → List Test
write_order form p screen out =
    (ltb (length screen) 32000 || ltb (length out) 32128, 1)
    ∷ (eqb form 0 || ltb 4 form, 2)
    ∷ (ltb 2 p.resolution, 5)
    ∷ (eqb form 3 && leb 32000 (length (least_body (raster_at p.resolution) screen)), 9)
    ∷ []

-- ---- conversions of DEGAS files (document 02, ticket 7)

module _ (file : List ℕ) where
  -- "below 32,128 it gets 1, then reading refusals apply. .. Refusals after those"
  abbrev pub conversion_order : List ℕ → List Test → List Test
  conversion_order out own = (ltb (length out) 32128, 1) ∷ (degas_tests file ++ own)

  -- a packed file has a tail, and of raw ones that of 32,066 bytes: its words stand in the last 32 bytes
  abbrev pub has_tail : Bool
  has_tail = degas_packed file || eqb (length file) 32066

  abbrev pub last_tail : List ℕ
  last_tail = tail_bytes (tail_at file (length file - 32))

  -- "on the way out 2 for a packed file or one with a tail, then 17 for a plain one with those bits set": bits 2 to 14
  abbrev pub to_elite_order : List ℕ → List Test
  to_elite_order out = conversion_order out ((has_tail, 2) ∷ (not (eqb (word_at file 0 / 4 % 8192) 0), 17) ∷ [])

  -- "back, 18 for a tail absent or not all zero"
  abbrev pub to_plain_order : List ℕ → List Test
  to_plain_order out = conversion_order out ((not (has_tail && all_first 32 (λ b. eqb b 0) last_tail), 18) ∷ [])

-- ---- MacPaint plates (document 02, ticket 9)

-- the 720 rows of 72 bytes of a body, which begins at 512
abbrev pub plate_progress : List ℕ → RowsProgress
plate_progress file = rows_progress 720 72 (drop 512 file)

-- the first long: its high word first
abbrev pub first_long : List ℕ → ℕ
first_long file = word_at file 0 * 65536 + word_at file 2

-- "1, 3 (under 512 or above 51,711), 20 version neither 0 nor 2, 6, 7, 8 for bytes left": after the body stand 0 bytes
abbrev pub read_plate_order : List ℕ → List ℕ → List Test
read_plate_order file plate =
    (ltb (length plate) 51840, 1)
    ∷ (ltb (length file) 512 || ltb 51711 (length file), 3)
    ∷ (not (eqb (first_long file) 0 || eqb (first_long file) 2), 20)
    ∷ record_faults (plate_progress file).fault
    ((not (eqb (length file) (512 + (plate_progress file).bytes + 0)), 8) ∷ [])

-- a plate's raster: groups of 16 pixels
abbrev pub plate_at : Raster
plate_at = record { lines = 720; groups = 36; planes = 1 }

-- "1 (output under 51,711 or plate under 51,840), 9"; 9: no packed body below 51,200 exists
abbrev pub write_plate_order : List ℕ → List ℕ → List Test
write_plate_order plate out =
    (ltb (length out) 51711 || ltb (length plate) 51840, 1)
    ∷ (leb 51200 (length (least_body plate_at plate)), 9)
    ∷ []

-- ---- the numbers that an operation can give back

abbrev pub one_of : List ℕ → ℕ → Bool
one_of [] n = false
one_of (m ∷ rest) n = eqb n m || one_of rest n

abbrev pub row_pack_numbers : List ℕ
row_pack_numbers = 0 ∷ 1 ∷ 10 ∷ []

abbrev pub row_unpack_numbers : List ℕ
row_unpack_numbers = 0 ∷ 1 ∷ 6 ∷ 7 ∷ 10 ∷ []

abbrev pub colour_numbers : List ℕ
colour_numbers = 0 ∷ 5 ∷ 10 ∷ []

-- line out, line in, tally and pond reading
abbrev pub screen_numbers : List ℕ
screen_numbers = 0 ∷ 1 ∷ 5 ∷ 10 ∷ []

-- an entry of a legend set or released
abbrev pub legend_numbers : List ℕ
legend_numbers = 0 ∷ 10 ∷ 19 ∷ []

-- a reading of a kind
abbrev pub read_numbers : ℕ → List ℕ
read_numbers kind =
    cond (eqb kind 1) (0 ∷ 1 ∷ 3 ∷ 5 ∷ 6 ∷ 7 ∷ 8 ∷ [])
    (cond (eqb kind 2) (0 ∷ 1 ∷ 3 ∷ 4 ∷ 5 ∷ [])
    (cond (eqb kind 3) (0 ∷ 1 ∷ 3 ∷ 5 ∷ 11 ∷ 12 ∷ 13 ∷ [])
    (1 ∷ 2 ∷ [])))

-- a writing in a form: 9 comes of form 3 alone
abbrev pub write_numbers : ℕ → List ℕ
write_numbers form =
    cond (eqb form 1) (0 ∷ 1 ∷ 5 ∷ [])
    (cond (eqb form 2) (0 ∷ 1 ∷ 5 ∷ [])
    (cond (eqb form 3) (0 ∷ 1 ∷ 5 ∷ 9 ∷ [])
    (cond (eqb form 4) (0 ∷ 1 ∷ 5 ∷ [])
    (1 ∷ 2 ∷ []))))

abbrev pub read_plate_numbers : List ℕ
read_plate_numbers = 0 ∷ 1 ∷ 3 ∷ 6 ∷ 7 ∷ 8 ∷ 20 ∷ []

abbrev pub write_plate_numbers : List ℕ
write_plate_numbers = 0 ∷ 1 ∷ 9 ∷ []

abbrev pub to_elite_numbers : List ℕ
to_elite_numbers = 0 ∷ 1 ∷ 2 ∷ 3 ∷ 5 ∷ 6 ∷ 7 ∷ 8 ∷ 17 ∷ []

abbrev pub to_plain_numbers : List ℕ
to_plain_numbers = 0 ∷ 1 ∷ 3 ∷ 5 ∷ 6 ∷ 7 ∷ 8 ∷ 18 ∷ []
