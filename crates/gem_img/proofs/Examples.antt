-- Worked examples of each rule of ticket 11, computed.
use Rattle.std.specs.Prelude.{Ok, Err}
use mathlib.Core.Path.{◌≡◌, refl}
use mathlib.Core.List.{List, [], ◌∷◌, ◌++◌}
use Prim.Native.Nat.{ℕ}
use lib.ListN.{replicate}
use Rattle.lists.specs.Repeated.{repeated}
use Rattle.outcome.specs.Outcome.{Outcome, refusal, none}
use Rattle.words.specs.Word.{word_at}
use Rattle.filling.specs.Filling.{fill_within, fill}
use Rattle.gem_img_records.specs.Records.{control, record_at, solid_byte, fault_at}
use Rattle.gem_img_records.specs.Line.{record_step, fill_line}
use Rattle.gem_img.specs.Header.{up_to, in_profile, bytes_per_line}
use Rattle.gem_img.specs.Lines.{run_fault, records_from, times_used, line_step, fill_lines}
use Rattle.gem_img.specs.Reading.{Image, read_lines, read_img, img_answer, img_area}

-- a header of 8 words: version, length in words, planes, pattern length; a pixel is 85 by 86 micrometres
abbrev header : ℕ → ℕ → ℕ → ℕ → ℕ → ℕ → List ℕ
header version words planes pattern width lines =
    0 ∷ version ∷ 0 ∷ words ∷ 0 ∷ planes ∷ 0 ∷ pattern ∷ 0 ∷ 85 ∷ 0 ∷ 86 ∷ 0 ∷ width ∷ 0 ∷ lines ∷ []

-- with patterns of two bytes
abbrev read : ℕ → ℕ → List ℕ → Outcome Image
read width lines body = read_img (header 1 8 1 2 width lines ++ body) 32000

-- refused with this number at this place
abbrev no : ℕ → ℕ → Outcome Image
no number place = Err (refusal number place)

abbrev yes : ℕ → ℕ → List ℕ → Outcome Image
yes width lines bytes = Ok (record { width = width; lines = lines; bytes = bytes })

pub headers : (read_img [] 31999 ≡ no 1 0)
    × (read_img (replicate 15 0) 32000 ≡ no 3 0)
    × (read_img (header 2 9 1 2 8 1) 32000 ≡ no 3 0)
    × (read_img (header 1 7 1 2 8 1 ++ (1 ∷ [])) 32000 ≡ no 21 0)
    × (read_img (header 2 8 1 2 8 1 ++ (1 ∷ [])) 32000 ≡ no 21 0)
    × (read_img (header 1 8 2 2 8 1 ++ (1 ∷ [])) 32000 ≡ no 21 0)
    × (read_img (header 1 8 1 9 8 1 ++ (1 ∷ [])) 32000 ≡ no 21 0)
    × (read_img (header 1 8 1 0 8 1 ++ (1 ∷ [])) 32000 ≡ no 21 0)
    × (read_img (header 1 8 1 2 0 1 ++ (1 ∷ [])) 32000 ≡ no 21 0)
    × (read_img (header 1 8 1 2 8 0 ++ (1 ∷ [])) 32000 ≡ no 21 0)
    × (read_img (header 1 9 1 2 8 1 ++ (5 ∷ 5 ∷ 0x81 ∷ [])) 32000 ≡ yes 8 1 (255 ∷ []))
unfolding read_img read_lines in_profile up_to bytes_per_line word_at fill_lines fill fill_within line_step run_fault records_from
    times_used repeated fill_line record_step fault_at record_at control solid_byte
headers = (refl, refl, refl, refl, refl, refl, refl, refl, refl, refl, refl)

-- the kinds of record, padding bits kept; 12 pixels are two bytes
pub records : (read 80 1 (0 ∷ 2 ∷ 7 ∷ 8 ∷ 0x80 ∷ 1 ∷ 9 ∷ 0x82 ∷ 3 ∷ [])
    ≡ yes 80 1 (7 ∷ 8 ∷ 7 ∷ 8 ∷ 9 ∷ 255 ∷ 255 ∷ 0 ∷ 0 ∷ 0 ∷ []))
    × (read 12 1 (0x80 ∷ 2 ∷ 1 ∷ 0xFF ∷ []) ≡ yes 12 1 (1 ∷ 255 ∷ []))
    × (read 8 1 (0x80 ∷ 0 ∷ 1 ∷ []) ≡ yes 8 1 (0 ∷ []))
    × (read 8 1 (0 ∷ 1 ∷ []) ≡ no 7 16)
    × (read 16 1 (0 ∷ 2 ∷ []) ≡ no 7 16)
    × (read 16 1 (0 ∷ 1 ∷ 7 ∷ []) ≡ no 6 16)
    × (read 8 1 (0x80 ∷ 2 ∷ []) ≡ no 7 16)
    × (read 8 1 (0x80 ∷ []) ≡ no 6 16)
    × (read 16 1 (0x80 ∷ 2 ∷ 1 ∷ []) ≡ no 6 16)
    × (read 16 1 (1 ∷ 2 ∷ []) ≡ no 7 17)
    × (read 16 1 (1 ∷ []) ≡ no 6 17)
    × (read 16 1 (1 ∷ 0 ∷ []) ≡ no 6 17)
unfolding read_img read_lines in_profile up_to bytes_per_line word_at fill_lines fill fill_within line_step run_fault records_from
    times_used repeated fill_line record_step fault_at record_at control solid_byte
records = (refl, refl, refl, refl, refl, refl, refl, refl, refl, refl, refl, refl)

pub scanline-runs : (read 16 3 (0 ∷ 0 ∷ 0xFF ∷ 2 ∷ 0x82 ∷ 2 ∷ [])
    ≡ yes 16 3 (255 ∷ 255 ∷ 255 ∷ 255 ∷ 0 ∷ 0 ∷ []))
    × (read 16 2 (0 ∷ 0 ∷ 0xFF ∷ 2 ∷ 0 ∷ 1 ∷ 5 ∷ 6 ∷ []) ≡ yes 16 2 (5 ∷ 6 ∷ 5 ∷ 6 ∷ []))
    × (read 16 3 (0 ∷ 0 ∷ 0 ∷ []) ≡ no 6 16)
    × (read 16 3 (1 ∷ 0 ∷ 0 ∷ []) ≡ no 6 17)
    × (read 16 3 (0 ∷ 0 ∷ 0xFE ∷ 1 ∷ 2 ∷ []) ≡ no 22 0)
    × (read 16 3 (0 ∷ 0 ∷ 0xFF ∷ 0 ∷ 2 ∷ []) ≡ no 22 0)
    × (read 16 3 (2 ∷ 0 ∷ 0 ∷ 0xFF ∷ 3 ∷ 3 ∷ []) ≡ no 22 0)
    × (read 16 3 (1 ∷ 0 ∷ 0 ∷ 0xFF ∷ 1 ∷ 2 ∷ []) ≡ no 22 0)
    × (read 16 3 (0 ∷ 0 ∷ 0xFF ∷ 1 ∷ 0 ∷ 0 ∷ 0xFF ∷ 1 ∷ 2 ∷ []) ≡ no 22 0)
    × (read 16 1 (0x80 ∷ 0 ∷ 0 ∷ 0 ∷ 0xFF ∷ 1 ∷ 2 ∷ []) ≡ no 22 0)
    × (read 16 2 (2 ∷ 0x80 ∷ 0 ∷ 0 ∷ 0 ∷ 0xFF ∷ 1 ∷ 2 ∷ []) ≡ no 22 0)
unfolding read_img read_lines in_profile up_to bytes_per_line word_at fill_lines fill fill_within line_step run_fault records_from
    times_used repeated fill_line record_step fault_at record_at control solid_byte
scanline-runs = (refl, refl, refl, refl, refl, refl, refl, refl, refl, refl, refl)

-- behind the last line: a literal of no bytes, a scanline run
pub bytes_left : (read 16 1 (2 ∷ 0x80 ∷ 0 ∷ []) ≡ no 8 17) × (read 8 1 (1 ∷ 0 ∷ 0 ∷ 0xFF ∷ 1 ∷ []) ≡ no 8 17)
unfolding read_img read_lines in_profile up_to bytes_per_line word_at fill_lines fill fill_within line_step run_fault records_from
    times_used repeated fill_line record_step fault_at record_at control solid_byte
bytes_left = (refl, refl)

-- the answer, and an area's bytes: three lines of one byte, and the byte behind them
pub answers : (img_answer (read 8 3 (0 ∷ 0 ∷ 0xFF ∷ 3 ∷ 0x81 ∷ [])) ≡ record { refusal = none; width = 8; lines = 3 })
    × (img_area (read 8 3 (0 ∷ 0 ∷ 0xFF ∷ 3 ∷ 0x81 ∷ [])) (1 ∷ 2 ∷ 3 ∷ 4 ∷ []) ≡ 255 ∷ 255 ∷ 255 ∷ 4 ∷ [])
    × (img_answer (read 8 3 (0 ∷ [])) ≡ record { refusal = refusal 6 16; width = 0; lines = 0 })
    × (img_area (read 8 3 (0 ∷ [])) (1 ∷ 2 ∷ 3 ∷ 4 ∷ []) ≡ 1 ∷ 2 ∷ 3 ∷ 4 ∷ [])
unfolding read_img read_lines in_profile up_to bytes_per_line word_at fill_lines fill fill_within line_step run_fault records_from
    times_used repeated fill_line record_step fault_at record_at control solid_byte
answers = (refl, refl, refl, refl)

-- one line of 8 white pixels
pub white-line : read_img (header 1 8 1 2 8 1 ++ (1 ∷ [])) 32000 ≡ yes 8 1 (0 ∷ [])
unfolding read_img read_lines in_profile up_to bytes_per_line word_at fill_lines fill fill_within line_step run_fault records_from
    times_used repeated fill_line record_step fault_at record_at control solid_byte
white-line = refl
