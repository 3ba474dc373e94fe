-- Demand 1: "Bad input gets the refusal number that document 01 gives for it, and then no byte of any lent area has
-- changed." Which number it is, the contracts' definitions say; here, for each public function, what any refusal leaves
-- and gives. Those of the index, which change no area, are in answers/proofs/IndexRefusals.antt. `report::summarise`
-- has its own law (report/proofs/Summary.antt, `summary-refused`). `unpack::unpack_into` and `unpack::unpack_rows`
-- write what the whole records before a fault make, as their contracts say, and so does `bodies::read_body` into its
-- buffer; the operations above them lend them areas of their own. `words::put_words` refuses nothing.
use Rattle.std.specs.Prelude.{Ok, Err}
use Rattle.outcome.specs.Outcome.{Outcome}
use mathlib.Core.Path.{◌≡◌, refl}
use mathlib.Core.Bool.{false}
use mathlib.Core.List.{List}
use Prim.Native.Nat.{ℕ}
use lib.ListN.{length}
use Rattle.lists.specs.Over.{over}
use Rattle.outcome.proofs.Outcome.{kept}
use Rattle.packbits.specs.Row.{Row}
use Rattle.packbits.specs.Unpack.{unpack_row}
use Rattle.pack.specs.Pack.{pack_row, pack_into}
use Rattle.raster.specs.declared.Raster.{Raster}
use Rattle.raster.specs.PlaneRows.{row_fits, take_row, put_row}
use Rattle.bodies.specs.Packing.{PackedBody, pack_body}
use Rattle.bodies.specs.Reading.{read_into}
use Rattle.bodies.specs.Unpacking.{UnpackedBody}
use Rattle.lines.specs.Lines.{line_out, line_in}
use Rattle.lines.specs.Screens.{screen_out, screen_in}
use Rattle.picture.specs.declared.Picture.{Picture}
use Rattle.picture.specs.Reading.{Reading}
use Rattle.picture.specs.Writing.{Writing}
use Rattle.degas.specs.declared.Form.{Form}
use Rattle.degas.specs.Reading.{read_degas}
use Rattle.degas.specs.Writing.{write_degas}
use Rattle.neochrome.specs.Reading.{read_neochrome}
use Rattle.neochrome.specs.Writing.{write_neochrome}
use Rattle.tiny.specs.Reading.{read_tiny}
use Rattle.macpaint.specs.Reading.{read_plate}
use Rattle.macpaint.specs.Writing.{write_plate}
use Rattle.reader.specs.Reading.{read_file}
use Rattle.writer.specs.Writing.{write_file}
use Rattle.conversion.specs.declared.Conversion.{Conversion}
use Rattle.conversion.specs.Converting.{convert}
use Rattle.demands.specs.Refusals.{Kept, RowRefusal, BodyRefusal, BodyReadRefusal, ReadRefusal, WriteRefusal}

-- ---- any outcome

row-refusal : (o : Outcome Row) (out : List ℕ) → RowRefusal o out
row-refusal (Ok r) out h = absurd (h refl)
row-refusal (Err why) out h = (refl, refl, refl)

body-refusal : (o : Outcome PackedBody) (at : ℕ) (out : List ℕ) → BodyRefusal o at out
body-refusal (Ok b) at out h = absurd (h refl)
body-refusal (Err why) at out h = (refl, refl, refl)

body-read-refusal : (o : Outcome UnpackedBody) (area : List ℕ) → BodyReadRefusal o area
body-read-refusal (Ok u) area h = absurd (h refl)
body-read-refusal (Err why) area h = (refl, refl, refl)

read-refusal : (o : Outcome Reading) (area : List ℕ) → ReadRefusal o area
read-refusal (Ok q) area h = absurd (h refl)
read-refusal (Err why) area h = (refl, refl, refl, refl)

write-refusal : (o : Outcome Writing) (out : List ℕ) → WriteRefusal o out
write-refusal (Ok w) out h = absurd (h refl)
write-refusal (Err why) out h = (refl, refl, refl, refl)

-- ---- each public function

pub read-refused : (kind : ℕ) (file area : List ℕ) → ReadRefusal (read_file kind file (length area)) area
read-refused kind file area = read-refusal (read_file kind file (length area)) area

pub read-degas-refused : (file area : List ℕ) → ReadRefusal (read_degas file (length area)) area
read-degas-refused file area = read-refusal (read_degas file (length area)) area

pub read-neochrome-refused : (file area : List ℕ) → ReadRefusal (read_neochrome file (length area)) area
read-neochrome-refused file area = read-refusal (read_neochrome file (length area)) area

pub read-tiny-refused : (file area : List ℕ) → ReadRefusal (read_tiny file (length area)) area
read-tiny-refused file area = read-refusal (read_tiny file (length area)) area

pub read-plate-refused : (file area : List ℕ) → BodyReadRefusal (read_plate file (length area)) area
read-plate-refused file area = body-read-refusal (read_plate file (length area)) area

pub write-plate-refused : (plate out : List ℕ) → WriteRefusal (write_plate plate (length out)) out
write-plate-refused plate out = write-refusal (write_plate plate (length out)) out

pub write-refused : (form : ℕ) (p : Picture) (screen out : List ℕ)
    → WriteRefusal (write_file form p screen (length out)) out
write-refused form p screen out = write-refusal (write_file form p screen (length out)) out

pub write-degas-refused : (form : Form) (p : Picture) (screen out : List ℕ)
    → WriteRefusal (write_degas form p screen (length out)) out
write-degas-refused form p screen out = write-refusal (write_degas form p screen (length out)) out

pub write-neochrome-refused : (p : Picture) (screen out : List ℕ)
    → WriteRefusal (write_neochrome p screen (length out)) out
write-neochrome-refused p screen out = write-refusal (write_neochrome p screen (length out)) out

pub convert-refused : (to : Conversion) (file out : List ℕ) → WriteRefusal (convert to file (length out)) out
convert-refused to file out = write-refusal (convert to file (length out)) out

pub pack-refused : (row out : List ℕ) → RowRefusal (pack_row row (length out)) out
pack-refused row out = row-refusal (pack_row row (length out)) out

pub unpack-refused : (packed : List ℕ) (width : ℕ) (out : List ℕ) → RowRefusal (unpack_row packed width (length out)) out
unpack-refused packed width out = row-refusal (unpack_row packed width (length out)) out

pub pack-into-refused : (row out : List ℕ) → RowRefusal (pack_into row (length out)) out
pack-into-refused row out = row-refusal (pack_into row (length out)) out

pub pack-body-refused : (area : List ℕ) (r : Raster) (limit at : ℕ) (out : List ℕ)
    → BodyRefusal (pack_body r area limit at (length out)) at out
pack-body-refused area r limit at out = body-refusal (pack_body r area limit at (length out)) at out

pub read-body-refused : (file : List ℕ) (at after : ℕ) (r : Raster) (buffer area : List ℕ)
    → BodyReadRefusal (read_into file at after r (length buffer) (length area)) area
read-body-refused file at after r buffer area =
    body-read-refusal (read_into file at after r (length buffer) (length area)) area

-- these two report nothing: where the row does not fit nothing changes
pub take-row-kept : (area : List ℕ) (r : Raster) (n : ℕ) (row : List ℕ)
    → row_fits (length area) r n (length row) ≡ false → take_row area r n row ≡ row
take-row-kept area r n row h = rw h

pub put-row-kept : (area : List ℕ) (r : Raster) (n : ℕ) (row : List ℕ)
    → row_fits (length area) r n (length row) ≡ false → put_row area r n row ≡ area
put-row-kept area r n row h = rw h

pub line-out-refused : (screen : List ℕ) (number y : ℕ) (out : List ℕ)
    → Kept (line_out screen number y (length out)) (λ l. over l out) out
line-out-refused screen number y out = kept (line_out screen number y (length out)) (λ l. over l out) out

pub line-in-refused : (screen : List ℕ) (number y : ℕ) (line : List ℕ)
    → Kept (line_in screen number y line) (λ s. s) screen
line-in-refused screen number y line = kept (line_in screen number y line) (λ s. s) screen

pub screen-out-refused : (screen : List ℕ) (number : ℕ) (out : List ℕ)
    → Kept (screen_out screen number (length out)) (λ l. over l out) out
screen-out-refused screen number out = kept (screen_out screen number (length out)) (λ l. over l out) out

pub screen-in-refused : (screen : List ℕ) (number : ℕ) (registers : List ℕ)
    → Kept (screen_in screen number registers) (λ s. s) screen
screen-in-refused screen number registers = kept (screen_in screen number registers) (λ s. s) screen
