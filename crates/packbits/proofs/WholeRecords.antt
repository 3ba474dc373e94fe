-- Laws of whole records: one at the front of an input, before a row's body, and what several do to `progress`.
use mathlib.Core.Path.{◌≡◌, refl, sym, ap, ◌∙◌}
use Prim.Native.Nat.{ℕ, suc, ◌+◌, ◌-◌, ◌≤◌, ◌<◌}
use native.Mathlib.Nat.{sub-zero}
use native.Mathlib.Numerals.{add-one}
use native.Mathlib.Omega.{arith}
use mathlib.Core.List.{List, [], ◌∷◌, ◌++◌, append_assoc}
use lib.ListN.{length, get_or, take, drop, replicate, length-append, length-replicate}
use lib.Seq.{length-take-le, take_at, drop_at}
use Rattle.lists.specs.Bytes.{Bytes}
use Rattle.packbits.specs.declared.Record.{Record}
use Rattle.packbits.specs.declared.Record.TheVariants.{Literal, Repeat, Nothing}
use Rattle.packbits.specs.Records.{control, packed_len, row_len, row_bytes, fault, record_at}
use Rattle.packbits.specs.Unpack.{Progress, after, progress}
use Rattle.packbits.specs.Unpacks.{Unpacks, literal, repeat, nothing}
use Rattle.packbits.specs.WholeRecords.{OneRecord, literal_record, repeat_record, nothing_record}
use Rattle.packbits.specs.WholeRecords.{WholeRecords, no_records, one_more}
use Rattle.packbits.proofs.Records.{control-literal, control-nothing, control-repeat, by-control}
use Rattle.packbits.proofs.Records.{is_whole, whole-record, whole-control, no_record}
use Rattle.packbits.proofs.Unpack.{progress-whole}

-- ---- the record at the front of an input

one-literal : (x : ℕ) (tail : List ℕ) → x < 128 → x + 1 + 1 ≤ suc (length tail)
    → OneRecord (take (x + 1 + 1) (x ∷ tail)) (take (x + 1) tail)
one-literal x tail h has = rw (add-one (x + 1)) (literal_record h (length-take-le (x + 1) tail (omega arith)))

one-repeat : (x : ℕ) (tail : List ℕ) → 128 < x → x < 256 → 2 ≤ suc (length tail)
    → OneRecord (take 2 (x ∷ tail)) (replicate (257 - x) (get_or tail 0 0))
one-repeat x [] h g has = absurd (omega arith)
one-repeat x (y ∷ tail) h g has = repeat_record h g

one-control : (x : ℕ) (tail : List ℕ) → x < 256 → packed_len (control x) ≤ suc (length tail)
    → OneRecord (take (packed_len (control x)) (x ∷ tail)) (row_bytes (control x) (x ∷ tail))
one-control x tail g =
    by-control x (λ h. rw (control-literal x h) (one-literal x tail h))
    (λ h. rw (h, control-nothing) (λ has. nothing_record)) (λ h. rw (control-repeat x h) (one-repeat x tail h g))

-- one that is not at fault is whole
pub record-front : (input : List ℕ) (room : ℕ) → Bytes input → fault (record_at input room) ≡ 0
    → OneRecord (take (packed_len (record_at input room)) input) (row_bytes (record_at input room) input)
record-front [] room bytes e = absurd (no_record room e)
record-front (x ∷ tail) room bytes e =
    let has = (is_whole (x ∷ tail) room e).has in
    rw (whole-control x tail room e) (one-control x tail (bytes 0) (rw (whole-control x tail room e) at has))

-- ---- one record before a row's body

nothing-before : (body row : List ℕ) (n : ℕ) → 0 < length row → Unpacks body row n → Unpacks (128 ∷ body) row (suc n)
nothing-before body [] n h u = absurd (omega arith)
nothing-before body (b ∷ row) n h u = nothing u

pub unpacks-before : {one bytes body row : List ℕ} {n : ℕ} → OneRecord one bytes → 0 < length (bytes ++ row)
    → Unpacks body row n → Unpacks (one ++ body) (bytes ++ row) (suc n)
unpacks-before (literal_record {x} {bytes} h l) some u = literal bytes h l u
unpacks-before (repeat_record h g) some u = repeat h g u
unpacks-before {body = body} {row} {n} nothing_record some u = nothing-before body row n some u

-- ---- progress over one record

-- record r of control byte x and these data bytes, before a rest
module _ (r : Record) (x : ℕ) (datas bytes rest : List ℕ) (room : ℕ) (is : r ≡ control x) (ok : fault r ≡ 0)
    (takes : packed_len r ≡ suc (length datas)) (makes : row_len r ≡ length bytes)
    (made : row_bytes r (x ∷ datas ++ rest) ≡ bytes) (some : 0 < room) (fits : length bytes ≤ room) where
  progress-record : progress (x ∷ datas ++ rest) room
      ≡ after (suc (length datas)) bytes (progress rest (room - length bytes))
  progress-record =
      let left : drop (packed_len r) (x ∷ datas ++ rest) ≡ rest = rw takes (drop_at datas rest (length datas) refl) in
      let long : length (x ∷ datas ++ rest) ≡ suc (length datas + length rest) =
      ap suc (length-append datas rest) in
      progress-whole (x ∷ datas ++ rest) room r
      (sym (whole-record x (datas ++ rest) room r is (omega arith) (omega (arith, long)))) some ok
      ∙ rw (made, left, takes, makes)

pub progress-one : {one bytes : List ℕ} → OneRecord one bytes → (rest : List ℕ) (room : ℕ) → 0 < room
    → length bytes ≤ room
    → progress (one ++ rest) room ≡ after (length one) bytes (progress rest (room - length bytes))
progress-one (literal_record {x} {bytes} h l) rest room some fits =
    progress-record (Literal (x + 1)) x bytes bytes rest room (sym (control-literal x h)) refl (omega arith) (sym l)
    (take_at bytes rest (x + 1) l) some fits
progress-one (repeat_record {x} {byte} h g) rest room some fits =
    progress-record (Repeat (257 - x)) x (byte ∷ []) (replicate (257 - x) byte) rest room (sym (control-repeat x h))
    refl refl (sym (length-replicate (257 - x) byte)) refl some fits
progress-one nothing_record rest room some fits =
    progress-record Nothing 128 [] [] rest room (sym control-nothing) refl refl refl refl some fits

-- ---- progress over several records, which leave the row under way

-- n whole records of `bytes` packed bytes, which make these bytes of the row, before further progress
abbrev pub records_before : ℕ → ℕ → List ℕ → Progress → Progress
records_before bytes n made p =
    record { bytes = bytes + p.bytes; records = n + p.records; made = made ++ p.made; fault = p.fault }

after-before : (a b n : ℕ) (bytes made : List ℕ) (p : Progress)
    → after a bytes (records_before b n made p) ≡ records_before (a + b) (suc n) (bytes ++ made) p
after-before a b n bytes made p =
    let used : a + (b + p.bytes) ≡ a + b + p.bytes = omega arith in
    let count : suc (n + p.records) ≡ suc n + p.records = omega arith in
    rw (used, count, append_assoc bytes made p.made)

-- the records, and then progress over the rest from there
pub progress-append : {part begun : List ℕ} {n : ℕ} → WholeRecords part begun n → (rest : List ℕ) (width : ℕ)
    → length begun < width
    → progress (part ++ rest) width ≡ records_before (length part) n begun (progress rest (width - length begun))
progress-append no_records rest width h =
    let used : 0 + (progress rest width).bytes ≡ (progress rest width).bytes = omega arith in
    let count : 0 + (progress rest width).records ≡ (progress rest width).records = omega arith in
    rw (sub-zero width, used, count)
progress-append (one_more {one} {bytes} {packed} {made} {n} o rs) rest width h =
    let room : width - length bytes - length made ≡ width - length (bytes ++ made) =
    omega (arith, length-append bytes made) in
    ap (λ (l : List ℕ). progress l width) (append_assoc one packed rest)
    ∙ progress-one o (packed ++ rest) width (omega arith) (omega (arith, length-append bytes made))
    ∙ ap (after (length one) bytes)
    (progress-append rs rest (width - length bytes) (omega (arith, length-append bytes made)))
    ∙ after-before (length one) (length packed) n bytes made (progress rest (width - length bytes - length made))
    ∙ rw (room, length-append one packed)
