-- Unpacking rows, or one row, is refused exactly where the relation `Stops` says, and with its numbers.
use Rattle.std.specs.Prelude.{Ok, Err}
use mathlib.Core.Path.{◌≡◌, refl, sym, ap, ap₂, ◌∙◌, subst}
use mathlib.Core.Logic.{◌↔◌, inl, inr}
use Prim.Native.Nat.{ℕ, zero, suc, ◌+◌, ◌-◌, ◌<◌}
use native.Mathlib.Nat.{sub-zero}
use native.Mathlib.Omega.{arith}
use mathlib.Core.Bool.{Bool, true, false, cond}
use mathlib.Core.List.{List, [], ◌∷◌, ◌++◌, append_assoc, append-nil}
use lib.ListN.{length, take, drop, length-append, take-append-drop}
use lib.Seq.{length-take-le, take-add, drop-drop}
use lib.Dec.{ltb, eqb}
use borrow.Author.Tests.{ltb-true, ltb-false, eqb-false, ne_eqb}
use Rattle.lists.specs.Bytes.{Bytes}
use Rattle.lists.proofs.Bytes.{bytes_drop}
use Rattle.outcome.specs.declared.Refusal.{Refusal}
use Rattle.outcome.specs.Outcome.{Outcome, row_refusal, map, bind, placed, refusal_of}
use Rattle.packbits.specs.declared.Record.{Record}
use Rattle.packbits.specs.declared.Record.TheVariants.{Truncated, Crossing}
use Rattle.packbits.specs.Records.{control, packed_len, row_len, row_bytes, fault, record_at}
use Rattle.packbits.specs.Row.{Row, done}
use Rattle.packbits.specs.Unpack.{Progress, stopped, after, progress, row_fault, outcome_of, unpack}
use Rattle.packbits.specs.Rows.{stopped_in, row_step, rows_from, rows_progress, Rows, rows_outcome, unpack_rows}
use Rattle.packbits.specs.Unpacks.{Unpacks}
use Rattle.packbits.specs.UnpacksRows.{none, more}
use Rattle.packbits.specs.WholeRecords.{WholeRecords, no_records, one_more}
use Rattle.packbits.specs.Stops.{AtRecord, Faulty, ended, crosses, truncated, Stops}
use Rattle.packbits.proofs.Records.{control-whole, judged-crossing, judged-truncated, is_whole}
use Rattle.packbits.proofs.Unpack.{progress-fault, by-records, bounded}
use Rattle.packbits.proofs.WholeRecords.{record-front}
use Rattle.packbits.proofs.Exact.{sound}
use Rattle.packbits.proofs.RowsSteps.{with_row, after_row, unpack_rows-suc}
use Rattle.packbits.proofs.RowsAppend.{rows_before, rows_cut}

-- ---- the record at fault

faulty-fault : {input : List ℕ} {room number : ℕ} → Faulty input room number
    → (fault (record_at input room) ≡ number) × (number ≡ 0 → ⊥)
unfolding record_at
faulty-fault ended = (refl, λ e. omega arith)
faulty-fault (crosses {x} {rest} {room} h) =
    (ap fault (judged-crossing (control x) (suc (length rest)) room h), λ e. omega arith)
faulty-fault (truncated {x} {rest} {room} h k) =
    (ap fault (judged-truncated (control x) (suc (length rest)) room h k), λ e. omega arith)

fault-faulty : (input : List ℕ) (room : ℕ) → (fault (record_at input room) ≡ 0 → ⊥)
    → Faulty input room (fault (record_at input room))
unfolding record_at
fault-faulty [] room e = ended
fault-faulty (x ∷ rest) room e =
    go (ltb room (row_len (control x))) (ltb (suc (length rest)) (packed_len (control x))) refl refl e
  where
    go : (b d : Bool) → ltb room (row_len (control x)) ≡ b → ltb (suc (length rest)) (packed_len (control x)) ≡ d
        → (fault (cond b Crossing (cond d Truncated (control x))) ≡ 0 → ⊥)
        → Faulty (x ∷ rest) room (fault (cond b Crossing (cond d Truncated (control x))))
    go true d p q f = crosses (ltb-true _ _ p)
    go false true p q f = truncated (ltb-false _ _ p) (ltb-true _ _ q)
    go false false p q f = absurd (f (control-whole x))

-- a record at fault has one of its numbers
pub faulty-number : {input : List ℕ} {room number : ℕ} → Faulty input room number → AtRecord number
faulty-number ended = inl refl
faulty-number (crosses h) = inr refl
faulty-number (truncated h k) = inl refl

pub progress-faulty : {input : List ℕ} {room number : ℕ} → Faulty input room number → 0 < room
    → progress input room ≡ stopped number
progress-faulty {input} {room} f h =
    let is = faulty-fault f in
    progress-fault input room (record_at input room) refl h (λ e. is.1 (sym is.0 ∙ e)) ∙ ap stopped is.0

-- ---- complete: where the relation stops, so does unpacking

rows-faulty : {rest : List ℕ} {number : ℕ} (m width : ℕ) (begun : List ℕ) → length begun < width
    → Faulty rest (width - length begun) number → rows_from (suc m) width begun rest ≡ stopped_in begun (stopped number)
unfolding rows_from row_step
rows-faulty {rest} {number} m width begun h f =
    rw (progress-faulty f (omega arith), ne_eqb number 0 (faulty-fault f).1, append-nil begun)

-- with anything else in place of the record at fault, the rows and the row under way stand before further progress
pub stops-cut : (n width : ℕ) {input : List ℕ} {why : Refusal} (s : Stops n width input why) (rest : List ℕ)
    → rows_progress n width (s.whole ++ (s.part ++ rest))
    ≡ rows_before s.rows (length s.whole + length s.part) (s.whole_records + s.part_records)
    (rows_from (suc (n - length s.rows - 1)) width s.begun rest)
stops-cut n width s rest =
    let m : ℕ = n - length s.rows - 1 in
    let all : n ≡ length s.rows + suc m = omega (arith, s.more) in
    ap (λ (k : ℕ). rows_progress k width (s.whole ++ (s.part ++ rest))) all
    ∙ rows_cut s.full s.made width s.wide s.under m rest

pub stops-complete : (n width : ℕ) (input : List ℕ) (why : Refusal) → Stops n width input why
    → unpack_rows n width input ≡ Err why
unfolding rows_outcome
stops-complete n width input why s =
    let stop = rows-faulty (n - length s.rows - 1) width s.begun s.under s.faulty in
    let nonzero : why.number ≡ 0 → ⊥ = (faulty-fault s.faulty).1 in
    ap (unpack_rows n width) s.parts
    ∙ rw (stops-cut n width s s.rest, stop, ne_eqb why.number 0 nonzero)
    (ap₂ (λ (k l : ℕ). Err (row_refusal why.number k l (length s.begun))) (omega (arith, s.place))
    (ap length (append-nil s.rows) ∙ sym s.plane_row)
    ∙ ap (λ (k : ℕ). Err (row_refusal why.number why.place why.plane_row k)) (sym s.good_bytes))

-- ---- sound: where unpacking stops, so does the relation

-- whole records, and then one at fault, in a row that is not full
abbrev Stopped : List ℕ → ℕ → Progress → Type 0
Stopped input width p =
    (p.fault ≡ 0 → ⊥) → Bytes input
    → WholeRecords (take p.bytes input) p.made p.records × (length p.made < width)
    × Faulty (drop p.bytes input) (width - length p.made) p.fault

stopped-after : (input : List ℕ) (room : ℕ) → 0 < room → fault (record_at input room) ≡ 0 → (p : Progress)
    → Stopped (drop (packed_len (record_at input room)) input) (room - row_len (record_at input room)) p
    → Stopped input room (after (packed_len (record_at input room)) (row_bytes (record_at input room) input) p)
stopped-after input room h e p s = λ f bytes.
    let r : Record = record_at input room in
    let w = is_whole input room e in
    let left = s f (bytes_drop (packed_len r) input bytes) in
    let long : length (row_bytes r input ++ p.made) ≡ row_len r + length p.made =
    omega (arith, length-append (row_bytes r input) p.made, w.makes) in
    let under : room - length (row_bytes r input ++ p.made) ≡ room - row_len r - length p.made = omega arith in (
      rw (take-add (packed_len r) p.bytes input) (one_more (record-front input room bytes e) left.0),
      omega (arith, w.fits, left.1),
      rw (under, ← drop-drop p.bytes (packed_len r) input) left.2,
    )

all-stopped : (input : List ℕ) (width : ℕ) → Stopped input width (progress input width)
all-stopped =
    by-records Stopped (λ input f. absurd (f refl))
    (λ input room h e f bytes. (no_records, h, rw (sub-zero room) (fault-faulty input room e)))
    stopped-after

-- the first row stops
row-sound : (n width : ℕ) (input : List ℕ) (why : Refusal) → Bytes input → unpack input width ≡ Err why
    → Stops (suc n) width input why
unfolding outcome_of
row-sound n width input why bytes = go (eqb p.fault 0) refl
  where
    p : Progress
    p = progress input width

    stops : (p.fault ≡ 0 → ⊥) → Stops (suc n) width input (row_fault p)
    stops e =
        let s = all-stopped input width e bytes in
        record {
          rows = [];
          begun = p.made;
          whole = [];
          part = take p.bytes input;
          rest = drop p.bytes input;
          whole_records = 0;
          part_records = p.records;
          parts = sym (take-append-drop p.bytes input);
          wide = tt;
          full = none;
          made = s.0;
          more = omega arith;
          under = s.1;
          faulty = s.2;
          place = omega (arith, length-take-le p.bytes input (bounded input width).used);
          plane_row = refl;
          good_bytes = refl;
        }

    go : (b : Bool) → eqb p.fault 0 ≡ b
        → cond b (done p.bytes p.records p.made) (Err (row_fault p)) ≡ Err why
        → Stops (suc n) width input why
    go true q e = let z : ◌≡◌ {A = ℕ} 0 1 = cc in absurd (omega arith)
    go false q e = subst (Stops (suc n) width input) (ap refusal_of e) (stops (eqb-false _ _ q))

-- a whole row before rows that stop
row_before : {body row : List ℕ} {k : ℕ} (n width : ℕ) (input : List ℕ) (why : Refusal) → Unpacks body row k
    → length row ≡ width → Stops n width input why
    → Stops (suc n) width (body ++ input)
    (row_refusal why.number (length body + why.place) (suc why.plane_row) why.good_bytes)
row_before {body} {row} {k} n width input why u w s = record {
  rows = row ∷ s.rows;
  begun = s.begun;
  whole = body ++ s.whole;
  part = s.part;
  rest = s.rest;
  whole_records = k + s.whole_records;
  part_records = s.part_records;
  parts = ap (λ (l : List ℕ). body ++ l) s.parts ∙ sym (append_assoc body s.whole (s.part ++ s.rest));
  wide = (w, s.wide);
  full = more u s.full;
  made = s.made;
  more = omega (arith, s.more);
  under = s.under;
  faulty = s.faulty;
  place = omega (arith, length-append body s.whole, s.place);
  plane_row = ap suc s.plane_row;
  good_bytes = s.good_bytes;
}

abbrev Sound : ℕ → ℕ → List ℕ → Outcome Rows → Type 0
Sound n width input (Ok q) = Unit {0}
Sound n width input (Err why) = Bytes input → Stops n width input why

sound-row : (n width : ℕ) (input : List ℕ) (r : Row) → unpack input width ≡ Ok r → (o : Outcome Rows)
    → Sound n width (drop r.bytes input) o
    → Sound (suc n) width input (map (with_row r) (after_row (placed r.bytes o)))
sound-row n width input r is (Ok q) s = tt
sound-row n width input r is (Err why) s = λ bytes.
    let first = sound input width r.bytes r.records r.made bytes is in
    let left = s (bytes_drop r.bytes input bytes) in
    rw (take-append-drop r.bytes input, length-take-le r.bytes input first.1)
    at (row_before n width (drop r.bytes input) why first.2 first.0 left)

sound-bind : (n width : ℕ) (input : List ℕ) (o : Outcome Row) → unpack input width ≡ o → (next : Row → Outcome Rows)
    → ((r : Row) → Sound n width (drop r.bytes input) (next r))
    → Sound (suc n) width input (bind o (λ r. map (with_row r) (after_row (placed r.bytes (next r)))))
sound-bind n width input (Err why) is next ih = λ bytes. row-sound n width input why bytes is
sound-bind n width input (Ok r) is next ih = sound-row n width input r is (next r) (ih r)

sound-rows : (n width : ℕ) (input : List ℕ) → Sound n width input (unpack_rows n width input)
unfolding rows_from rows_outcome
sound-rows zero width input = tt
sound-rows (suc n) width input =
    rw (unpack_rows-suc n width input)
    (sound-bind n width input (unpack input width) refl (λ r. unpack_rows n width (drop r.bytes input))
    (λ r. sound-rows n width (drop r.bytes input)))

-- ---- exactly

pub stops-exactly : (n width : ℕ) (input : List ℕ) (why : Refusal) → Bytes input
    → (unpack_rows n width input ≡ Err why) ↔ Stops n width input why
stops-exactly n width input why bytes =
    ((λ e. subst (Sound n width input) e (sound-rows n width input) bytes), stops-complete n width input why)

-- one row: no row is whole, so the plane row is 0
one-row : (o : Outcome Row) (input : List ℕ) (width : ℕ) (why : Refusal)
    → bind o (λ r. map (with_row r) (after_row (placed r.bytes (unpack_rows 0 width (drop r.bytes input)))))
    ≡ Err why
    → o ≡ Err why
unfolding rows_from rows_outcome
one-row (Ok r) input width why e = let z : ◌≡◌ {A = ℕ} 0 1 = cc in absurd (omega arith)
one-row (Err other) input width why e = ap (λ (w : Refusal). Err w) (ap refusal_of e)

pub row-stops-exactly : (width : ℕ) (input : List ℕ) (why : Refusal) → Bytes input
    → (unpack input width ≡ Err why) ↔ Stops 1 width input why
row-stops-exactly width input why bytes = (
  row-sound 0 width input why bytes,
  λ s. one-row (unpack input width) input width why
      (sym (unpack_rows-suc 0 width input) ∙ stops-complete 1 width input why s),
)
