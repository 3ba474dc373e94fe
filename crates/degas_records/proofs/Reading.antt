-- The record list and the whole reading (document 02, ticket 13): step k over a file is `listed file k`; the end is the
-- reading's; the records are as many as the reading reports, and make its screen.
use Rattle.std.specs.Prelude.{Ok, Err, None}
use mathlib.Core.Path.{◌≡◌, refl, sym, ap, ◌∙◌, subst}
use Prim.Native.Nat.{ℕ, ◌+◌, ◌≤◌}
use native.Mathlib.Nat.{zero-add}
use native.Mathlib.Omega.{arith}
use mathlib.Core.Bool.{Bool, true, false, cond, not}
use mathlib.Core.List.{List}
use lib.ListN.{length, drop}
use lib.Dec.{ltb, eqb}
use borrow.Author.Tests.{ltb-true, ltb-false, eqb-true}
use Rattle.lists.specs.Tabulate.{tabulate}
use Rattle.lists.proofs.Cond.{cond-elim, cond-ltb}
use Rattle.outcome.specs.declared.Refusal.{Refusal}
use Rattle.outcome.specs.Outcome.{Outcome, refuse, refusal, row_refusal, refuse_if, map, bind}
use Rattle.outcome.specs.Outcome.{placed, Judged}
use Rattle.outcome.specs.Refusal.{unknown_kind, wrong_tail}
use Rattle.outcome.proofs.Outcome.{passed}
use Rattle.packbits.specs.Rows.{RowsProgress, rows_progress, done_rows, rows_fault, rows_outcome}
use Rattle.packbits.proofs.RowsBounds.{rows-reached}
use Rattle.raster.specs.PlaneRows.{image_of}
use Rattle.resolution.specs.declared.Resolution.{Resolution}
use Rattle.resolution.specs.Shapes.{screen_bytes, row_bytes_of, plane_rows_of, raster_of}
use Rattle.resolution.proofs.Choice.{with_resolution-elim}
use Rattle.resolution.proofs.Rasters.{raster-row_bytes, raster-rows}
use Rattle.picture.specs.Reading.{Reading}
use Rattle.bodies.specs.Unpacking.{UnpackedBody, body_of}
use Rattle.bodies.specs.Reading.{judge_end, read_body}
use Rattle.degas.specs.declared.Header.{Header}
use Rattle.degas.specs.Layout.{header_length, tail_length, packed_most}
use Rattle.degas.specs.Opening.{resolution_number, is_packed, opening}
use Rattle.degas.specs.Reading.{packed_reading, read_packed, read_opened, read_degas}
use Rattle.degas.proofs.Opening.{header_of, opening-short}
use Rattle.degas.proofs.ReadDegas.{packed-long, packed-short, read_fits}
use Rattle.degas_records.specs.Listing.{Found}
use Rattle.degas_records.specs.declared.RecordCursor.{RecordCursor}
use Rattle.degas_records.specs.Opening.{judge_packed, packed_opening}
use Rattle.degas_records.specs.Listing.{cursor_at, records_from, opened_records, file_records}
use Rattle.degas_records.specs.Listing.{read_as_packed, end_of, record_or, listed}
use Rattle.degas_records.specs.BodyRecords.{row_made, screen_made, Unpacking, ListsReading}
use Rattle.degas_records.specs.Steps.{end_at, steps}
use Rattle.degas_records.specs.Answers.{cursor_answer}
use Rattle.degas_records.proofs.Listing.{stop_found, row-some, rows-steps}
use Rattle.degas_records.proofs.Steps.{stepped-refused, steps-stay}
use Rattle.degas_records.proofs.Unpacking.{unpacking}

-- ---- the opening is the reading's, but for 2

-- what the reading comes to after the opening
abbrev Opened : List ℕ → Outcome Resolution → Type 0
Opened file (Ok r) =
    (read_as_packed file ≡ map (packed_reading file r) (read_body file header_length tail_length (raster_of r)))
    × (header_length ≤ length file)
Opened file (Err why) = read_as_packed file ≡ Err why

not-true : (b : Bool) → not b ≡ false → b ≡ true
not-true true e = refl
not-true false e = let z : ◌≡◌ {A = ℕ} 0 1 = cc in absurd (omega arith)

-- the header of a file of a header's length at least
opened-header : (file : List ℕ) (h : Header) → opening file ≡ Ok h → header_length ≤ length file
    → Opened file (judge_packed (length file) h)
opened-header file h is long =
    cond-elim (Opened file) (not h.packed)
    (λ raw. read raw)
    (λ packed. cond-ltb (Opened file) packed_most (length file)
    (λ over. whole packed ∙ packed-long file h.resolution over)
    (λ short. (whole packed ∙ packed-short file h.resolution short, long)))
  where
    read : not h.packed ≡ true → read_as_packed file ≡ refuse unknown_kind
    read raw = rw (is, raw)

    whole : not h.packed ≡ false → read_as_packed file ≡ read_packed file h.resolution
    whole packed = rw (is, packed, not-true h.packed packed)

opened-long : (file : List ℕ) (h : Header) → opening file ≡ Ok h → header_length ≤ length file
opened-long file h is = go (ltb (length file) header_length) refl
  where
    go : (b : Bool) → ltb (length file) header_length ≡ b → header_length ≤ length file
    go true q =
        let short = opening-short file (ltb-true (length file) header_length q) in
        let z : ◌≡◌ {A = ℕ} 0 1 = cc in absurd (omega arith)
    go false q = ltb-false _ _ q

opened : (file : List ℕ) → Opened file (packed_opening file)
unfolding packed_opening
opened file = go (opening file) refl
  where
    go : (o : Outcome Header) → opening file ≡ o → Opened file (bind o (judge_packed (length file)))
    go (Ok h) is = opened-header file h is (opened-long file h is)
    go (Err why) is = rw is

-- a refused opening is the reading's refusal, or 2 of a file that is not packed
pub refused-as-read : (file : List ℕ) (why : Refusal) → packed_opening file ≡ Err why
    → read_as_packed file ≡ Err why
refused-as-read file why is = subst (Opened file) is (opened file)

-- an opened file is packed where bit 15 of its first word says so
opened-mark : (file : List ℕ) → Judged (λ h. h.packed ≡ is_packed file) (opening file)
unfolding opening
opened-mark file =
    let Q : Outcome Header → Type 0 = Judged (λ h. h.packed ≡ is_packed file) in
    cond-ltb Q (length file) header_length (λ _ n. omega arith)
    (λ _. with_resolution-elim Q (resolution_number file) (λ r. Ok (header_of file r)) (λ n. omega arith) (λ r e.
    refl))

-- of a packed file it is the whole reading's outcome, into an area of the stated size
pub packed-as-read : (file : List ℕ) → is_packed file ≡ true → read_as_packed file ≡ read_degas file screen_bytes
packed-as-read file mark = go (opening file) (opened-mark file) ∙ sym (read_fits file screen_bytes (omega arith))
  where
    go : (o : Outcome Header) → Judged (λ h. h.packed ≡ is_packed file) o
        → bind o (λ h. refuse_if (not h.packed) unknown_kind (read_opened file h)) ≡ bind o (read_opened file)
    go (Ok h) same = rw (same ∙ mark)
    go (Err why) same = refl

-- an opened file is packed
pub opened_packed : (file : List ℕ) (r : Resolution) → packed_opening file ≡ Ok r → is_packed file ≡ true
unfolding packed_opening
opened_packed file r = go (opening file) (opened-mark file)
  where
    go : (o : Outcome Header) → Judged (λ h. h.packed ≡ is_packed file) o
        → bind o (judge_packed (length file)) ≡ Ok r → is_packed file ≡ true
    go (Ok h) same e = sym same ∙ not-true h.packed (passed (not h.packed) unknown_kind _ r e).0
    go (Err why) same e = let z : ◌≡◌ {A = ℕ} 0 1 = cc in absurd (omega arith)

-- a file that is not packed gets 2 where no refusal of the opening comes before
pub raw-refused : (file : List ℕ) → is_packed file ≡ false
    → read_as_packed file ≡ bind (opening file) (λ _. refuse unknown_kind)
raw-refused file mark = go (opening file) (opened-mark file)
  where
    go : (o : Outcome Header) → Judged (λ h. h.packed ≡ is_packed file) o
        → bind o (λ h. refuse_if (not h.packed) unknown_kind (read_opened file h)) ≡ bind o (λ _. refuse unknown_kind)
    go (Ok h) same = rw (same ∙ mark)
    go (Err why) same = refl

-- ---- where the rows stop, the reading does

module _ (file : List ℕ) (r : Resolution) where
  abbrev p : RowsProgress
  p = rows_progress (plane_rows_of r) (row_bytes_of r) (drop header_length file)

  abbrev read_rows : Outcome Reading
  read_rows = map (packed_reading file r) (read_body file header_length tail_length (raster_of r))

  -- the reading of rows that came so far
  abbrev read_from : Bool → Outcome Reading
  read_from b =
      map (packed_reading file r)
      (bind (map (body_of (raster_of r)) (placed header_length (cond b (done_rows p.bytes p.records p.rows)
      (Err (rows_fault p)))))
      (judge_end file header_length tail_length))

  read-rows : read_rows ≡ read_from (eqb p.fault 0)
  unfolding read_body rows_outcome
  read-rows = rw (raster-row_bytes r, raster-rows r)

  end-judged : (b : Bool) → end_of (read_from b)
      ≡ cond b (end_at (length file) (header_length + p.bytes))
      (Err (row_refusal p.fault (header_length + p.bytes) (0 + length p.rows) (length p.begun)))
  unfolding end_at
  end-judged true = go (eqb (length file) (header_length + p.bytes + tail_length))
    where
      u : UnpackedBody
      u = body_of (raster_of r) (record { bytes = p.bytes; records = p.records; rows = p.rows })

      go : (b : Bool)
          → end_of (map (packed_reading file r) (cond b (Ok u) (Err (refusal wrong_tail (header_length + p.bytes)))))
          ≡ cond b (Ok None) (Err (refusal wrong_tail (header_length + p.bytes)))
      go true = refl
      go false = refl
  end-judged false = rw (zero-add (length p.rows))

  stops-as-read : end_of read_rows ≡ stop_found (length file) header_length 0 p
  stops-as-read = ap end_of read-rows ∙ end-judged (eqb p.fault 0)

-- ---- the steps over a file, from the cursor of its opening

from-opening : (file : List ℕ) (o : Outcome Resolution) → packed_opening file ≡ o → Opened file o → (k : ℕ)
    → steps file (cursor_answer o).cursor k ≡ record_or (end_of (read_as_packed file)) (opened_records file o) k
from-opening file (Ok r) is read k =
    rows-steps file r is read.1 k
    ∙ ap (λ (end : Found). record_or end (opened_records file (Ok r)) k)
    (sym (ap end_of read.0 ∙ stops-as-read file r))
from-opening file (Err why) is read k =
    steps-stay file (cursor_at 0 0 0) (Err why) (stepped-refused file (cursor_at 0 0 0) why is) k
    ∙ sym (ap end_of read)

pub steps-listed : (file : List ℕ) (k : ℕ) → steps file (cursor_answer (packed_opening file)).cursor k ≡ listed file k
unfolding listed
steps-listed file = from-opening file (packed_opening file) refl (opened file)

-- after a refused opening each step gives that refusal, from whatever cursor
pub refused-always : (file : List ℕ) (why : Refusal) → packed_opening file ≡ Err why → (c : RecordCursor) (k : ℕ)
    → steps file c k ≡ Err why
refused-always file why is c = steps-stay file c (Err why) (stepped-refused file c why is)

-- ---- what the records of a file make

module _ (file : List ℕ) (r : Resolution) (is : packed_opening file ≡ Ok r) where
  -- the records of the file, and how far unpacking its rows comes
  records-are : file_records file ≡ records_from file (plane_rows_of r) (row_bytes_of r) (cursor_at header_length 0 0)
  records-are = rw is

  pub file-unpacking : Unpacking file (row_bytes_of r) header_length (file_records file) (p file r)
  file-unpacking = rw records-are (unpacking file (plane_rows_of r) (row_bytes_of r) header_length (row-some r))

  same-screen : (p file r).fault ≡ 0 → image_of (raster_of r) (p file r).rows ≡ screen_made file r (file_records file)
  same-screen e =
      let u = file-unpacking in
      let full = (rows-reached (plane_rows_of r) (row_bytes_of r) (drop header_length file)).full e in
      ap (image_of (raster_of r)) (u.rows ∙ ap (λ (n : ℕ). tabulate n (row_made file (file_records file))) full)

  lists-from : (b : Bool) → eqb (p file r).fault 0 ≡ b → ListsReading file r (file_records file) (read_from file r b)
  lists-from true e =
      let u = file-unpacking in
      cond-elim (λ (o : Outcome UnpackedBody). ListsReading file r (file_records file) (map (packed_reading file r) o))
      (eqb (length file) (header_length + (p file r).bytes + tail_length))
      (λ _. record {
        as_many = u.counted;
        same-screen = same-screen (eqb-true _ _ e);
        whole-body = u.up_to;
      })
      (λ _. u.up_to)
  lists-from false e = file-unpacking.up_to

  pub records-as-read : ListsReading file r (file_records file) (read_as_packed file)
  records-as-read =
      let read : Opened file (Ok r) = subst (Opened file) is (opened file) in
      rw (read.0 ∙ read-rows file r) (lists-from (eqb (p file r).fault 0) refl)
