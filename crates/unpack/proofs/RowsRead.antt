-- Rows read row by row or record by record: the laws of `RowsRead`, the invariant of the loops that read them.
use mathlib.Core.Path.{◌≡◌, refl, sym, ap, ap₂, ◌∙◌, subst}
use Prim.Native.Nat.{ℕ, zero, suc, ◌+◌, ◌*◌, ◌-◌, ◌≤◌, ◌<◌, min}
use native.Mathlib.Nat.{add-zero, zero-mul, add-mul, one-mul, suc-mul, min-le_left}
use native.Mathlib.Omega.{arith}
use mathlib.Core.List.{List, [], ◌∷◌, ◌++◌, flatten, append_assoc, append-nil}
use lib.ListN.{length, take, drop, length-append, length-drop, length-take}
use lib.Seq.{append_snoc, drop-drop, take-take, take-append_seam}
use Rattle.packbits.specs.declared.Record.{Record}
use Rattle.packbits.specs.Records.{packed_len, row_len, row_bytes, fault, record_at}
use Rattle.packbits.specs.Rows.{RowsProgress, no_rows, stopped_in, row_before, rows_from, rows_progress}
use Rattle.packbits.specs.Unpack.{Progress, stopped, progress}
use Rattle.packbits.proofs.Records.{WholeAt, whole-at}
use Rattle.packbits.proofs.RowsFrom.{record_before, from-full, from-stopped, from-record}
use Rattle.packbits.proofs.Unpack.{progress-full, bounded}
use Rattle.unpack.specs.Rows.{RowsRead, Begins}

flatten-row : (rows : List (List ℕ)) (row : List ℕ) → flatten (rows ++ (row ∷ [])) ≡ flatten rows ++ row
unfolding flatten
flatten-row [] row = append-nil row
flatten-row (first ∷ rows) row =
    ap (λ (l : List ℕ). first ++ l) (flatten-row rows row) ∙ sym (append_assoc first (flatten rows) row)

suc-of : (n : ℕ) → 0 < n → (m : ℕ) × (n ≡ suc m)
suc-of zero h = absurd (omega arith)
suc-of (suc m) h = (m, refl)

-- nothing is read
pub read_none : (file : List ℕ) (at rows width : ℕ) (out : List ℕ) → RowsRead file at rows width out at 0 width 0
unfolding flatten
read_none file at rows width out = record {
  full = [];
  begun = [];
  more = rows;
  count = omega arith;
  row = omega arith;
  place = omega (arith, zero-mul width);
  written = refl;
  ends = refl;
  last = refl;
  fault = refl;
  bytes = refl;
  total = omega arith;
  counted = omega arith;
  inside = omega arith;
}

module _ {file : List ℕ} {at rows width : ℕ} {out : List ℕ} {from to room records : ℕ}
    (s : RowsRead file at rows width out from to room records) where
  abbrev whole : RowsProgress
  whole = rows_progress rows width (drop at file)

  abbrev left : RowsProgress
  left = rows_from s.more width s.begun (drop from file)

  -- the rest of the row under way
  abbrev p : Progress
  p = progress (drop from file) room

  room-is : width - length s.begun ≡ room
  room-is = omega (arith, s.row)

  rest-is : progress (drop from file) (width - length s.begun) ≡ p
  rest-is = ap (progress (drop from file)) room-is

  -- before the end a row is not full
  pub some_more : to < rows * width → 0 < s.more
  some_more h = go s.more s.count
    where
      go : (m : ℕ) → length s.full + m ≡ rows → 0 < m
      go zero e =
          let all : length s.full * width ≡ rows * width =
          ap (λ (k : ℕ). k * width) (sym (add-zero (length s.full)) ∙ e) in
          absurd (omega (arith, s.place))
      go (suc m) e = omega arith

  -- and the row under way ends before it
  pub row_within : to < rows * width → to + room ≤ rows * width
  row_within h =
      let m = suc-of s.more (some_more h) in
      let all : length s.full * width + (width + m.0 * width) ≡ rows * width =
      omega (arith, add-mul (length s.full) (suc m.0) width, suc-mul m.0 width)
      ∙ ap (λ (k : ℕ). k * width) (ap (λ (k : ℕ). length s.full + k) (sym m.1) ∙ s.count) in
      omega (arith, s.place, s.row)

  -- the full rows stand at the front, also once what follows has changed
  pub begins : (next : List ℕ) → take to next ≡ take to out → Begins (flatten s.full) next
  begins next same =
      let is : take to next ≡ flatten s.full ++ s.begun = same ∙ s.written in
      let n : length (flatten s.full) + length s.begun ≡ min to (length next) =
      sym (length-append (flatten s.full) s.begun) ∙ sym (ap length is) ∙ length-take to next in
      sym (take-take (length (flatten s.full)) to next (omega (arith, min-le_left to (length next))))
      ∙ ap (take (length (flatten s.full))) is
      ∙ take-append_seam (flatten s.full) s.begun

  -- ---- the row under way

  module _ (m : ℕ) (one : s.more ≡ suc m) where
    left_as : rows_from (suc m) width s.begun (drop from file) ≡ left
    left_as = ap (λ (n : ℕ). rows_from n width s.begun (drop from file)) (sym one)

    left-full : p.fault ≡ 0
        → left ≡ row_before (s.begun ++ p.made) p (rows_from m width [] (drop (from + p.bytes) file))
    left-full ok =
        sym left_as
        ∙ from-full m width s.begun (drop from file) (ap (λ (q : Progress). q.fault) rest-is ∙ ok)
        ∙ ap (λ (q : Progress). row_before (s.begun ++ q.made) q
        (rows_from m width [] (drop q.bytes (drop from file)))) rest-is
        ∙ ap (λ (l : List ℕ). row_before (s.begun ++ p.made) p (rows_from m width [] l))
        (drop-drop p.bytes from file)

    left-stopped : (p.fault ≡ 0 → ⊥) → left ≡ stopped_in (s.begun ++ p.made) p
    left-stopped bad =
        sym left_as
        ∙ from-stopped m width s.begun (drop from file)
        (λ e. bad (sym (ap (λ (q : Progress). q.fault) rest-is) ∙ e))
        ∙ ap (λ (q : Progress). stopped_in (s.begun ++ q.made) q) rest-is

    -- it is full: one row more is read
    read-full : p.fault ≡ 0 → (next : List ℕ) → take (to + room) next ≡ take to out ++ p.made
        → RowsRead file at rows width next (from + p.bytes) (to + room) width (records + p.records)
    read-full ok next e =
        let b = bounded (drop from file) room in
        let row : List ℕ = s.begun ++ p.made in
        let is = left-full ok in
        let one_more = length-append s.full (row ∷ []) in
        record {
          full = s.full ++ (row ∷ []);
          begun = [];
          more = m;
          count = omega (arith, s.count, one, one_more);
          row = omega arith;
          place = omega (
            arith,
            s.place,
            s.row,
            ap (λ (k : ℕ). k * width) one_more,
            add-mul (length s.full) 1
                width,
            one-mul width,
          );
          written =
              e
              ∙ ap (λ (l : List ℕ). l ++ p.made) s.written
              ∙ append_assoc (flatten s.full) s.begun p.made
              ∙ sym (flatten-row s.full row)
              ∙ sym (append-nil (flatten (s.full ++ (row ∷ []))));
          ends =
              s.ends
              ∙ ap (λ (q : RowsProgress). s.full ++ q.rows) is
              ∙ sym (append_snoc s.full row _);
          last = s.last ∙ ap (λ (q : RowsProgress). q.begun) is;
          fault = s.fault ∙ ap (λ (q : RowsProgress). q.fault) is;
          bytes = omega (arith, s.bytes, ap (λ (q : RowsProgress). q.bytes) is);
          total = omega (arith, s.total, ap (λ (q : RowsProgress). q.records) is);
          counted = omega (arith, s.counted, b.counted);
          inside = omega (arith, s.inside, b.used, length-drop from file);
        }

  pub row-turn : to < rows * width → p.fault ≡ 0 → (next : List ℕ) → take (to + room) next ≡ take to out ++ p.made
      → RowsRead file at rows width next (from + p.bytes) (to + room) width (records + p.records)
  row-turn h = let m = suc-of s.more (some_more h) in read-full m.0 m.1

  -- it stopped: no more rows are whole
  pub row-stop : to < rows * width → (p.fault ≡ 0 → ⊥)
      → (whole.rows ≡ s.full) × (whole.begun ≡ s.begun ++ p.made) × (whole.fault ≡ p.fault)
      × (at + whole.bytes ≡ from + p.bytes)
  row-stop h bad =
      let m = suc-of s.more (some_more h) in
      let is = left-stopped m.0 m.1 bad in (
        s.ends ∙ ap (λ (q : RowsProgress). s.full ++ q.rows) is ∙ append-nil s.full,
        s.last ∙ ap (λ (q : RowsProgress). q.begun) is,
        s.fault ∙ ap (λ (q : RowsProgress). q.fault) is,
        omega (arith, s.bytes, ap (λ (q : RowsProgress). q.bytes) is),
      )

  -- it lacks no byte
  pub row-full : to < rows * width → room ≡ 0 → RowsRead file at rows width out from to width records
  row-full h none =
      let empty : p ≡ stopped 0 = ap (progress (drop from file)) none ∙ progress-full (drop from file) in
      let no_bytes : from + p.bytes ≡ from = omega (arith, ap (λ (q : Progress). q.bytes) empty) in
      let no-records : records + p.records ≡ records = omega (arith, ap (λ (q : Progress). q.records) empty) in
      let no_room : to + room ≡ to = omega arith in
      let same : take (to + room) out ≡ take to out ++ p.made =
      ap (λ (k : ℕ). take k out) no_room
      ∙ sym (append-nil (take to out))
      ∙ ap (λ (q : Progress). take to out ++ q.made) (sym empty) in
      subst (λ (k : ℕ). RowsRead file at rows width out from to width k) no-records
      (subst (λ (k : ℕ). RowsRead file at rows width out from k width (records + p.records)) no_room
      (subst (λ (k : ℕ). RowsRead file at rows width out k (to + room) width (records + p.records)) no_bytes
      (row-turn h (ap (λ (q : Progress). q.fault) empty) out same)))

  -- ---- the next record

  module _ (r : Record) (is : r ≡ record_at (drop from file) room) (h : to < rows * width) (under : 0 < room)
      (ok : fault r ≡ 0) where
    abbrev piece : List ℕ
    piece = row_bytes r (drop from file)

    left-record : (m : ℕ) → s.more ≡ suc m
        → left ≡ record_before (packed_len r)
        (rows_from s.more width (s.begun ++ piece) (drop (from + packed_len r) file))
    left-record m one =
        sym (left_as m one)
        ∙ from-record m width s.begun (drop from file) r
        (is ∙ ap (record_at (drop from file)) (sym room-is)) (omega (arith, s.row)) ok
        ∙ ap₂ (λ (n : ℕ) (l : List ℕ). record_before (packed_len r) (rows_from n width (s.begun ++ piece) l)) (sym one)
        (drop-drop (packed_len r) from file)

    -- it is whole
    pub record-turn : (next : List ℕ) → take (to + row_len r) next ≡ take to out ++ piece
        → RowsRead file at rows width next (from + packed_len r) (to + row_len r) (room - row_len r) (records + 1)
    record-turn next e =
        let w : WholeAt r file from room = whole-at file from room r is ok in
        let m = suc-of s.more (some_more h) in
        let l = left-record m.0 m.1 in
        let longer = length-append s.begun piece in
        record {
          full = s.full;
          begun = s.begun ++ piece;
          more = s.more;
          count = s.count;
          row = omega (arith, s.row, longer, w.makes, w.fits);
          place = omega (arith, s.place, longer, w.makes);
          written =
              e
              ∙ ap (λ (k : List ℕ). k ++ piece) s.written
              ∙ append_assoc (flatten s.full) s.begun piece;
          ends = s.ends ∙ ap (λ (q : RowsProgress). s.full ++ q.rows) l;
          last = s.last ∙ ap (λ (q : RowsProgress). q.begun) l;
          fault = s.fault ∙ ap (λ (q : RowsProgress). q.fault) l;
          bytes = omega (arith, s.bytes, ap (λ (q : RowsProgress). q.bytes) l);
          total = omega (arith, s.total, ap (λ (q : RowsProgress). q.records) l);
          counted = omega (arith, s.counted, w.takes);
          inside = omega (arith, s.inside, w.has);
        }

  -- ---- the end

  -- every row is full
  pub read_all : 0 < room → rows * width ≤ to
      → (whole.rows ≡ s.full) × (whole.fault ≡ 0) × (at + whole.bytes ≡ from) × (whole.records ≡ records)
  unfolding rows_from
  read_all under h =
      let none = nothing_left s.more s.count in
      let is : left ≡ no_rows = ap (λ (n : ℕ). rows_from n width s.begun (drop from file)) none ∙ no-rows in (
        s.ends ∙ ap (λ (q : RowsProgress). s.full ++ q.rows) is ∙ append-nil s.full,
        s.fault ∙ ap (λ (q : RowsProgress). q.fault) is,
        omega (arith, s.bytes, ap (λ (q : RowsProgress). q.bytes) is),
        omega (arith, s.total, ap (λ (q : RowsProgress). q.records) is),
      )
    where
      no-rows : rows_from 0 width s.begun (drop from file) ≡ no_rows
      no-rows = refl

      nothing_left : (m : ℕ) → length s.full + m ≡ rows → m ≡ 0
      nothing_left zero e = refl
      nothing_left (suc m) e =
          let more : rows * width ≡ length s.full * width + (width + m * width) =
          ap (λ (k : ℕ). k * width) (sym e)
          ∙ omega (arith, add-mul (length s.full) (suc m) width, suc-mul m width) in
          absurd (omega (arith, s.place, s.row))
