-- A row put into an output record by record: the loop's invariant and its laws.
use mathlib.Core.Path.{◌≡◌, ap, ◌∙◌, subst}
use Prim.Native.Nat.{ℕ, ◌+◌, ◌-◌, ◌≤◌, ◌<◌}
use native.Mathlib.Nat.{sub-zero}
use native.Mathlib.Omega.{arith}
use mathlib.Core.List.{List, ◌++◌}
use lib.ListN.{length, take, drop}
use borrow.Rule.Slice.PartMut.{put_mid}
use Rattle.lists.specs.Over.{over}
use Rattle.lists.proofs.Pieces.{PartlyWritten, writing_start, piece-fits, writing_more, writing-end}
use Rattle.packbits.specs.declared.Record.{Record}
use Rattle.packbits.specs.Records.{packed_len, row_len, row_bytes, fault, record_at}
use Rattle.packbits.specs.Unpack.{Progress, stopped}
use Rattle.packbits.proofs.Records.{WholeAt, whole-at}
use Rattle.packbits.proofs.Unpack.{bounded}
use Rattle.unpack.proofs.RecordsRead.{left, RecordsRead, read-start, left-whole, read-turn}

-- the row that starts at `at` is read up to `from`, `records` records of it, and the `to` bytes that they make are
-- written
pub record Putting (file : List ℕ) (at width : ℕ) (out₀ out : List ℕ) (from to records : ℕ) : Type 0 where
  pub inside : to ≤ width
  pub read : RecordsRead file at width from (width - to) records
  pub writing : PartlyWritten (left file at width).made (left file from (width - to)).made out₀ out to

pub putting-start : (file : List ℕ) (at width : ℕ) (out : List ℕ) → Putting file at width out out at 0 0
putting-start file at width out = record {
  inside = omega arith;
  read = rw sub-zero (read-start file at width);
  writing = rw sub-zero (writing_start (left file at width).made out);
}

module _ {file : List ℕ} {at width : ℕ} {out₀ out : List ℕ} {from to records : ℕ}
    (p : Putting file at width out₀ out from to records) where
  module _ (room : width ≤ length out₀) (r : Record) (is : r ≡ record_at (drop from file) (width - to)) (h : to < width)
      (ok : fault r ≡ 0) where
    row_fits : length (left file at width).made ≤ length out₀
    row_fits = omega (arith, (bounded (drop at file) width).fits)

    abbrev piece : List ℕ
    piece = row_bytes r (drop from file)

    abbrev rest : List ℕ
    rest = (left file (from + packed_len r) (width - (to + row_len r))).made

    room-left : width - to - row_len r ≡ width - (to + row_len r)
    room-left = omega arith

    next : PartlyWritten (left file at width).made (piece ++ rest) out₀ out to
    next =
        let e = left-whole file from (width - to) r is (omega arith) ok in
        subst (λ (l : List ℕ). PartlyWritten (left file at width).made l out₀ out to)
        (ap (λ (q : Progress). q.made) e ∙ ap (λ (k : ℕ). piece ++ (left file (from + packed_len r) k).made) room-left)
        p.writing

    whole-next : WholeAt r file from (width - to)
    whole-next = whole-at file from (width - to) r is ok

    pub record-fits : row_len r ≤ length (take (length out - to) (drop to out))
    record-fits = omega (arith, piece-fits piece rest row_fits next, whole-next.makes)

    pub putting-turn : (last : List ℕ) → last ≡ over piece (take (length out - to) (drop to out))
        → Putting file at width out₀ (put_mid to (length out - to) out last) (from + packed_len r) (to + row_len r)
        (records + 1)
    putting-turn last e =
        let w = whole-next in
        record {
          inside = omega (arith, w.fits);
          read = rw room-left at (read-turn file from (width - to) r is (omega arith) ok p.read);
          writing = rw w.makes at (writing_more piece rest row_fits next last e);
        }

  -- no record is left, or the next is at fault
  pub putting-done : {number : ℕ} → left file from (width - to) ≡ stopped number
      → out ≡ over (left file at width).made out₀
  putting-done stop =
      let still : Progress → Type 0 = λ q. PartlyWritten (left file at width).made q.made out₀ out to in
      (writing-end (subst still stop p.writing)).all
