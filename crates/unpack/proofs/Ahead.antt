-- The loop of `unpack_ahead`: its invariant and its laws.
use mathlib.Core.Path.{◌≡◌, ap, ◌∙◌}
use Prim.Native.Nat.{ℕ, ◌+◌, ◌*◌, ◌-◌, ◌≤◌, ◌<◌}
use native.Mathlib.Omega.{arith}
use mathlib.Core.Bool.{false}
use mathlib.Core.List.{List, ◌++◌}
use lib.ListN.{length, take, drop, length-drop}
use borrow.Rule.Slice.PartMut.{put_mid, same_len_mid}
use Rattle.lists.proofs.Parts.{tail-part}
use Rattle.packbits.specs.declared.Record.{Record}
use Rattle.packbits.specs.Records.{packed_len, row_len, row_bytes, fault, record_at}
use Rattle.packbits.proofs.Records.{WholeAt, whole-at}
use Rattle.unpack.specs.Rows.{RowsFit, RowsRead, long}
use Rattle.unpack.proofs.Front.{front-more}
use Rattle.unpack.proofs.Records.{not-long-whole}
use Rattle.unpack.proofs.RowsRead.{record-turn, row-full}

-- what holds before each record: the row under way ends 128 bytes before the last row's end
pub record Ahead (file : List ℕ) (at rows width : ℕ) (out₀ : List ℕ) (to₀ last_row last_control : ℕ) (out : List ℕ)
    (from to room records : ℕ) : Type 0 where
  pub fit : RowsFit rows width (length out₀)
  pub control : last_control + 129 ≡ length file
  pub start : last_row + 256 ≡ rows * width
  pub grown : to₀ ≤ to
  pub kept : length out ≡ length out₀
  pub read : RowsRead file at rows width out from to room records
  pub under : 0 < room
  pub ahead : to + room + 128 ≤ rows * width

module _ {file : List ℕ} {at rows width : ℕ} {out₀ : List ℕ} {to₀ last_row last_control : ℕ} {out : List ℕ}
    {from to room records : ℕ} (a : Ahead file at rows width out₀ to₀ last_row last_control out from to room records)
  where
    abbrev tail : List ℕ
    tail = take (length out - to) (drop to out)

    pub tail-long : 128 ≤ length tail
    tail-long = omega (arith, ap length (tail-part out to), length-drop to out, a.ahead, a.kept, a.fit.size)

    module _ (r : Record) (is : r ≡ record_at (drop from file) room) (small : long r ≡ false) where
      ok : fault r ≡ 0
      ok = not-long-whole r small

      pub here : WholeAt r file from room
      here = whole-at file from room r is ok

      pub narrow-here : row_len r ≤ 128
      narrow-here = omega (arith, here.fits, a.read.row, a.fit.narrow)

      module _ (last : List ℕ) (e : take (row_len r) last ≡ row_bytes r (drop from file))
          (long : length last ≡ length tail) where
        abbrev next : List ℕ
        next = put_mid to (length out - to) out last

        pub next-kept : length next ≡ length out₀
        next-kept = same_len_mid to (length out - to) out last long ∙ a.kept

        read_next :
            RowsRead file at rows width next (from + packed_len r) (to + row_len r) (room - row_len r) (records + 1)
        read_next =
            record-turn a.read r is (omega (arith, a.ahead)) a.under ok next
            (front-more out last to (length out - to) (row_len r) (omega (arith, a.ahead, a.kept, a.fit.size))
            (omega (arith, narrow-here, tail-long, long))
            ∙ ap (λ (l : List ℕ). take to out ++ l) e)

        -- the row under way is full
        row_done : room - row_len r ≡ 0 → to + row_len r < rows * width
        row_done h = omega (arith, a.ahead, here.fits)

        read-row : room - row_len r ≡ 0 → RowsRead file at rows width next (from + packed_len r) (to + row_len r) width
            (records + 1)
        read-row h = row-full read_next (row_done h) h

        -- with the lengths that the code asks for
        module _ {used made made' : ℕ} (u : used ≡ packed_len r) (m : made ≡ row_len r) (m' : made' ≡ row_len r) where
          -- the row under way goes on
          pub ahead_more : (room - made' ≡ 0 → ⊥)
              → Ahead file at rows width out₀ to₀ last_row last_control next (from + used) (to + made) (room - made')
              (records + 1)
          ahead_more h =
              rw (u, m, m')
              (record {
                fit = a.fit;
                control = a.control;
                start = a.start;
                grown = omega (arith, a.grown);
                kept = next-kept;
                read = read_next;
                under = omega (arith, rw m' at h);
                ahead = omega (arith, a.ahead, here.fits);
              })

          -- it is full, and the next one ends early enough
          pub ahead-row : room - made' ≡ 0 → to + made ≤ last_row
              → Ahead file at rows width out₀ to₀ last_row last_control next (from + used) (to + made) width (records + 1)
          ahead-row h k =
              rw (u, m)
              (record {
                fit = a.fit;
                control = a.control;
                start = a.start;
                grown = omega (arith, a.grown);
                kept = next-kept;
                read = read-row (rw m' at h);
                under = a.fit.some;
                ahead = omega (arith, a.start, a.fit.narrow, rw m at k);
              })

          -- or the loop ends there
          pub outcome-row : room - made' ≡ 0
              → RowsRead file at rows width next (from + used) (to + made) width (records + 1)
              × ((0 < width) × (to + made < rows * width) × (to₀ ≤ to + made))
          outcome-row h =
              let none = rw m' at h in
              rw (u, m) (read-row none, (a.fit.some, row_done none, omega (arith, a.grown)))
