-- Writing the least body record by record: nothing, one record, one part after another, and all.
use Prim.Native.Nat.{ℕ, ◌+◌, ◌-◌, ◌≤◌, ◌<◌}
use native.Mathlib.Omega.{arith}
use mathlib.Core.Path.{◌≡◌, refl, sym, ap, ◌∙◌, subst}
use mathlib.Core.List.{List, [], ◌++◌, append_assoc, append-nil}
use lib.ListN.{length, get_or, take, drop, length-append, length-drop, drop_of_length-le}
use lib.Seq.{drop-drop}
use borrow.Rule.Slice.PartMut.{put_mid}
use Rattle.lists.specs.Over.{over}
use Rattle.lists.specs.Written.{Written}
use Rattle.lists.proofs.Parts.{tail-part}
use Rattle.lists.proofs.Pieces.{written_as, written_then, length-written}
use Rattle.pack.specs.Least.{scan, least, least_records}
use Rattle.pack.specs.Controls.{taken_by, shown_by, record_of}
use Rattle.pack.specs.Emitted.{Emitted}
use Rattle.pack.proofs.Controls.{Leads, leads, record-length}
use Rattle.pack.proofs.Records.{Puts, literal-shown, repeat-shown, puts-literal, puts-repeat}

pub emitted-none : (row : List ℕ) (from : ℕ) (out : List ℕ) → from ≤ length row → Emitted row from from out out 0 0
emitted-none row from out h =
    record {
      within = h;
      few = omega arith;
      body = [];
      bytes = refl;
      records = omega arith;
      written = record { bytes = refl; all = refl };
    }

-- ---- the record of control byte c, with which the least body from the place i on begins

module _ (row : List ℕ) (i : ℕ) (more : i < length row) (narrow : length row ≤ 128) (c : ℕ)
    (known : c ≡ get_or (least (drop i row)) 0 0) where
  pub record-leads : Leads c (drop i row) (scan (drop i row)).best
  record-leads =
      let l = length-drop i row in
      subst (λ (k : ℕ). Leads k (drop i row) (scan (drop i row)).best) (sym known)
      (leads (drop i row) (omega arith) (omega arith))

  -- the part of the row that the code lends
  abbrev row_part : List ℕ
  row_part = take (length row - i) (drop i row)

  pub record-room : (out : List ℕ) → length (least (drop i row)) ≤ length out
      → (1 ≤ length row_part) × (shown_by c ≤ length row_part) × (shown_by c < length out)
  record-room out fits =
      let lead = record-leads in
      let l = record-length c (drop i row) lead.shown in
      let a = length-append (record_of c (drop i row)) (least (drop (taken_by c) (drop i row))) in
      rw (tail-part row i) (omega (arith, length-drop i row, lead.shown, l, a, ap length lead.bytes))

  pub emitted-record : {out last : List ℕ} {taken made : ℕ} → Puts c row_part out last taken made
      → Emitted row i (i + taken) out last made 1
  emitted-record {out} {last} {taken} {made} p =
      let lead = record-leads in
      let w : Written (record_of c row_part) out last made = record { bytes = p.0.1; all = p.1 } in
      let s : drop (i + taken_by c) row ≡ drop (taken_by c) (drop i row) = sym (drop-drop (taken_by c) i row) in
      rw p.0.0
      (record {
        within = omega (arith, lead.within, length-drop i row);
        few = omega (arith, lead.some);
        body = record_of c (drop i row);
        bytes = ap (λ (t : List ℕ). record_of c (drop i row) ++ least t) s ∙ sym lead.bytes;
        records = omega (arith, lead.records, ap least_records s);
        written = rw (tail-part row i) at w;
      })

-- it begins with the literal, or the repeat, of n bytes: what its function asks, and what is then written
abbrev pub LiteralFirst : List ℕ → ℕ → ℕ → List ℕ → Type 0
LiteralFirst row i n out =
    let part = take (length row - i) (drop i row) in
    ((1 ≤ n) × (n ≤ 128) × (n ≤ length part) × (n < length out))
    × ((last : List ℕ) (made : ℕ) → made ≡ n + 1 → last ≡ over (record_of (n - 1) part) out
    → Emitted row i (i + n) out last made 1)

abbrev pub RepeatFirst : List ℕ → ℕ → ℕ → List ℕ → Type 0
RepeatFirst row i n out =
    let part = take (length row - i) (drop i row) in
    ((2 ≤ n) × (n ≤ 128) × (1 ≤ length part) × (2 ≤ length out))
    × ((last : List ℕ) (made : ℕ) → made ≡ 2 → last ≡ over (record_of (257 - n) part) out
    → Emitted row i (i + n) out last made 1)

module _ (row : List ℕ) (i : ℕ) (more : i < length row) (narrow : length row ≤ 128) (n : ℕ) (few : n ≤ 128)
    (out : List ℕ) (fits : length (least (drop i row)) ≤ length out) where
  abbrev part : List ℕ
  part = take (length row - i) (drop i row)

  pub literal-first : 1 ≤ n → n - 1 ≡ get_or (least (drop i row)) 0 0 → LiteralFirst row i n out
  literal-first some known =
      let w = record-room row i more narrow (n - 1) known out fits in
      let k = (literal-shown n some few).0 in
      let room : n ≤ length part = omega (arith, w.1, k) in
      let space : n < length out = omega (arith, w.2, k) in (
        (some, few, room, space),
        λ last made e all.
            let p = puts-literal (n - 1) n part out last made refl some few room e all in
            emitted-record row i more narrow (n - 1) known {out = out} {last = last} {taken = n} {made = made} p,
      )

  pub repeat-first : 2 ≤ n → 257 - n ≡ get_or (least (drop i row)) 0 0 → RepeatFirst row i n out
  repeat-first some known =
      let w = record-room row i more narrow (257 - n) known out fits in
      let space : 2 ≤ length out = omega (arith, w.2, (repeat-shown n some few).0) in (
        (some, few, w.0, space),
        λ last made e all.
            let p = puts-repeat (257 - n) n part out last made refl some few w.0 e all in
            emitted-record row i more narrow (257 - n) known {out = out} {last = last} {taken = n} {made = made} p,
      )

-- ---- one part after another

module _ {row out₀ out : List ℕ} {from i o n : ℕ} (e : Emitted row from i out₀ out o n) where
  pub emitted_then : {last : List ℕ} {j m k : ℕ} → Emitted row i j (take (length out - o) (drop o out)) last m k
      → Emitted row from j out₀ (put_mid o (length out - o) out last) (o + m) (n + k)
  emitted_then {last} {j} f =
      record {
        within = f.within;
        few = omega (arith, e.few, f.few);
        body = e.body ++ f.body;
        bytes =
            append_assoc e.body f.body (least (drop j row))
            ∙ ap (λ (t : List ℕ). e.body ++ t) f.bytes
            ∙ e.bytes;
        records = omega (arith, e.records, f.records);
        written = written_then e.written f.written;
      }

  module _ (fits : length (least (drop from row)) ≤ length out₀) where
    part_length : length e.body + length (least (drop i row)) ≡ length (least (drop from row))
    part_length = sym (length-append e.body (least (drop i row))) ∙ ap length e.bytes

    -- the output is as long as it was, and what is left of the body fits the part that is lent
    pub emitted-kept : length out ≡ length out₀
    emitted-kept = length-written e.written (omega (arith, part_length))

    pub emitted-room : o ≤ length out
    emitted-room = omega (arith, part_length, emitted-kept, e.written.bytes)

    pub left-fits : length (least (drop i row)) ≤ length (take (length out - o) (drop o out))
    left-fits =
        rw (tail-part out o) (omega (arith, length-drop o out, part_length, emitted-kept, e.written.bytes))

pub emitted-all : {row out₀ out : List ℕ} {i o n : ℕ} → Emitted row 0 i out₀ out o n → length row ≤ i
    → ((o ≡ length (least row)) × (n ≡ least_records row)) × (out ≡ over (least row) out₀)
unfolding scan
emitted-all {row} e h =
    let d = drop_of_length-le row h in
    let b = sym (append-nil e.body) ∙ ap (λ (t : List ℕ). e.body ++ least t) (sym d) ∙ e.bytes in
    let w = written_as (least row) b e.written in
    ((w.bytes, omega (arith, e.records, ap least_records d)), w.all)
