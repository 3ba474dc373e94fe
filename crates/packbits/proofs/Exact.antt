-- `unpack` accepts with exactly the bodies of the relation `Unpacks`: sound, complete, and so the relation is a
-- function.
use Rattle.std.specs.Prelude.{Err}
use mathlib.Core.Path.{◌≡◌, refl, sym, ap, ◌∙◌, subst}
use mathlib.Core.Logic.{◌↔◌}
use Prim.Native.Nat.{ℕ, suc, ◌-◌, ◌≤◌, ◌<◌}
use native.Mathlib.Omega.{arith}
use mathlib.Core.Bool.{Bool, true, false, cond}
use mathlib.Core.List.{List, [], ◌∷◌, ◌++◌, append_assoc}
use lib.ListN.{length, take, drop, replicate, length-append, length-drop, length-replicate, take-append-drop}
use lib.Seq.{length-take-le, take-add, take-append_seam}
use lib.Dec.{eqb}
use borrow.Author.Tests.{eqb-true}
use Rattle.lists.specs.Bytes.{Bytes}
use Rattle.lists.proofs.Bytes.{bytes_drop}
use Rattle.outcome.specs.Outcome.{Outcome, later}
use Rattle.packbits.specs.declared.Record.{Record}
use Rattle.packbits.specs.Records.{packed_len, row_len, row_bytes, fault, record_at}
use Rattle.packbits.specs.Row.{Row, done}
use Rattle.packbits.specs.Unpack.{Progress, after, progress, row_fault, outcome_of, unpack}
use Rattle.packbits.specs.Unpacks.{Unpacks, full, literal, repeat, nothing}
use Rattle.packbits.specs.WholeRecords.{OneRecord, literal_record, repeat_record, nothing_record}
use Rattle.packbits.proofs.Records.{is_whole}
use Rattle.packbits.proofs.Unpack.{progress-full, by-records}
use Rattle.packbits.proofs.WholeRecords.{record-front, unpacks-before, progress-one}

-- ---- a row that is full

abbrev pub filled : ℕ → ℕ → List ℕ → Progress
filled bytes records made = record { bytes = bytes; records = records; made = made; fault = 0 }

same-done : {u u' n n' : ℕ} {row row' : List ℕ} → done u n row ≡ done u' n' row' → (u ≡ u') × (n ≡ n') × (row ≡ row')
same-done e = (
  ap (λ (o : Outcome Row). later o (λ r. r.bytes) 0) e,
  ap (λ (o : Outcome Row). later o (λ r. r.records) 0) e,
  ap (λ (o : Outcome Row). later o (λ r. r.made) []) e,
)

same-filled : {u u' n n' f : ℕ} {row row' : List ℕ} → f ≡ 0 → (u ≡ u') × (n ≡ n') × (row ≡ row')
    → record { bytes = u; records = n; made = row; fault = f } ≡ filled u' n' row'
same-filled none e = cc

-- only a full row is accepted
accepted-full : (p : Progress) (bytes records : ℕ) (made : List ℕ) → outcome_of p ≡ done bytes records made
    → p ≡ filled bytes records made
unfolding outcome_of
accepted-full p bytes records made = go (eqb p.fault 0) refl
  where
    go : (b : Bool) → eqb p.fault 0 ≡ b
        → cond b (done p.bytes p.records p.made) (Err (row_fault p))
        ≡ done bytes records made
        → p ≡ filled bytes records made
    go true q e = same-filled (eqb-true _ _ q) (same-done e)
    go false q e = cc

-- ---- complete: a body of the relation, with anything after it, is accepted, and used whole

-- one record before a body that fills its row
full-step : {one bytes : List ℕ} (body row rest : List ℕ) (n : ℕ) → OneRecord one bytes → 0 < length (bytes ++ row)
    → progress (body ++ rest) (length row) ≡ filled (length body) n row
    → progress (one ++ body ++ rest) (length (bytes ++ row)) ≡ filled (length (one ++ body)) (suc n) (bytes ++ row)
full-step {one} {bytes} body row rest n o some ih =
    let room : length (bytes ++ row) - length bytes ≡ length row = omega (arith, length-append bytes row) in
    ap (λ (l : List ℕ). progress l (length (bytes ++ row))) (append_assoc one body rest)
    ∙ progress-one o (body ++ rest) (length (bytes ++ row)) some (omega (arith, length-append bytes row))
    ∙ rw (room, ih) (ap (λ (k : ℕ). filled k (suc n) (bytes ++ row)) (sym (length-append one body)))

pub fills : {body row : List ℕ} {n : ℕ} → Unpacks body row n → (rest : List ℕ)
    → progress (body ++ rest) (length row) ≡ filled (length body) n row
fills full rest = progress-full rest
fills (literal bytes {body} {row} {n} h long u) rest =
    full-step {bytes = bytes} body row rest n (literal_record h long) (omega (arith, length-append bytes row))
    (fills u rest)
fills (repeat {x} {byte} {body} {row} {n} h g u) rest =
    full-step {bytes = replicate (257 - x) byte} body row rest n (repeat_record h g)
    (omega (arith, length-append (replicate (257 - x) byte) row, length-replicate (257 - x) byte))
    (fills u rest)
fills (nothing {b} {body} {row} {n} u) rest =
    full-step {bytes = []} body (b ∷ row) rest n nothing_record (omega arith) (fills u rest)

pub complete : {body row : List ℕ} {n : ℕ} → Unpacks body row n → (rest : List ℕ)
    → unpack (body ++ rest) (length row) ≡ done (length body) n row
unfolding outcome_of
complete u rest = ap outcome_of (fills u rest)

-- ---- sound: what is accepted is a body of the relation

abbrev Sound : List ℕ → ℕ → Progress → Type 0
Sound input width p =
    p.fault ≡ 0 → Bytes input → (length p.made ≡ width) × (p.bytes ≤ length input) × Unpacks
    (take p.bytes input) p.made p.records

sound-after : (input : List ℕ) (room : ℕ) → 0 < room → fault (record_at input room) ≡ 0 → (p : Progress)
    → Sound (drop (packed_len (record_at input room)) input) (room - row_len (record_at input room)) p
    → Sound input room (after (packed_len (record_at input room)) (row_bytes (record_at input room) input) p)
sound-after input room h e p s = λ f bytes.
    let r : Record = record_at input room in
    let w = is_whole input room e in
    let left = s f (bytes_drop (packed_len r) input bytes) in
    let long : length (row_bytes r input ++ p.made) ≡ room =
    omega (arith, length-append (row_bytes r input) p.made, w.makes, w.fits, left.0) in (
      long,
      omega (arith, length-drop (packed_len r) input, w.has, left.1),
      rw (take-add (packed_len r) p.bytes input)
          (unpacks-before (record-front input room bytes e) (omega arith) left.2),
    )

all_sound : (input : List ℕ) (width : ℕ) → Sound input width (progress input width)
all_sound = by-records Sound (λ input e bytes. (refl, omega arith, full)) (λ input room h e f. absurd (e f)) sound-after

pub sound : (input : List ℕ) (width used records : ℕ) (row : List ℕ) → Bytes input
    → unpack input width ≡ done used records row
    → (length row ≡ width) × (used ≤ length input) × Unpacks (take used input) row records
sound input width used records row bytes e =
    subst (Sound input width) (accepted-full (progress input width) used records row e)
    (all_sound input width) refl bytes

-- ---- a record has one byte at least

pub records-few : {body row : List ℕ} {n : ℕ} → Unpacks body row n → n ≤ length body
records-few full = omega arith
records-few (literal bytes {body} x l u) = omega (arith, records-few u, length-append bytes body)
records-few (repeat x y u) = omega (arith, records-few u)
records-few (nothing u) = omega (arith, records-few u)

-- ---- exact: accepted with these bytes used, these records and this row, just where the relation has them

pub exact : (input : List ℕ) (width used records : ℕ) (row : List ℕ) → Bytes input
    → (unpack input width ≡ done used records row)
    ↔ ((length row ≡ width) × (used ≤ length input) × Unpacks (take used input) row records)
exact input width used records row bytes = (sound input width used records row bytes, back)
  where
    back : (length row ≡ width) × (used ≤ length input) × Unpacks (take used input) row records
        → unpack input width ≡ done used records row
    back s =
        ap (λ (l : List ℕ). unpack l width) (sym (take-append-drop used input))
        ∙ ap (unpack (take used input ++ drop used input)) (sym s.0)
        ∙ complete s.2 (drop used input)
        ∙ ap (λ (k : ℕ). done k records row) (length-take-le used input s.1)

-- ---- deterministic: of two bodies at the front of one input, for rows of one width, body, row and records are the
-- same

pub deterministic : {body body' row row' : List ℕ} {n n' : ℕ} → Unpacks body row n → Unpacks body' row' n'
    → (rest rest' : List ℕ) → body ++ rest ≡ body' ++ rest'
    → length row ≡ length row' → (body ≡ body') × (row ≡ row') × (n ≡ n')
deterministic {body} {body'} {row} {row'} {n} {n'} u u' rest rest' e w =
    let same : done (length body) n row ≡ done (length body') n' row' =
    sym (complete u rest) ∙ ap (λ (l : List ℕ). unpack l (length row)) e ∙ ap (unpack (body' ++ rest')) w
    ∙ complete u' rest' in
    let parts = same-done same in (
      sym (take-append_seam body rest) ∙ ap (take (length body)) e ∙ ap (λ (k : ℕ). take k (body' ++ rest')) parts.0
          ∙ take-append_seam body' rest',
      parts.2,
      parts.1,
    )
