-- A record is judged exactly as the relations say.
use mathlib.Core.Path.{◌≡◌, refl, sym, ap, ap₂, ◌∙◌, subst}
use mathlib.Core.Logic.{◌⊎◌, inl, inr}
use mathlib.Core.List.{List, [], ◌∷◌, ◌++◌}
use Prim.Native.Nat.{ℕ, suc, ◌+◌, ◌-◌, ◌≤◌, ◌<◌}
use native.Mathlib.Omega.{arith}
use native.Mathlib.Nat.{add-zero}
use native.Mathlib.Numerals.{add-one}
use lib.ListN.{length, get_or, take, drop, replicate, length-append, length-drop, length-replicate, take-append-drop}
use lib.ListN.{drop_of_length-le}
use lib.Seq.{get_or-drop, drop-cons, drop-drop, take_at, drop_at, length-take-le}
use Rattle.lists.specs.Bytes.{Bytes}
use Rattle.outcome.specs.Refusal.{input_ends, record_crosses}
use Rattle.filling.proofs.Makes.{Stands, Sound, JudgedWhole, Complete}
use Rattle.spectrum_data_map.specs.Records.{least_repeat, makes, takes, control, record_bytes, fault_at}
use Rattle.spectrum_data_map.specs.WholeRecord.{WholeRecord, literal, repeat}
use Rattle.spectrum_data_map.specs.FaultyRecord.{FaultyRecord, no_byte, literal_crosses, literal_cut}
use Rattle.spectrum_data_map.specs.FaultyRecord.{repeat_crosses, repeat_cut}
use Rattle.spectrum_data_map.proofs.Records.{by_kind, makes-literal, makes-repeat, takes-literal, takes-repeat}
use Rattle.spectrum_data_map.proofs.Records.{bytes-literal, bytes-repeat, fault-end, fault-crosses, fault-cut}
use Rattle.spectrum_data_map.proofs.Records.{Whole, fault-whole, fault-elim, whole_here}
use Rattle.spectrum_data_map.proofs.DataMap.{map_records}

-- ---- the relations from the judgement

module _ (map : List ℕ) (bytes : Bytes map) (at : ℕ) where
  abbrev x : ℕ
  x = control map at

  abbrev tail : List ℕ
  tail = drop (at + 1) map

  front : at < length map → drop at map ≡ x ∷ tail
  front h = drop-cons map at 0 h ∙ ap (λ (k : ℕ). x ∷ drop k map) (sym (add-one at))

  -- a control byte of a repeat by its n
  negative : least_repeat ≤ x → 256 - (256 - x) ≡ x
  negative h = omega (arith, bytes at)

  literal-at : (room : ℕ) → Whole map at room → x < least_repeat
      → WholeRecord (drop at map) (drop (at + takes x) map) (record_bytes map at)
  literal-at room w h =
      let m = makes-literal x h in
      let has : makes x ≤ length tail = omega (arith, w.has, m, takes-literal x h, length-drop (at + 1) map) in
      let next : at + 1 + makes x ≡ at + takes x = omega (arith, m, takes-literal x h) in
      rw (
        front w.here,
        ← next,
        ← drop-drop (makes x) (at + 1) map,
        bytes-literal map at h,
      )
      (subst (λ (l : List ℕ). WholeRecord (x ∷ l) (drop (makes x) tail) (take (makes x) tail))
      (take-append-drop (makes x) tail)
      (literal (take (makes x) tail) {rest = drop (makes x) tail} h (length-take-le (makes x) tail has ∙ m)))

  repeat-at : (room : ℕ) → Whole map at room → least_repeat ≤ x
      → WholeRecord (drop at map) (drop (at + takes x) map) (record_bytes map at)
  repeat-at room w h =
      let has : at + 1 < length map = omega (arith, w.has, takes-repeat x h) in
      let two : suc (at + 1) ≡ at + 2 = omega arith in
      let second : tail ≡ get_or map (at + 1) 0 ∷ drop (at + 2) map =
      drop-cons map (at + 1) 0 has ∙ ap (λ (k : ℕ). get_or map (at + 1) 0 ∷ drop k map) two in
      rw (
        front w.here,
        takes-repeat x h,
        bytes-repeat map at h,
        makes-repeat x h,
        second,
      )
      (subst
      (λ (y : ℕ). WholeRecord (y ∷ get_or map (at + 1) 0 ∷ drop (at + 2) map) (drop (at + 2) map)
      (replicate (256 - x + 2) (get_or map (at + 1) 0))) (negative h)
      (repeat {n = 256 - x} {rest = drop (at + 2) map} (omega (arith, bytes at)) (omega arith)))

  whole-at : (room : ℕ) → fault_at map at room ≡ 0
      → WholeRecord (drop at map) (drop (at + takes x) map) (record_bytes map at)
  whole-at room e = let w = whole_here map at room e in by_kind x (literal-at room w) (repeat-at room w)

  crosses-at : (room : ℕ) → at < length map → room < makes x → FaultyRecord room (drop at map) record_crosses
  crosses-at room h k =
      rw (front h)
      (by_kind x (λ l. literal_crosses l (omega (arith, makes-literal x l)))
      (λ l.
      subst (λ (y : ℕ). FaultyRecord room (y ∷ tail) 7) (negative l)
      (repeat_crosses {n = 256 - x} (omega (arith, bytes at)) (omega arith) (omega (arith, makes-repeat x l)))))

  cut_at : (room : ℕ) → at < length map → makes x ≤ room → length map < at + takes x
      → FaultyRecord room (drop at map) input_ends
  cut_at room h k short =
      rw (front h)
      (by_kind x
      (λ l.
      literal_cut l (omega (arith, makes-literal x l)) (omega (arith, takes-literal x l, length-drop (at + 1) map)))
      (λ l.
      rw (drop_of_length-le map {i = at + 1} (omega (arith, takes-repeat x l)))
      (subst (λ (y : ℕ). FaultyRecord room (y ∷ []) 6) (negative l)
      (repeat_cut {n = 256 - x} (omega (arith, bytes at)) (omega arith) (omega (arith, makes-repeat x l))))))

  faulty-at : (room : ℕ) → (fault_at map at room ≡ 0 → ⊥) → FaultyRecord room (drop at map) (fault_at map at room)
  faulty-at room =
      fault-elim map at room (λ k. (k ≡ 0 → ⊥) → FaultyRecord room (drop at map) k)
      (λ h e. rw (drop_of_length-le map {i = at} h) no_byte)
      (λ h k e. crosses-at room h k)
      (λ h k l e. cut_at room h k l)
      (λ w e. absurd (e refl))

pub map-sound : (map : List ℕ) → Bytes map → Sound (map_records map) WholeRecord FaultyRecord
map-sound map bytes = record { whole = λ at. whole-at map bytes at; faulty = λ at. faulty-at map bytes at }

-- ---- and the judgement from the relations

module _ (map : List ℕ) (at : ℕ) where
  -- the control byte at an offset, and the bytes behind it
  record Begins (x : ℕ) (tail : List ℕ) : Type 0 where
    first : control map at ≡ x
    behind : drop (at + 1) map ≡ tail
    long : length map ≡ at + 1 + length tail

  begins : (x : ℕ) (tail : List ℕ) → drop at map ≡ x ∷ tail → Begins x tail
  begins x tail e =
      record {
        first =
            ap (λ (k : ℕ). get_or map k 0) (sym (add-zero at))
            ∙ sym (get_or-drop at map 0 0)
            ∙ ap (λ (l : List ℕ). get_or l 0 0) e;
        behind = sym (drop-drop 1 at map) ∙ ap (drop 1) e;
        long = omega (arith, ap length e, length-drop at map);
      }

  -- of a control byte that makes m bytes and has k bytes behind it
  whole-judged : (room x m k : ℕ) (tail next made : List ℕ) → Begins x tail → makes x ≡ m → takes x ≡ k + 1 → m ≤ room
      → k ≤ length tail → record_bytes map at ≡ made → drop k tail ≡ next
      → JudgedWhole (map_records map) at room next made
  whole-judged room x m k tail next made b size few fits has bytes rest =
      let c : takes (control map at) ≡ k + 1 = ap takes b.first ∙ few in
      let d : makes (control map at) ≡ m = ap makes b.first ∙ size in
      let to : at + takes (control map at) ≡ at + 1 + k = omega (arith, c) in
      record {
        ok =
            fault-whole map at room
            (record {
              here = omega (arith, b.long);
              fits = omega (arith, d);
              has = omega (arith, b.long, c);
            });
        makes = bytes;
        behind =
            ap (λ (j : ℕ). drop j map) to
            ∙ sym (drop-drop k (at + 1) map)
            ∙ ap (drop k) b.behind
            ∙ rest;
      }

  whole-known : (room : ℕ) {input next made : List ℕ} → Stands map at input → WholeRecord input next made
      → length made ≤ room → JudgedWhole (map_records map) at room next made
  whole-known room a (literal {x} bytes {rest} h long) fits =
      let b = begins x (bytes ++ rest) a.bytes in
      let m = makes-literal x h in
      let h' : control map at < least_repeat = rw b.first h in
      let size : makes (control map at) ≡ length bytes = ap makes b.first ∙ m ∙ sym long in
      whole-judged room x (x + 1) (x + 1) (bytes ++ rest) rest bytes b m (takes-literal x h ∙ omega arith)
      (omega (arith, long)) (omega (arith, long, length-append bytes rest))
      (bytes-literal map at h' ∙ ap₂ take size b.behind ∙ take_at bytes rest (length bytes) refl)
      (drop_at bytes rest (x + 1) long)
  whole-known room a (repeat {n} {byte} {rest} some few) fits =
      let b = begins (256 - n) (byte ∷ rest) a.bytes in
      let h : least_repeat ≤ 256 - n = omega arith in
      let h' : least_repeat ≤ control map at = rw b.first h in
      let m : makes (256 - n) ≡ n + 2 = makes-repeat (256 - n) h ∙ omega arith in
      let second : get_or map (at + 1) 0 ≡ byte =
      sym (get_or-drop at map 1 0) ∙ ap (λ (l : List ℕ). get_or l 1 0) a.bytes in
      whole-judged room (256 - n) (n + 2) 1 (byte ∷ rest) rest (replicate (n + 2) byte) b m (takes-repeat (256 - n) h)
      (omega (arith, length-replicate (n + 2) byte)) (omega arith)
      (bytes-repeat map at h' ∙ ap₂ (λ (i y : ℕ). replicate i y) (ap makes b.first ∙ m) second)
      refl

  -- of one that is at fault
  crosses-known : (room x : ℕ) (tail : List ℕ) → Stands map at (x ∷ tail) → room < makes x
      → fault_at map at room ≡ record_crosses
  crosses-known room x tail a h =
      let b = begins x tail a.bytes in
      fault-crosses map at room (omega (arith, b.long)) (rw b.first h)

  cut-known : (room x : ℕ) (tail : List ℕ) → Stands map at (x ∷ tail) → makes x ≤ room → length tail + 1 < takes x
      → fault_at map at room ≡ input_ends
  cut-known room x tail a h k =
      let b = begins x tail a.bytes in
      fault-cut map at room (omega (arith, b.long)) (rw b.first h)
      (rw b.first (omega (arith, b.long)))

  faulty-known : (room : ℕ) {input : List ℕ} {number : ℕ} → Stands map at input → FaultyRecord room input number
      → fault_at map at room ≡ number
  faulty-known room a no_byte = fault-end map at room (omega (arith, ap length a.bytes, length-drop at map))
  faulty-known room a (literal_crosses {x} {rest} h k) =
      crosses-known room x rest a (omega (arith, makes-literal x h))
  faulty-known room a (literal_cut {x} {rest} h k l) =
      cut-known room x rest a (omega (arith, makes-literal x h)) (omega (arith, takes-literal x h))
  faulty-known room a (repeat_crosses {n} {rest} some few h) =
      crosses-known room (256 - n) rest a (omega (arith, makes-repeat (256 - n) (omega arith)))
  faulty-known room a (repeat_cut {n} some few h) =
      cut-known room (256 - n) [] a (omega (arith, makes-repeat (256 - n) (omega arith)))
      (omega (arith, takes-repeat (256 - n) (omega arith)))

-- the numbers of a fault
pub faulty-numbers : {room number : ℕ} {input : List ℕ} → FaultyRecord room input number
    → (number ≡ input_ends) ⊎ (number ≡ record_crosses)
faulty-numbers no_byte = inl refl
faulty-numbers (literal_crosses h k) = inr refl
faulty-numbers (literal_cut h k l) = inl refl
faulty-numbers (repeat_crosses some few h) = inr refl
faulty-numbers (repeat_cut some few h) = inl refl

faulty-some : {room number : ℕ} {input : List ℕ} → FaultyRecord room input number → number ≡ 0 → ⊥
faulty-some {number = number} f e = go (faulty-numbers f)
  where
    go : (number ≡ input_ends) ⊎ (number ≡ record_crosses) → ⊥
    go (inl a) = omega arith
    go (inr a) = omega arith

pub map-complete : (map : List ℕ) → Complete (map_records map) WholeRecord FaultyRecord
map-complete map =
    record {
      whole = λ at room a w fits. whole-known map at room a w fits;
      faulty = λ at room a f. (faulty-known map at room a f, faulty-some f);
    }
