-- Laws of records.
use Rattle.std.specs.Prelude.{None, Some}
use mathlib.Core.Path.{◌≡◌, refl, sym, ap, ◌∙◌}
use Prim.Native.Nat.{ℕ, suc, ◌+◌, ◌-◌, ◌≤◌, ◌<◌}
use native.Mathlib.Omega.{arith}
use mathlib.Core.Bool.{Bool, true, false, cond}
use mathlib.Core.List.{List, [], ◌∷◌}
use lib.ListN.{length, get_or, drop, length-drop, length-replicate, drop_of_length-le}
use lib.Seq.{drop-cons, length-take-le}
use lib.Dec.{ltb, eqb}
use borrow.Author.Tests.{lt-ltb, le-ltb, ne_eqb, ltb-true, ltb-false, eqb-true, eqb-false}
use Rattle.outcome.specs.declared.Reason.{Reason}
use Rattle.outcome.specs.Refusal.{number_of}
use Rattle.packbits.specs.declared.Record.{Record}
use Rattle.packbits.specs.declared.Record.TheVariants.{Literal, Repeat, Nothing, Truncated, Crossing}
use Rattle.outcome.specs.Refusal.{number_if}
use Rattle.packbits.specs.Records.{control, packed_len, row_len, row_bytes, fault_of, fault, judged, record_at}

-- ---- a control byte

pub control-literal : (x : ℕ) → x < 128 → control x ≡ Literal (x + 1)
unfolding control
control-literal x h = simp (lt-ltb x 128 h)

pub control-nothing : control 128 ≡ Nothing
unfolding control
control-nothing = refl

pub control-repeat : (x : ℕ) → 128 < x → control x ≡ Repeat (257 - x)
unfolding control
control-repeat x h = simp (le-ltb x 128 (omega arith), ne_eqb x 128 (omega arith))

-- a control byte is of one of three kinds
pub by-control : {X : Type 0} (x : ℕ) → (x < 128 → X) → (x ≡ 128 → X) → (128 < x → X) → X
by-control {X} x low mid high = go (ltb x 128) (eqb x 128) refl refl
  where
    go : (a b : Bool) → ltb x 128 ≡ a → eqb x 128 ≡ b → X
    go true b p q = low (ltb-true _ _ p)
    go false true p q = mid (eqb-true _ _ q)
    go false false p q =
        (let ne : x ≡ 128 → ⊥ = eqb-false x 128 q in let ge : 128 ≤ x = ltb-false x 128 p in high (omega arith))

-- none is at fault by itself
pub control-whole : (x : ℕ) → fault (control x) ≡ 0
control-whole x =
    by-control x (λ h. ap fault (control-literal x h))
    (λ h. ap (λ (c : ℕ). fault (control c)) h ∙ ap fault control-nothing)
    (λ h. ap fault (control-repeat x h))

-- and each takes a byte at least
pub control-takes : (x : ℕ) → 0 < packed_len (control x)
control-takes x =
    by-control x (λ h. rw (control-literal x h) (omega arith)) (λ h. rw (h, control-nothing) (omega arith))
    (λ h. rw (control-repeat x h) (omega arith))

-- ---- a record judged

module _ (r : Record) (left room : ℕ) where
  pub judged-crossing : room < row_len r → judged r left room ≡ Crossing
  judged-crossing h = simp (lt-ltb room (row_len r) h)

  pub judged-truncated : row_len r ≤ room → left < packed_len r → judged r left room ≡ Truncated
  judged-truncated h k = simp (le-ltb room (row_len r) h, lt-ltb left (packed_len r) k)

  pub judged-whole : row_len r ≤ room → packed_len r ≤ left → judged r left room ≡ r
  judged-whole h k = simp (le-ltb room (row_len r) h, le-ltb left (packed_len r) k)

-- ---- the record at the front of a list

pub whole-record : (x : ℕ) (rest : List ℕ) (room : ℕ) (r : Record) → r ≡ control x → row_len r ≤ room
    → packed_len r ≤ length (x ∷ rest) → record_at (x ∷ rest) room ≡ r
unfolding record_at
whole-record x rest room r is k l = rw (← is) (judged-whole r (suc (length rest)) room k l)

pub no_record : (room : ℕ) → fault (record_at [] room) ≡ 0 → ⊥
unfolding record_at
no_record room e = omega arith

-- ---- the record at an offset

module _ (s : List ℕ) (at room : ℕ) where
  pub no-input : length s ≤ at → record_at (drop at s) room ≡ Truncated
  unfolding record_at
  no-input h = rw (drop_of_length-le s h)

  pub at-control : at < length s → record_at (drop at s) room ≡ judged (control (get_or s at 0)) (length s - at) room
  unfolding record_at
  at-control h =
      let long : suc (length (drop (suc at) s)) ≡ length s - at =
      sym (ap length (drop-cons s at 0 h)) ∙ length-drop at s in
      rw (drop-cons s at 0 h) (ap (λ (left : ℕ). judged (control (get_or s at 0)) left room) long)

-- ---- a whole record takes a byte of input at least and what there is at most, and makes as many bytes as it says,
-- which fit

pub record Whole (r : Record) (input : List ℕ) (room : ℕ) : Type 0 where
  pub takes : 0 < packed_len r
  pub has : packed_len r ≤ length input
  pub fits : row_len r ≤ room
  pub makes : length (row_bytes r input) ≡ row_len r

whole_of : (r : Record) (x : ℕ) (rest : List ℕ) (room : ℕ) → fault r ≡ 0 → packed_len r ≤ suc (length rest)
    → row_len r ≤ room → Whole r (x ∷ rest) room
whole_of (Literal n) x rest room e h k =
    record { takes = omega arith; has = h; fits = k; makes = length-take-le n rest (omega arith) }
whole_of (Repeat n) x rest room e h k = record { takes = omega arith; has = h; fits = k; makes = length-replicate n _ }
whole_of Nothing x rest room e h k = record { takes = omega arith; has = h; fits = k; makes = refl }
whole_of Truncated x rest room e h k = absurd (omega arith)
whole_of Crossing x rest room e h k = absurd (omega arith)

pub is_whole : (input : List ℕ) (room : ℕ) → fault (record_at input room) ≡ 0 → Whole (record_at input room) input room
unfolding record_at
is_whole [] room e = absurd (omega arith)
is_whole (x ∷ rest) room e =
    go (ltb room (row_len (control x))) (ltb (suc (length rest)) (packed_len (control x))) refl refl e
  where
    go : (b d : Bool) → ltb room (row_len (control x)) ≡ b → ltb (suc (length rest)) (packed_len (control x)) ≡ d
        → fault (cond b Crossing (cond d Truncated (control x))) ≡ 0
        → Whole (cond b Crossing (cond d Truncated (control x))) (x ∷ rest) room
    go true d p q f = absurd (omega arith)
    go false true p q f = absurd (omega arith)
    go false false p q f = whole_of (control x) x rest room f (ltb-false _ _ q) (ltb-false _ _ p)

pub whole-control : (x : ℕ) (rest : List ℕ) (room : ℕ) → fault (record_at (x ∷ rest) room) ≡ 0
    → record_at (x ∷ rest) room ≡ control x
unfolding record_at
whole-control x rest room = go (ltb room (row_len (control x))) (ltb (suc (length rest)) (packed_len (control x)))
  where
    go : (b d : Bool) → fault (cond b Crossing (cond d Truncated (control x))) ≡ 0
        → cond b Crossing (cond d Truncated (control x)) ≡ control x
    go true d f = absurd (omega arith)
    go false true f = absurd (omega arith)
    go false false f = refl

-- the same of a record at an offset of a file
pub record WholeAt (r : Record) (file : List ℕ) (from room : ℕ) : Type 0 where
  pub takes : 0 < packed_len r
  pub has : from + packed_len r ≤ length file
  pub fits : row_len r ≤ room
  pub makes : length (row_bytes r (drop from file)) ≡ row_len r

pub whole-at : (file : List ℕ) (from room : ℕ) (r : Record) → r ≡ record_at (drop from file) room → fault r ≡ 0
    → WholeAt r file from room
whole-at file from room r is e =
    let w : Whole r (drop from file) room = rw is (is_whole (drop from file) room (rw is at e)) in
    record { takes = w.takes; has = omega (arith, length-drop from file); fits = w.fits; makes = w.makes }

-- ---- the reason of a record at fault

pub whole-none : (r : Record) → fault_of r ≡ None → fault r ≡ 0
whole-none r e = ap number_if e

pub fault-some : (r : Record) (why : Reason) → fault_of r ≡ Some why → (fault r ≡ number_of why) × (fault r ≡ 0 → ⊥)
fault-some r why e = (ap number_if e, faulty r e)
  where
    faulty : (r : Record) → fault_of r ≡ Some why → fault r ≡ 0 → ⊥
    faulty (Literal n) e z = let y : ◌≡◌ {A = ℕ} 0 1 = cc in omega arith
    faulty (Repeat n) e z = let y : ◌≡◌ {A = ℕ} 0 1 = cc in omega arith
    faulty Nothing e z = let y : ◌≡◌ {A = ℕ} 0 1 = cc in omega arith
    faulty Truncated e z = omega arith
    faulty Crossing e z = omega arith
