-- Laws of control bytes: what each says, how its record is written, and the record that a least body begins with.
use Prim.Native.Nat.{ℕ, suc, ◌+◌, ◌-◌, ◌≤◌, ◌<◌}
use native.Mathlib.Omega.{arith}
use native.Mathlib.Numerals.{add-one}
use mathlib.Core.Path.{◌≡◌, refl, ap, ◌∙◌}
use mathlib.Core.List.{List, [], ◌∷◌, ◌++◌}
use borrow.Rule.Slice.PartMut.{put_mid}
use borrow.Author.Tests.{lt-ltb, le-ltb}
use lib.ListN.{length, get_or, take, drop, set, length-drop, length-set}
use lib.Seq.{length-take-le}
use Rattle.lists.specs.Over.{over}
use Rattle.lists.proofs.Parts.{tail-part, tail-put}
use Rattle.pack.specs.Least.{Body, scan, least, least_records}
use Rattle.pack.specs.Controls.{taken_by, shown_by, record_of}
use Rattle.pack.proofs.Valid.{FirstRecord, a-literal, a-repeat, first-record}

-- ---- what a control byte says

pub shown-literal : (c : ℕ) → c < 128 → shown_by c ≡ c + 1
unfolding shown_by
shown-literal c h = rw (lt-ltb c 128 h) refl

pub taken-literal : (c : ℕ) → c < 128 → taken_by c ≡ c + 1
unfolding taken_by
taken-literal c h = rw (lt-ltb c 128 h) refl

pub shown-repeat : (c : ℕ) → 128 ≤ c → shown_by c ≡ 1
unfolding shown_by
shown-repeat c h = rw (le-ltb c 128 h) refl

pub taken-repeat : (c : ℕ) → 128 ≤ c → taken_by c ≡ 257 - c
unfolding taken_by
taken-repeat c h = rw (le-ltb c 128 h) refl

pub record-length : (c : ℕ) (row : List ℕ) → shown_by c ≤ length row → length (record_of c row) ≡ shown_by c + 1
record-length c row h = omega (arith, length-take-le (shown_by c) row h)

-- ---- its record as it is written

-- a literal: the control byte, and then n bytes over the rest of out
pub literal-room : (c n : ℕ) (row out : List ℕ) → n ≤ length row → n < length out
    → length (take n row) ≤ length (take (length (set out 0 c) - 1) (drop 1 (set out 0 c)))
literal-room c n row out h l =
    rw (tail-part (set out 0 c) 1)
    (omega (arith, length-take-le n row h, length-drop 1 (set out 0 c), length-set out 0 c))

pub literal-written : (c n : ℕ) (row out last : List ℕ) → 1 ≤ length out
    → last ≡ over (take n row) (take (length (set out 0 c) - 1) (drop 1 (set out 0 c)))
    → put_mid 1 (length (set out 0 c) - 1) (set out 0 c) last ≡ over (c ∷ take n row) out
literal-written c n row [] last l e = absurd (omega arith)
literal-written c n row (a ∷ out) last l e =
    tail-put (c ∷ out) last 1 (omega arith)
    ∙ ap (λ (t : List ℕ). c ∷ t) (e ∙ ap (over (take n row)) (tail-part (c ∷ out) 1))

-- a repeat
pub repeat-written : (c : ℕ) (row out : List ℕ) → 1 ≤ length row → 2 ≤ length out
    → set (set out 0 c) 1 (get_or row 0 0) ≡ over (c ∷ take 1 row) out
repeat-written c [] out h l = absurd (omega arith)
repeat-written c (x ∷ row) [] h l = absurd (omega arith)
repeat-written c (x ∷ row) (a ∷ []) h l = absurd (omega arith)
repeat-written c (x ∷ row) (a ∷ b ∷ out) h l = refl

-- ---- the record that a least body begins with

-- the body b of the suffix s is the record of control byte c and then a least body
pub record Leads (c : ℕ) (s : List ℕ) (b : Body) : Type 0 where
  pub byte : c < 256
  pub some : 1 ≤ taken_by c
  pub within : taken_by c ≤ length s
  pub shown : shown_by c ≤ length s
  pub bytes : b.bytes ≡ record_of c s ++ least (drop (taken_by c) s)
  pub records : b.records ≡ suc (least_records (drop (taken_by c) s))

leads-first : (x : ℕ) (t : List ℕ) (b : Body) → suc (length t) ≤ 128 → FirstRecord x t b
    → Leads (get_or b.bytes 0 0) (x ∷ t) b
leads-first x t b h (a-literal k l) =
    let n : taken_by k ≡ suc k = taken-literal k (omega arith) ∙ add-one k in
    let m : shown_by k ≡ suc k = shown-literal k (omega arith) ∙ add-one k in
    record {
      byte = omega arith;
      some = omega arith;
      within = omega arith;
      shown = omega arith;
      bytes = rw (n, m) refl;
      records = rw n refl;
    }
leads-first x t b h (a-repeat k one l e) =
    let n : taken_by (256 - k) ≡ suc k = taken-repeat (256 - k) (omega arith) ∙ omega arith in
    let m : shown_by (256 - k) ≡ 1 = shown-repeat (256 - k) (omega arith) in
    record {
      byte = omega arith;
      some = omega arith;
      within = omega arith;
      shown = omega arith;
      bytes = rw (n, m) refl;
      records = rw n refl;
    }

pub leads : (s : List ℕ) → 1 ≤ length s → length s ≤ 128 → Leads (get_or (least s) 0 0) s (scan s).best
leads [] l h = absurd (omega arith)
leads (x ∷ t) l h = leads-first x t (scan (x ∷ t)).best h (first-record x t)
