-- A literal and a repeat as records of their control bytes.
use Prim.Native.Nat.{ℕ, ◌+◌, ◌-◌, ◌≤◌, ◌<◌}
use native.Mathlib.Omega.{arith}
use mathlib.Core.Path.{◌≡◌, sym, subst}
use mathlib.Core.List.{List}
use lib.ListN.{length}
use Rattle.lists.specs.Over.{over}
use Rattle.pack.specs.Controls.{taken_by, shown_by, record_of}
use Rattle.pack.proofs.Controls.{shown-literal, taken-literal, shown-repeat, taken-repeat, record-length}

-- the literal of n bytes
pub literal-shown : (n : ℕ) → 1 ≤ n → n ≤ 128 → (shown_by (n - 1) ≡ n) × (taken_by (n - 1) ≡ n)
literal-shown n h l =
    let k : n - 1 < 128 = omega arith in
    (omega (arith, shown-literal (n - 1) k), omega (arith, taken-literal (n - 1) k))

-- the repeat of n bytes
pub repeat-shown : (n : ℕ) → 2 ≤ n → n ≤ 128 → (shown_by (257 - n) ≡ 1) × (taken_by (257 - n) ≡ n)
repeat-shown n h l =
    let k : 128 ≤ 257 - n = omega arith in
    (shown-repeat (257 - n) k, omega (arith, taken-repeat (257 - n) k))

-- the record of control byte c was put to the front of out
abbrev pub Puts : ℕ → List ℕ → List ℕ → List ℕ → ℕ → ℕ → Type 0
Puts c row out last taken made =
    ((taken ≡ taken_by c) × (made ≡ length (record_of c row))) × (last ≡ over (record_of c row) out)

pub puts-literal : (c n : ℕ) (row out last : List ℕ) (made : ℕ) → c ≡ n - 1 → 1 ≤ n → n ≤ 128 → n ≤ length row
    → made ≡ n + 1 → last ≡ over (record_of (n - 1) row) out → Puts c row out last n made
puts-literal c n row out last made e h l m k w =
    let s = literal-shown n h l in
    let r = record-length (n - 1) row (omega (arith, s.0)) in
    subst (λ (k : ℕ). Puts k row out last n made) (sym e) ((omega (arith, s.1), omega (arith, r, s.0)), w)

pub puts-repeat : (c n : ℕ) (row out last : List ℕ) (made : ℕ) → c ≡ 257 - n → 2 ≤ n → n ≤ 128 → 1 ≤ length row
    → made ≡ 2 → last ≡ over (record_of (257 - n) row) out → Puts c row out last n made
puts-repeat c n row out last made e h l m k w =
    let s = repeat-shown n h l in
    let r = record-length (257 - n) row (omega (arith, s.0)) in
    subst (λ (k : ℕ). Puts k row out last n made) (sym e) ((omega (arith, s.1), omega (arith, r, s.0)), w)
