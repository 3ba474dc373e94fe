-- Row unpack: its cases, what it writes, and what it accepts.
use Rattle.std.specs.Prelude.{Ok, Err}
use mathlib.Core.Path.{◌≡◌, refl, sym, ap, ◌∙◌}
use mathlib.Core.Logic.{◌↔◌}
use Prim.Native.Nat.{ℕ, ◌≤◌, ◌<◌}
use native.Mathlib.Decide.{dec_lt}
use native.Mathlib.Omega.{arith}
use mathlib.Core.Bool.{Bool, true, false}
use mathlib.Core.List.{List}
use lib.ListN.{length}
use borrow.Author.Tests.{lt-ltb, le-ltb}
use Rattle.lists.specs.Bytes.{Bytes}
use Rattle.lists.specs.Over.{over}
use Rattle.lists.proofs.Cond.{cond-eqb}
use Rattle.lists.proofs.Over.{over-whole}
use Rattle.outcome.specs.declared.Refusal.{Refusal}
use Rattle.outcome.specs.Outcome.{Outcome, refuse, row_refusal, map, placed}
use Rattle.outcome.specs.Refusal.{area_too_short, out_of_range}
use Rattle.packbits.specs.declared.Packed.{Packed}
use Rattle.packbits.specs.Row.{Row, done, row_packed, given_row_answer, row_answer, row_output, width_out_of_range}
use Rattle.packbits.specs.Unpack.{progress, outcome_of, unpack, unpack_row}
use Rattle.packbits.proofs.Exact.{exact}
use Rattle.packbits.proofs.Row.{in-range, of_range}
use Rattle.packbits.proofs.Unpack.{bounded}
use Rattle.unpack.specs.AcceptsRow.{AcceptsRow}

-- ---- the cases, in the order of judging

module _ (packed : List ℕ) (width room : ℕ) where
  pub row_out : width_out_of_range width ≡ true → unpack_row packed width room ≡ refuse out_of_range
  unfolding unpack_row
  row_out w = rw w

  module _ (w : width_out_of_range width ≡ false) where
    pub row-short : room < width → unpack_row packed width room ≡ refuse area_too_short
    unfolding unpack_row
    row-short h = rw (w, lt-ltb room width h)

    pub row_room : width ≤ room → unpack_row packed width room ≡ unpack packed width
    unfolding unpack_row
    row_room h = rw (w, le-ltb room width h)

-- ---- the answer and the output

pub placed-none : (o : Outcome Row) → map row_packed (placed 0 o) ≡ map row_packed o
placed-none (Ok r) = refl
placed-none (Err why) =
    ap (λ (k : ℕ). Err (row_refusal why.number k why.plane_row why.good_bytes)) (omega arith)

-- a place counted from the packed bytes' start is the place itself
pub answer-placed : (o : Outcome Row) → row_answer (placed 0 o) ≡ row_answer o
answer-placed o = ap given_row_answer (placed-none o)

-- an accepted row, made over a buffer of its width and copied from there, stands at the front of the output
pub copied-output : (input buffer out : List ℕ) (q : Packed) → map row_packed (unpack input (length buffer)) ≡ Ok q
    → over (over (progress input (length buffer)).made buffer) out ≡ row_output (unpack input (length buffer)) out
unfolding outcome_of
copied-output input buffer out q =
    let p = progress input (length buffer) in
    cond-eqb (λ o. map row_packed o ≡ Ok q → over (over p.made buffer) out ≡ row_output o out) p.fault 0
    (λ e z. ap (λ (l : List ℕ). over l out)
    (over-whole p.made buffer (omega (arith, (bounded input (length buffer)).full e))))
    (λ e z. let y : ◌≡◌ {A = ℕ} 0 1 = cc in absurd (omega arith))

-- ---- what is accepted

not-both : {o : Outcome Row} {why : Refusal} {r : Row} → o ≡ Err why → o ≡ Ok r → ⊥
not-both p q = let z : ◌≡◌ {A = ℕ} 0 1 = cc in omega arith

-- row unpack accepts just that
pub row-exact : (packed : List ℕ) (width room used records : ℕ) (row : List ℕ) → Bytes packed
    → (unpack_row packed width room ≡ done used records row) ↔ AcceptsRow packed width room used records row
row-exact packed width room used records row bytes = (there (width_out_of_range width) refl (dec_lt room width), back)
  where
    there : (w : Bool) → width_out_of_range width ≡ w → Dec (room < width)
        → unpack_row packed width room ≡ done used records row
        → AcceptsRow packed width room used records row
    there true w t e = absurd (not-both (row_out packed width room w) e)
    there false w (yes l) e = absurd (not-both (row-short packed width room w l) e)
    there false w (no l) e =
        let s = (exact packed width used records row bytes).0 (sym (row_room packed width room w (omega arith)) ∙ e) in
        let r = in-range width w in
        (r.0, r.1, omega arith, s.0, s.1, s.2)

    back : AcceptsRow packed width room used records row → unpack_row packed width room ≡ done used records row
    back s =
        row_room packed width room (of_range width s.0 s.1) s.2
        ∙ (exact packed width used records row bytes).1 (s.3, s.4, s.5)
