-- Bounds on how far unpacking rows comes, and on what it comes to.
use Rattle.std.specs.Prelude.{Ok, Err}
use Rattle.outcome.specs.Outcome.{Outcome}
use mathlib.Core.Path.{◌≡◌, refl}
use Prim.Native.Nat.{ℕ, zero, suc, ◌≤◌}
use native.Mathlib.Nat.{sub-zero}
use native.Mathlib.Omega.{arith}
use mathlib.Core.List.{List, []}
use lib.ListN.{length, drop, length-drop}
use Rattle.lists.specs.Wide.{Wide}
use Rattle.lists.proofs.Cond.{cond-eqb}
use Rattle.outcome.specs.Refusal.{input_ends, record_crosses}
use Rattle.packbits.specs.Unpack.{Progress, progress}
use Rattle.packbits.specs.Rows.{RowsProgress, row_step, rows_from, rows_progress, Rows, rows_outcome, unpack_rows}
use Rattle.packbits.proofs.Unpack.{bounded}

-- whole rows of the width, n where no record is at fault; no more records than packed bytes, all of these in the input;
-- a fault is 6 or 7
pub record RowsReached (n width : ℕ) (input : List ℕ) (p : RowsProgress) : Type 0 where
  pub wide : Wide width p.rows
  pub used : p.bytes ≤ length input
  pub counted : p.records ≤ p.bytes
  pub full : p.fault ≡ 0 → length p.rows ≡ n
  pub numbers : (p.fault ≡ input_ends → ⊥) → (p.fault ≡ record_crosses → ⊥) → p.fault ≡ 0

reached-step : (n width : ℕ) (input : List ℕ) (next : ℕ → RowsProgress)
    → ((used : ℕ) → RowsReached n width (drop used input) (next used))
    → RowsReached (suc n) width input (row_step [] (progress input width) next)
unfolding row_step
reached-step n width input next ih =
    let p : Progress = progress input width in
    let b = bounded input width in
    let q = ih p.bytes in
    cond-eqb (RowsReached (suc n) width input) p.fault 0
    (λ e. record {
      wide = (b.full e, q.wide);
      used = omega (arith, b.used, q.used, length-drop p.bytes input);
      counted = omega (arith, b.counted, q.counted);
      full = λ f. omega (arith, q.full f);
      numbers = q.numbers;
    })
    (λ e. record { wide = tt; used = b.used; counted = b.counted; full = λ f. absurd (e f); numbers = b.numbers })

pub rows-reached : (n width : ℕ) (input : List ℕ) → RowsReached n width input (rows_progress n width input)
unfolding rows_from
rows-reached zero width input = record {
  wide = tt;
  used = omega arith;
  counted = omega arith;
  full = λ e. refl;
  numbers = λ six seven. refl;
}
rows-reached (suc n) width input =
    rw (sub-zero width) (reached-step n width input (λ used. rows_progress n width (drop used input))
    (λ used. rows-reached n width (drop used input)))

-- the same of the outcome; a refusal has a number, and a place in the input or at its end
abbrev pub RowsBounded : List ℕ → ℕ → ℕ → Outcome Rows → Type 0
RowsBounded input width n (Ok q) =
    (length q.rows ≡ n) × Wide width q.rows × (q.bytes ≤ length input) × (q.records ≤ q.bytes)
RowsBounded input width n (Err why) = (why.number ≡ 0 → ⊥) × (why.place ≤ length input)

pub rows-bounded : (n width : ℕ) (input : List ℕ) → RowsBounded input width n (unpack_rows n width input)
unfolding rows_outcome
rows-bounded n width input =
    let b = rows-reached n width input in
    cond-eqb (RowsBounded input width n) (rows_progress n width input).fault 0
    (λ e. (b.full e, b.wide, b.used, b.counted))
    (λ e. (e, b.used))
