-- Laws of `judge_rows`: what is judged further.
use mathlib.Core.Path.{◌≡◌}
use mathlib.Core.Bool.{false}
use Prim.Native.Nat.{ℕ, ◌/◌, ◌≤◌}
use native.Mathlib.Nat.{le-div_iff_mul-le}
use borrow.Author.Tests.{le-ltb}
use Rattle.outcome.specs.Outcome.{Outcome}
use Rattle.packbits.specs.Row.{width_out_of_range}
use Rattle.packbits.specs.Rows.{Rows}
use Rattle.packbits.proofs.Row.{in-range, of_range}
use Rattle.unpack.specs.Rows.{judge_rows, RowsFit}

module _ (rows width room : ℕ) (further : Outcome Rows) where
  pub judge-fit : RowsFit rows width room → judge_rows rows width room further ≡ further
  unfolding judge_rows
  judge-fit f =
      rw (of_range width f.some f.narrow, le-ltb (room / width) rows ((le-div_iff_mul-le f.some).1 f.size))

module _ {rows width room : ℕ} where
  pub rows_fit : width_out_of_range width ≡ false → rows ≤ room / width → RowsFit rows width room
  rows_fit w h =
      let r = in-range width w in
      record { some = r.0; narrow = r.1; size = (le-div_iff_mul-le r.0).0 h }
