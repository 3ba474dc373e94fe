-- Laws of `pack_within`: its refusals, its acceptance, and room for the longest body; the bound of `least_len`.
use Prim.Native.Nat.{ℕ, ◌≤◌, ◌<◌}
use native.Mathlib.Omega.{arith}
use mathlib.Core.Path.{◌≡◌, sym, ◌∙◌}
use mathlib.Core.Bool.{true, false}
use mathlib.Core.List.{List}
use lib.ListN.{length}
use borrow.Author.Tests.{lt-ltb, le-ltb}
use Rattle.lists.proofs.Cond.{cond-leb}
use Rattle.outcome.specs.Outcome.{refuse}
use Rattle.outcome.specs.Refusal.{area_too_short, out_of_range}
use Rattle.packbits.specs.Row.{done, width_out_of_range}
use Rattle.packbits.proofs.Row.{in-range}
use Rattle.pack.specs.Least.{least, least_records}
use Rattle.pack.specs.Pack.{max_body, pack_within, pack_row, pack_into, least_len}
use Rattle.pack.proofs.Bounds.{least-bound}

module _ (needed : ℕ) (row : List ℕ) (room : ℕ) where
  pub pack-wide : width_out_of_range (length row) ≡ true → pack_within needed row room ≡ refuse out_of_range
  unfolding pack_within
  pack-wide w = rw w

  pub pack-short : width_out_of_range (length row) ≡ false → room < needed
      → pack_within needed row room ≡ refuse area_too_short
  unfolding pack_within
  pack-short w h = rw (w, lt-ltb room needed h)

  pub pack-done : width_out_of_range (length row) ≡ false → needed ≤ room
      → pack_within needed row room ≡ done (length (least row)) (least_records row) (least row)
  unfolding pack_within
  pack-done w h = rw (w, le-ltb room needed h)

-- a room for the longest body holds every least body
pub pack-into-row : (row : List ℕ) (room : ℕ) → width_out_of_range (length row) ≡ false → max_body ≤ room
    → pack_into row room ≡ pack_row row room
pack-into-row row room w h =
    pack-done (length (least row)) row room w (omega (arith, least-bound row, in-range (length row) w))
    ∙ sym (pack-done max_body row room w h)

pub least_len-bound : (row : List ℕ) → least_len row ≤ max_body
least_len-bound row =
    cond-leb (λ (n : ℕ). n ≤ max_body) (length row) 128 (λ narrow. omega (arith, least-bound row)) (λ wide. omega arith)
