-- Laws of opening a DEGAS file: what each test that the code makes comes to.
use Rattle.std.specs.Prelude.{Ok, None, Some}
use mathlib.Core.Path.{◌≡◌}
use mathlib.Core.List.{List}
use Prim.Native.Nat.{ℕ, ◌≤◌, ◌<◌}
use lib.ListN.{length}
use borrow.Author.Tests.{lt-ltb, le-ltb}
use Rattle.lists.proofs.Cond.{cond-ltb}
use Rattle.outcome.specs.Outcome.{Outcome, refuse, bind}
use Rattle.outcome.specs.Refusal.{wrong_length, unknown_resolution}
use Rattle.resolution.specs.declared.Resolution.{Resolution}
use Rattle.resolution.specs.Choice.{chosen}
use Rattle.resolution.proofs.Choice.{with_resolution-elim}
use Rattle.degas.specs.declared.Header.{Header}
use Rattle.degas.specs.Layout.{header_length}
use Rattle.degas.specs.Opening.{resolution_number, is_packed, opening}

-- the header of a file at a resolution
abbrev pub header_of : List ℕ → Resolution → Header
header_of file r = record { resolution = r; packed = is_packed file }

module _ (file : List ℕ) where
  pub opening-short : length file < header_length → opening file ≡ refuse wrong_length
  unfolding opening
  opening-short h = simp (lt-ltb (length file) header_length h)

  module _ (h : header_length ≤ length file) where
    pub opening-known : (r : Resolution) → chosen (resolution_number file) ≡ Some r
        → opening file ≡ Ok (header_of file r)
    unfolding opening
    opening-known r e = rw (le-ltb (length file) header_length h, e)

  -- what holds of both refusals, and at every resolution of what is judged further, holds of the opened file
  pub opening-elim : {A : Type 0} (P : Outcome A → Type 0) (further : Header → Outcome A)
      → P (refuse wrong_length) → P (refuse unknown_resolution)
      → ((r : Resolution) → chosen (resolution_number file) ≡ Some r → P (further (header_of file r)))
      → P (bind (opening file) further)
  unfolding opening
  opening-elim P further short unknown known =
      let Q : Outcome Header → Type 0 = λ o. P (bind o further) in
      cond-ltb Q (length file) header_length
      (λ _. short)
      (λ _. with_resolution-elim Q (resolution_number file) (λ r. Ok (header_of file r)) unknown known)
