-- Laws of judging a writing: what each test comes to, and what is known where it is accepted.
use Rattle.std.specs.Prelude.{Ok, None, Some}
use mathlib.Core.Path.{◌≡◌, ap, ◌∙◌}
use mathlib.Core.List.{List}
use Prim.Native.Nat.{ℕ, ◌≤◌, ◌<◌}
use native.Mathlib.Omega.{arith}
use borrow.Author.Tests.{lt-ltb, le-ltb}
use Rattle.lists.specs.Written.{Written}
use Rattle.lists.proofs.Cond.{cond-ltb}
use Rattle.outcome.specs.Outcome.{Outcome, refuse}
use Rattle.outcome.specs.Refusal.{area_too_short, unknown_resolution}
use Rattle.resolution.specs.declared.Resolution.{Resolution}
use Rattle.resolution.specs.Shapes.{screen_bytes}
use Rattle.resolution.specs.Choice.{chosen, with_resolution}
use Rattle.resolution.proofs.Choice.{with_resolution-elim}
use Rattle.picture.specs.declared.FileWritten.{FileWritten}
use Rattle.picture.specs.Writing.{Writing, file_bytes, judge_areas, judge_writing}
use Rattle.picture.specs.Writing.{file_written, write_output}

-- ---- the lengths of the screen and the output

module _ {A : Type 0} (screen out : ℕ) (further : Outcome A) where
  pub areas-screen : screen < screen_bytes → judge_areas screen out further ≡ refuse area_too_short
  areas-screen h = simp (lt-ltb screen screen_bytes h)

  pub areas-output : screen_bytes ≤ screen → out < file_bytes → judge_areas screen out further ≡ refuse area_too_short
  areas-output h k = simp (le-ltb screen screen_bytes h, lt-ltb out file_bytes k)

  pub areas-fit : screen_bytes ≤ screen → file_bytes ≤ out → judge_areas screen out further ≡ further
  areas-fit h k = simp (le-ltb screen screen_bytes h, le-ltb out file_bytes k)

-- ---- and then the resolution

-- what is known of a writing that passed
pub record Passed (screen out number : ℕ) (r : Resolution) : Type 0 where
  pub screen-fits : screen_bytes ≤ screen
  pub output-fits : file_bytes ≤ out
  pub known : chosen number ≡ Some r

module _ (screen out number : ℕ) where
  -- what holds of the two refusals, and of every resolution of a writing that passed, holds of the judgement
  pub judge-elim : (P : Outcome Resolution → Type 0) → P (refuse area_too_short) → P (refuse unknown_resolution)
      → ((r : Resolution) → Passed screen out number r → P (Ok r)) → P (judge_writing screen out number)
  unfolding judge_writing
  judge-elim P short unknown passed =
      cond-ltb P screen screen_bytes (λ _. short) (λ s.
      cond-ltb P out file_bytes (λ _. short) (λ o.
      with_resolution-elim P number (λ r. Ok r) unknown
      (λ r k. passed r (record { screen-fits = s; output-fits = o; known = k }))))

  abbrev named : Outcome Resolution
  named = with_resolution number (λ r. Ok r)

  pub judge-screen : screen < screen_bytes → judge_writing screen out number ≡ refuse area_too_short
  unfolding judge_writing
  judge-screen h = areas-screen screen out named h

  pub judge-output : screen_bytes ≤ screen → out < file_bytes → judge_writing screen out number ≡ refuse area_too_short
  unfolding judge_writing
  judge-output h k = areas-output screen out named h k

  pub judge-unknown : screen_bytes ≤ screen → file_bytes ≤ out → chosen number ≡ None
      → judge_writing screen out number ≡ refuse unknown_resolution
  unfolding judge_writing
  judge-unknown h k e = areas-fit screen out named h k ∙ rw e

  pub judge-passed : (r : Resolution) → Passed screen out number r → judge_writing screen out number ≡ Ok r
  unfolding judge_writing
  judge-passed r p = areas-fit screen out named p.screen-fits p.output-fits ∙ rw p.known

  pub judge_writing-passed : (r : Resolution) → judge_writing screen out number ≡ Ok r → Passed screen out number r
  judge_writing-passed r =
      judge-elim (λ (o : Outcome Resolution). o ≡ Ok r → Passed screen out number r)
      (λ e. let z : ◌≡◌ {A = ℕ} 0 1 = cc in absurd (omega arith))
      (λ e. let z : ◌≡◌ {A = ℕ} 0 1 = cc in absurd (omega arith))
      (λ k p e. let same : k ≡ r = cc in rw same at p)

-- a file that was put over the front of the output, with its length answered
pub written-done : (w : Writing) {out after : List ℕ} {n : ℕ} → Written w.file out after n
    → (record { length = n; body = w.body; records = w.records } ≡ file_written w)
    × (after ≡ write_output (Ok w) out)
written-done w put = (
  ap {B = FileWritten} (λ (k : ℕ). record { length = k; body = w.body; records = w.records }) put.bytes,
  put.all,
)
