-- Laws of reading a MacPaint file: what is judged of its header.
use Rattle.std.specs.Prelude.{Ok, ⊤}
use mathlib.Core.Path.{◌≡◌, refl}
use mathlib.Core.Bool.{Bool, true, false, not}
use mathlib.Core.List.{List}
use Prim.Native.Nat.{ℕ, ◌≤◌, ◌<◌}
use lib.ListN.{length}
use lib.Dec.{ltb}
use borrow.Author.Tests.{lt-ltb, le-ltb}
use Rattle.outcome.specs.Outcome.{Outcome, refuse, refuse_if, bind}
use Rattle.outcome.specs.Refusal.{wrong_length, wrong_version}
use Rattle.macpaint.specs.Layout.{header_length, longest_file}
use Rattle.macpaint.specs.Plate.{plate_bytes}
use Rattle.macpaint.specs.Reading.{version_allowed, judge_header, plate_body, read_plate}

module _ {A : Type 0} (file : List ℕ) (further : Outcome A) where
  -- a file that is too long, whatever its version
  pub header-long : header_length ≤ length file → longest_file < length file
      → judge_header file further ≡ refuse wrong_length
  header-long long h = rw (le-ltb (length file) header_length long, lt-ltb longest_file (length file) h)

  -- a file of an allowed length whose version is not allowed
  pub header-version : header_length ≤ length file → length file ≤ longest_file → version_allowed file ≡ false
      → judge_header file further ≡ refuse wrong_version
  header-version long short bad =
      rw (le-ltb (length file) header_length long, le-ltb longest_file (length file) short, bad)

  -- a file of an allowed length and version is judged further
  pub judge-passed : header_length ≤ length file → length file ≤ longest_file → version_allowed file ≡ true
      → judge_header file further ≡ further
  judge-passed long short good =
      rw (le-ltb (length file) header_length long, le-ltb longest_file (length file) short, good)

  -- what is judged further with a header is what follows its judgement
  pub judge-bind : judge_header file further ≡ bind (judge_header {A = ⊤} file (Ok tt)) (λ _. further)
  judge-bind = go (ltb (length file) header_length) (ltb longest_file (length file)) (not (version_allowed file))
    where
      tests : {B : Type 0} → Bool → Bool → Bool → Outcome B → Outcome B
      tests short long bad then =
          refuse_if short wrong_length (refuse_if long wrong_length (refuse_if bad wrong_version then))

      go : (short long bad : Bool) → tests short long bad further
          ≡ bind (tests {B = ⊤} short long bad (Ok tt)) (λ _. further)
      go true long bad = refl
      go false true bad = refl
      go false false true = refl
      go false false false = refl

-- the area, and then the header
pub read-judged : (file : List ℕ) (area : ℕ) → plate_bytes ≤ area
    → read_plate file area ≡ judge_header file (plate_body file)
unfolding read_plate
read-judged file area room = rw (le-ltb area plate_bytes room)
