-- Laws of reading: each test picks a case.
use Rattle.std.specs.Prelude.{Ok, Err, ⊤}
use mathlib.Core.Path.{◌≡◌, refl, sym, ap, ◌∙◌}
use mathlib.Core.Bool.{Bool, true, false, not}
use mathlib.Core.List.{List}
use Prim.Native.Nat.{ℕ, ◌*◌, ◌≤◌, ◌<◌}
use lib.ListN.{length, take}
use lib.Dec.{ltb}
use borrow.Author.Tests.{lt-ltb, le-ltb, ltb-false}
use Rattle.outcome.specs.declared.Refusal.{Refusal}
use Rattle.outcome.specs.Outcome.{Outcome, refusal, refuse, refuse_if}
use Rattle.outcome.specs.Refusal.{area_too_short, wrong_length, wrong_tail, outside_profile}
use Rattle.gem_img.specs.Header.{least_header_bytes, header_bytes, pattern, width, lines}
use Rattle.gem_img.specs.Header.{in_profile, bytes_per_line}
use Rattle.gem_img.specs.Lines.{fill_lines}
use Rattle.gem_img.specs.Reading.{area_bytes, fill_image, read_lines, judge_header, header_judged, read_img}
use Rattle.gem_img.proofs.Lines.{lines-all}

-- ---- the header

-- judged further where none of three tests holds
abbrev tests : {A : Type 0} → Bool → Bool → Bool → Outcome A → Outcome A
tests short cut bad further =
    refuse_if short wrong_length (refuse_if cut wrong_length (refuse_if bad outside_profile further))

module _ (file : List ℕ) where
  pub below-least : length file < least_header_bytes → header_judged file ≡ refuse wrong_length
  unfolding header_judged
  below-least h = rw (lt-ltb (length file) least_header_bytes h)

  module _ (long : least_header_bytes ≤ length file) where
    pub below-header : length file < header_bytes file → header_judged file ≡ refuse wrong_length
    unfolding header_judged
    below-header h = rw (le-ltb (length file) least_header_bytes long, lt-ltb (length file) (header_bytes file) h)

    module _ (has : header_bytes file ≤ length file) where
      pub profile-wrong : in_profile file ≡ false → header_judged file ≡ refuse outside_profile
      unfolding header_judged
      profile-wrong e =
          rw (le-ltb (length file) least_header_bytes long, le-ltb (length file) (header_bytes file) has, e)

      pub profile-right : in_profile file ≡ true → header_judged file ≡ Ok tt
      unfolding header_judged
      profile-right e =
          rw (le-ltb (length file) least_header_bytes long, le-ltb (length file) (header_bytes file) has, e)

  -- judged further, or refused for that reason
  pub judge-refused : {A : Type 0} (further : Outcome A) (why : Refusal) → header_judged file ≡ Err why
      → judge_header file further ≡ Err why
  unfolding header_judged
  judge-refused {A} further why =
      go (ltb (length file) least_header_bytes) (ltb (length file) (header_bytes file)) (not (in_profile file))
    where
      go : (short cut bad : Bool) → tests {A = ⊤} short cut bad (Ok tt) ≡ Err why
          → tests short cut bad further ≡ Err why
      go true cut bad e = cc
      go false true bad e = cc
      go false false true e = cc
      go false false false e = cc

  -- what a header that is not refused has
  pub record Headed : Type 0 where
    pub long : least_header_bytes ≤ length file
    pub has : header_bytes file ≤ length file
    pub profile : in_profile file ≡ true

  pub headed : header_judged file ≡ Ok tt → Headed
  unfolding header_judged
  headed e = go (ltb (length file) least_header_bytes) (ltb (length file) (header_bytes file)) (in_profile file) refl refl
      refl
    where
      go : (a b d : Bool) → ltb (length file) least_header_bytes ≡ a → ltb (length file) (header_bytes file) ≡ b
          → in_profile file ≡ d → Headed
      go true b d ea eb ed = let z = rw ea at e in cc
      go false true d ea eb ed = let z = rw (ea, eb) at e in cc
      go false false false ea eb ed = let z = rw (ea, eb, ed) at e in cc
      go false false true ea eb ed =
          record {
            long = ltb-false (length file) least_header_bytes ea;
            has = ltb-false (length file) (header_bytes file) eb;
            profile = ed;
          }

  -- ---- the lines

  pub length-image : (end : ℕ) → (fill_image file).ends ≡ Ok end
      → length (fill_image file).made ≡ lines file * bytes_per_line (width file)
  length-image = lines-all (pattern file) (bytes_per_line (width file)) file (header_bytes file) (lines file)

  -- their bytes as the front of a buffer
  pub image-front : (end all : ℕ) (made : List ℕ) → (fill_image file).ends ≡ Ok end
      → take (length (fill_image file).made) made ≡ (fill_image file).made
      → all ≡ lines file * bytes_per_line (width file) → take all made ≡ (fill_image file).made
  image-front end all made e front is =
      ap (λ (k : ℕ). take k made) (is ∙ sym (length-image end e)) ∙ front

  -- the lines of the header's words, as the code has them
  pub image-called : (p bytes at n : ℕ) → p ≡ pattern file → bytes ≡ bytes_per_line (width file)
      → at ≡ header_bytes file → n ≡ lines file → fill_lines p bytes file at n ≡ fill_image file
  image-called p bytes at n e f g h = rw (e, f, g, h)

  pub lines-refused : (why : Refusal) → (fill_image file).ends ≡ Err why → read_lines file ≡ Err why
  unfolding read_lines
  lines-refused why e = rw e

  module _ (end : ℕ) (is : (fill_image file).ends ≡ Ok end) where
    pub bytes_left : end < length file → read_lines file ≡ Err (refusal wrong_tail end)
    unfolding read_lines
    bytes_left h = rw (is, lt-ltb end (length file) h)

    pub lines-read : length file ≤ end → read_lines file
        ≡ Ok (record { width = width file; lines = lines file; bytes = (fill_image file).made })
    unfolding read_lines
    lines-read h = rw (is, le-ltb end (length file) h)

  -- ---- the whole file

  module _ (area : ℕ) where
    pub area-short : area < area_bytes → read_img file area ≡ refuse area_too_short
    unfolding read_img
    area-short h = rw (lt-ltb area area_bytes h)

    module _ (room : area_bytes ≤ area) where
      -- any area that is long enough is as good
      pub area-enough : read_img file area ≡ read_img file area_bytes
      unfolding read_img
      area-enough = rw (le-ltb area area_bytes room)

      pub header_refused : (why : Refusal) → header_judged file ≡ Err why → read_img file area ≡ Err why
      unfolding read_img
      header_refused why e = rw (le-ltb area area_bytes room) (judge-refused (read_lines file) why e)

      pub header-right : header_judged file ≡ Ok tt → read_img file area ≡ read_lines file
      unfolding read_img
      header-right e =
          let p = headed e in
          rw (
            le-ltb area area_bytes room,
            le-ltb (length file) least_header_bytes p.long,
            le-ltb (length file) (header_bytes file) p.has,
            p.profile,
          )
