-- Laws of the header: each test picks a case, and what a header in the profile has.
use mathlib.Core.Path.{◌≡◌, refl}
use mathlib.Core.Bool.{true, not}
use mathlib.Core.List.{List}
use Prim.Native.Nat.{ℕ, ◌+◌, ◌*◌, ◌/◌, ◌≤◌, ◌<◌}
use native.Mathlib.Omega.{arith}
use native.Mathlib.Nat.{mul-le-mul}
use lib.Dec.{ltb, leb, eqb}
use borrow.Author.Tests.{eq-eqb, ne_eqb, eqb-true, eqb-false, le-ltb, le-leb, leb-true, ltb-false, not-true}
use Rattle.lists.proofs.Cond.{and-true}
use Rattle.gem_img.specs.Header.{least_header_words, profile_version, profile_planes, most_pattern, most_width}
use Rattle.gem_img.specs.Header.{most_line_bytes, most_lines}
use Rattle.gem_img.specs.Header.{version, header_words, planes, pattern, width, lines, up_to, in_profile}
use Rattle.gem_img.specs.Header.{bytes_per_line}
use Rattle.gem_img.specs.Accepts.{Profiled}

-- ---- from 1 to the most

module _ (most n : ℕ) where
  pub up-to-some : (n ≡ 0 → ⊥) → up_to most n ≡ leb n most
  unfolding up_to
  up-to-some h = rw (ne_eqb n 0 h)

  pub up-to-inside : (n ≡ 0 → ⊥) → n ≤ most → up_to most n ≡ true
  unfolding up_to
  up-to-inside h k = rw (ne_eqb n 0 h, le-leb n most k)

  pub up-to-bounds : up_to most n ≡ true → (1 ≤ n) × (n ≤ most)
  unfolding up_to
  up-to-bounds e =
      let b = and-true (not (eqb n 0)) (leb n most) e in
      let ne : n ≡ 0 → ⊥ = eqb-false n 0 (not-true (eqb n 0) b.0) in
      (omega arith, leb-true n most b.1)

-- ---- the profile

pub line-bytes : (pixels : ℕ) → bytes_per_line pixels ≡ (pixels + 7) / 8
unfolding bytes_per_line
line-bytes pixels = refl

pub line-most : (pixels : ℕ) → pixels ≤ most_width → bytes_per_line pixels ≤ most_line_bytes
unfolding bytes_per_line
line-most pixels h = omega arith

module _ (file : List ℕ) where
  pub profiled : in_profile file ≡ true → Profiled file
  unfolding in_profile
  profiled e =
      let a = and-true (eqb (version file) profile_version) _ e in
      let b = and-true (not (ltb (header_words file) least_header_words)) _ a.1 in
      let d = and-true (eqb (planes file) profile_planes) _ b.1 in
      let p = and-true (up_to most_pattern (pattern file)) _ d.1 in
      let w = and-true (up_to most_width (width file)) (up_to most_lines (lines file)) p.1 in
      record {
        first = eqb-true (version file) profile_version a.0;
        words = ltb-false (header_words file) least_header_words
            (not-true (ltb (header_words file) least_header_words) b.0);
        single = eqb-true (planes file) profile_planes d.0;
        repeats = up-to-bounds most_pattern (pattern file) p.0;
        wide = up-to-bounds most_width (width file) w.0;
        tall = up-to-bounds most_lines (lines file) w.1;
      }

  pub in-profile : Profiled file → in_profile file ≡ true
  unfolding in_profile
  in-profile p =
      let some_pattern : pattern file ≡ 0 → ⊥ = λ h. omega (arith, p.repeats.0) in
      let some-width : width file ≡ 0 → ⊥ = λ h. omega (arith, p.wide.0) in
      let some-lines : lines file ≡ 0 → ⊥ = λ h. omega (arith, p.tall.0) in
      rw (
        eq-eqb (version file) profile_version p.first,
        le-ltb (header_words file) least_header_words p.words,
        eq-eqb (planes file) profile_planes p.single,
        up-to-inside most_pattern (pattern file) some_pattern p.repeats.1,
        up-to-inside most_width (width file) some-width p.wide.1,
        up-to-inside most_lines (lines file) some-lines p.tall.1,
      )

  -- the lines fit the area
  pub lines_fit : Profiled file → (bytes_per_line (width file) ≤ most_line_bytes) ×
      (lines file * bytes_per_line (width file) ≤ 32000)
  lines_fit p =
      let wide = line-most (width file) p.wide.1 in (
        wide,
        mul-le-mul {n₁ = lines file} {m₁ = bytes_per_line (width file)} {n₂ = most_lines} {m₂ = most_line_bytes}
            p.tall.1 wide,
      )

  -- a line has a byte at least
  pub line-least : Profiled file → 0 < bytes_per_line (width file)
  unfolding bytes_per_line
  line-least p = omega (arith, p.wide.0)
