-- Laws of the two lists: how each opens a file, beside the other, and what each shows of it.
use Rattle.std.specs.Prelude.{Ok, Err, None}
use mathlib.Core.Path.{◌≡◌, refl, sym, ap, ◌∙◌}
use mathlib.Core.List.{List}
use Prim.Native.Nat.{ℕ, ◌+◌, ◌/◌, ◌%◌, ◌^◌, ◌<◌}
use native.Mathlib.Decide.{dec_lt}
use native.Mathlib.Omega.{arith}
use lib.ListN.{length, get_or}
use lib.Dec.{leb, eqb}
use borrow.Author.Tests.{le-leb, lt-leb, eq-eqb, ne_eqb}
use Rattle.lists.specs.Bytes.{Bytes}
use Rattle.lists.proofs.Cond.{cond-eqb}
use Rattle.outcome.specs.declared.Refusal.{Refusal}
use Rattle.outcome.specs.Outcome.{Outcome, refuse}
use Rattle.outcome.specs.Refusal.{unknown_resolution, wrong_length}
use Rattle.outcome.proofs.Outcome.{judged-value}
use Rattle.words.specs.Word.{word_at}
use Rattle.resolution.specs.declared.Resolution.{Resolution}
use Rattle.resolution.specs.Choice.{chosen, with_resolution}
use Rattle.resolution.proofs.Choice.{with_resolution-elim}
use Rattle.neochrome.specs.Layout.{resolution_start, file_length}
use Rattle.neochrome.specs.Opening.{opening}
use Rattle.neochrome.specs.Accepts.{AcceptsNeochrome}
use Rattle.neochrome.proofs.Opening.{Passes, opening-length, opening-flag, opening-judged, opened_fits}
use Rattle.neochrome_animation.specs.Lists.{long_resolution, opening1989, flag_as_resolution, bit15_at}

-- ---- a file opened by the list of 1989, beside the list of 2008: 5 in place of 4

by_equal : {P : Type 0} (m n : ℕ) → (m ≡ n → P) → ((m ≡ n → ⊥) → P) → P
by_equal {P} m n f g = cond-eqb (λ (u : ℕ). P) {a = 0} {b = 0} m n f g

unflagged : Outcome Resolution → Outcome Resolution
unflagged (Ok r) = Ok r
unflagged (Err why) = Err (flag_as_resolution why)

module _ (file : List ℕ) where
  length-1989 : (length file ≡ file_length → ⊥) → opening1989 file ≡ refuse wrong_length
  unfolding opening1989
  length-1989 h = simp (ne_eqb (length file) file_length h)

  -- a flag that is not 0 makes the four bytes' number too large
  long-flag : (word_at file 0 ≡ 0 → ⊥) → chosen (long_resolution file) ≡ None
  long-flag h =
      rw (
        ne_eqb (long_resolution file) 0 (λ e. omega arith),
        ne_eqb (long_resolution file) 1 (λ e. omega arith),
        ne_eqb (long_resolution file) 2 (λ e. omega arith),
      )

  module _ (size : length file ≡ file_length) where
    flag-1989 : (word_at file 0 ≡ 0 → ⊥) → opening1989 file ≡ refuse unknown_resolution
    unfolding opening1989
    flag-1989 h = rw (eq-eqb (length file) file_length size, long-flag h)

    -- without a flag both judge the resolution's word
    module _ (flag : word_at file 0 ≡ 0) where
      abbrev judged : Outcome Resolution
      judged = with_resolution (word_at file resolution_start) (λ r. Ok r)

      word-1989 : opening1989 file ≡ judged
      unfolding opening1989
      word-1989 =
          let e : long_resolution file ≡ word_at file resolution_start = omega arith in
          rw (eq-eqb (length file) file_length size, e)

      word-2008 : opening file ≡ judged
      unfolding opening
      word-2008 = rw (eq-eqb (length file) file_length size, eq-eqb (word_at file 0) 0 flag)

      judged-unflagged : unflagged judged ≡ judged
      unfolding unflagged
      judged-unflagged =
          with_resolution-elim (λ (o : Outcome Resolution). unflagged o ≡ o) (word_at file resolution_start)
          (λ r. Ok r) refl (λ r e. refl)

  opening-1989 : opening1989 file ≡ unflagged (opening file)
  unfolding unflagged
  opening-1989 =
      by_equal (length file) file_length
      (λ size.
      by_equal (word_at file 0) 0
      (λ flag. word-1989 size flag ∙ sym (judged-unflagged size flag) ∙ ap unflagged (sym (word-2008 size flag)))
      (λ h. flag-1989 size h ∙ sym (ap unflagged (opening-flag file size h))))
      (λ h. length-1989 h ∙ sym (ap unflagged (opening-length file h)))

  pub opened-as-1989 : (r : Resolution) → opening file ≡ Ok r → opening1989 file ≡ Ok r
  unfolding unflagged
  opened-as-1989 r e = opening-1989 ∙ ap unflagged e

  pub refused-as-1989 : (why : Refusal) → opening file ≡ Err why
      → opening1989 file ≡ Err (flag_as_resolution why)
  unfolding unflagged
  refused-as-1989 why e = opening-1989 ∙ ap unflagged e

  -- so both lists open the same files

  pub opened-as-2008 : (r : Resolution) → opening1989 file ≡ Ok r → opening file ≡ Ok r
  unfolding unflagged
  opened-as-2008 r e = go (opening file) (sym opening-1989 ∙ e)
    where
      go : (o : Outcome Resolution) → unflagged o ≡ Ok r → o ≡ Ok r
      go (Ok k) h = h
      go (Err why) h = let z : ◌≡◌ {A = ℕ} 0 1 = cc in absurd (omega arith)

  pub opened_fits_1989 : (r : Resolution) → opening1989 file ≡ Ok r → length file ≡ file_length
  opened_fits_1989 r e = opened_fits file r (opened-as-2008 r e)

  pub opened-accepts : (r : Resolution) → opening file ≡ Ok r → AcceptsNeochrome file
  opened-accepts r e = (judged-value (Passes file) (opening file) r (opening-judged file) e).0

-- ---- the high bit of a word's first byte is the word's bit 15

module _ (file : List ℕ) (bytes : Bytes file) (at : ℕ) where
  pub high_bit : leb 128 (get_or file at 0) ≡ bit15_at file at
  unfolding word_at
  high_bit = go (dec_lt byte 128)
    where
      byte : ℕ
      byte = get_or file at 0

      bit : ℕ
      bit = word_at file at / 2 ^ 15 % 2

      go : Dec (byte < 128) → leb 128 byte ≡ eqb bit 1
      go (yes h) = lt-leb 128 byte h ∙ sym (ne_eqb bit 1 (λ e. omega (arith, bytes at, bytes (at + 1))))
      go (no h) = le-leb 128 byte (omega arith) ∙ sym (eq-eqb bit 1 (omega (arith, bytes at, bytes (at + 1))))
