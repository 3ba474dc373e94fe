-- Laws of opening a NEOchrome file: what each test comes to, and that what passes is what reading accepts.
use Rattle.std.specs.Prelude.{Ok, Some}
use mathlib.Core.Path.{◌≡◌, refl}
use mathlib.Core.Bool.{not}
use mathlib.Core.List.{List}
use Prim.Native.Nat.{ℕ}
use native.Mathlib.Omega.{arith}
use lib.ListN.{length}
use lib.Dec.{eqb}
use borrow.Author.Tests.{eq-eqb, ne_eqb, eqb-true, not-false}
use Rattle.lists.proofs.Cond.{cond-elim}
use Rattle.outcome.specs.Outcome.{Outcome, refuse, Judged}
use Rattle.outcome.specs.Refusal.{wrong_length, wrong_flag}
use Rattle.outcome.proofs.Outcome.{judged-value}
use Rattle.words.specs.Word.{word_at}
use Rattle.resolution.specs.declared.Resolution.{Resolution}
use Rattle.resolution.specs.Choice.{chosen}
use Rattle.resolution.proofs.Choice.{with_resolution-elim}
use Rattle.neochrome.specs.Layout.{resolution_start, file_length}
use Rattle.neochrome.specs.Opening.{opening}
use Rattle.neochrome.specs.Accepts.{AcceptsNeochrome}

module _ (file : List ℕ) where
  pub opening-length : (length file ≡ file_length → ⊥) → opening file ≡ refuse wrong_length
  unfolding opening
  opening-length h = simp (ne_eqb (length file) file_length h)

  pub opening-flag : length file ≡ file_length → (word_at file 0 ≡ 0 → ⊥) → opening file ≡ refuse wrong_flag
  unfolding opening
  opening-flag h k = simp (eq-eqb (length file) file_length h, ne_eqb (word_at file 0) 0 k)

  pub opening-accepted : (a : AcceptsNeochrome file) → opening file ≡ Ok a.resolution
  unfolding opening
  opening-accepted a = rw (eq-eqb (length file) file_length a.fits, eq-eqb (word_at file 0) 0 a.flag, a.allowed)

  -- what passes is accepted at the resolution that it passed with
  abbrev pub Passes : Resolution → Type 0
  Passes r = (a : AcceptsNeochrome file) × (a.resolution ≡ r)

  pub opening-judged : Judged Passes (opening file)
  unfolding opening
  opening-judged =
      let J : Outcome Resolution → Type 0 = Judged Passes in
      cond-elim J (not (eqb (length file) file_length)) (λ _ n. omega arith) (λ size.
      cond-elim J (not (eqb (word_at file 0) 0)) (λ _ n. omega arith) (λ flag.
      with_resolution-elim J (word_at file resolution_start) (λ r. Ok r) (λ n. omega arith) (λ r e.
      (accepts r (eqb-true _ _ (not-false _ size)) (eqb-true _ _ (not-false _ flag)) e, refl))))
    where
      accepts : (r : Resolution) → length file ≡ file_length → word_at file 0 ≡ 0
          → chosen (word_at file resolution_start) ≡ Some r → AcceptsNeochrome file
      accepts r size flag e = record { resolution = r; flag = flag; allowed = e; fits = size }

  -- so it has a file's length
  pub opened_fits : (r : Resolution) → opening file ≡ Ok r → length file ≡ file_length
  opened_fits r e = (judged-value Passes (opening file) r opening-judged e).0.fits
