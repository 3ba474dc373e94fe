-- What both lists answer of a file, as specs/Animations.antt says.
use Rattle.std.specs.Prelude.{Ok, Err}
use mathlib.Core.Path.{◌≡◌, refl, sym, ap, subst, ◌∙◌}
use mathlib.Core.List.{List}
use Prim.Native.Nat.{ℕ, ◌/◌, ◌%◌, ◌^◌}
use native.Mathlib.Omega.{arith}
use Rattle.lists.specs.Bytes.{Bytes}
use Rattle.lists.proofs.Cond.{cond-eqb}
use Rattle.outcome.specs.declared.Refusal.{Refusal}
use Rattle.outcome.specs.Outcome.{Outcome, refusal_of}
use Rattle.outcome.specs.Refusal.{wrong_flag}
use Rattle.outcome.proofs.Outcome.{judged-accepted}
use Rattle.words.specs.Word.{word_at}
use Rattle.resolution.specs.Shapes.{screen_bytes}
use Rattle.neochrome.specs.Accepts.{AcceptsNeochrome}
use Rattle.neochrome.specs.Reading.{read_neochrome}
use Rattle.neochrome.proofs.Acceptance.{Given, neochrome-judged}
use Rattle.neochrome_animation.specs.declared.ColourAnimation.{ColourAnimation}
use Rattle.neochrome_animation.specs.Fields.{Shows1989, Shows2008}
use Rattle.neochrome_animation.specs.Lists.{flag_as_resolution, shown1989, shown2008}
use Rattle.neochrome_animation.specs.Judging.{animation, animation_answer}
use Rattle.neochrome_animation.proofs.Acceptance.{acceptance-1989, acceptance-2008}
use Rattle.neochrome_animation.proofs.Acceptance.{refused-as-read-1989, refused-as-read-2008}
use Rattle.neochrome_animation.proofs.BothLists.{both-same, same-only}
use Rattle.neochrome_animation.proofs.Fields.{shows-1989, shows-2008}
use Rattle.statements.specs.Animations.{MarkedWithoutSteps, AcceptsBoth, ShowsBoth, RefusesAsRead}
use Rattle.statements.specs.Animations.{answers_by_list}

answer-refusal : (o : Outcome ColourAnimation) → (animation_answer o).refusal ≡ refusal_of o
answer-refusal (Ok a) = refl
answer-refusal (Err why) = refl

-- 5 in place of 4 is no acceptance
flag-refused : (why : Refusal) → (flag_as_resolution why).number ≡ 0 → why.number ≡ 0
flag-refused why =
    cond-eqb (λ (w : Refusal). w.number ≡ 0 → why.number ≡ 0) why.number wrong_flag (λ _ e. absurd (omega arith))
    (λ _ e. e)

module _ (file : List ℕ) where
  abbrev why_read : Refusal
  why_read = refusal_of (read_neochrome file screen_bytes)

  read_fits : why_read.number ≡ 0 → AcceptsNeochrome file
  read_fits e =
      (judged-accepted (Given file screen_bytes) (read_neochrome file screen_bytes) (neochrome-judged file screen_bytes) e
      ).2.0

  pub refuses-as-read : RefusesAsRead file (answers_by_list file)
  refuses-as-read = record {
    by-1989 = answer-refusal (animation 1 file) ∙ refused-as-read-1989 file screen_bytes (omega arith);
    by-2008 = answer-refusal (animation 2 file) ∙ refused-as-read-2008 file screen_bytes (omega arith);
  }

  module _ (fits : AcceptsNeochrome file) where
    by-1989 : animation 1 file ≡ Ok (shown1989 file)
    by-1989 = (acceptance-1989 file (shown1989 file)).1 (fits, refl)

    by-2008 : animation 2 file ≡ Ok (shown2008 file)
    by-2008 = (acceptance-2008 file (shown2008 file)).1 (fits, refl)

  pub accepts-both : AcceptsBoth file (answers_by_list file)
  accepts-both = record {
    by-1989 = (
      λ e. read_fits (flag-refused why_read (sym (ap (λ (w : Refusal). w.number) refuses-as-read.by-1989) ∙ e)),
      λ fits. ap (λ (o : Outcome ColourAnimation). (animation_answer o).refusal.number) (by-1989 fits),
    );
    by-2008 = (
      λ e. read_fits (sym (ap (λ (w : Refusal). w.number) refuses-as-read.by-2008) ∙ e),
      λ fits. ap (λ (o : Outcome ColourAnimation). (animation_answer o).refusal.number) (by-2008 fits),
    );
  }

  module _ (bytes : Bytes file) where
    -- the two words, by their bytes
    to-bytes : (word_at file 48 / 2 ^ 15 % 2 ≡ 1) × (word_at file 52 ≡ 0) → MarkedWithoutSteps file
    unfolding word_at
    to-bytes w = (omega (arith, w.0, bytes 48, bytes 49), omega (arith, w.1), omega (arith, w.1))

    to-words : MarkedWithoutSteps file → (word_at file 48 / 2 ^ 15 % 2 ≡ 1) × (word_at file 52 ≡ 0)
    unfolding word_at
    to-words m = (omega (arith, m.0, bytes 48, bytes 49), omega (arith, m.1, m.2))

    pub shows-both : AcceptsNeochrome file → ShowsBoth file (answers_by_list file)
    shows-both fits = record {
      by-1989 = subst (λ o. Shows1989 file (animation_answer o)) (sym (by-1989 fits)) (shows-1989 file);
      by-2008 = subst (λ o. Shows2008 file (animation_answer o)) (sym (by-2008 fits)) (shows-2008 file bytes);
      same-exactly = (
        λ e. to-bytes (same-only file 1 _ (by-1989 fits) e),
        λ m. let w = to-words m in ap animation_answer (both-same file 1 _ (by-1989 fits) bytes w.0 w.1),
      );
    }
