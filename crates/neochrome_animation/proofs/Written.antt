-- A NEOchrome file that writing makes has no animation: writing a picture leaves the cycling colours out.
use Rattle.std.specs.Prelude.{cond, Ok, Some, None}
use mathlib.Core.Path.{◌≡◌, refl, sym, ap, ◌∙◌}
use mathlib.Core.Bool.{Bool, true, false}
use mathlib.Core.List.{List, ◌++◌, append_assoc}
use Prim.Native.Nat.{ℕ, ◌+◌, ◌<◌}
use native.Mathlib.Omega.{arith}
use lib.ListN.{length, get_or, take, replicate, length-append, length-replicate, get_or-append, get_or-replicate}
use lib.Seq.{get_or-append-add}
use Rattle.outcome.specs.Outcome.{Outcome, bind, Judged}
use Rattle.words.specs.Word.{word_at, word_bytes, words_bytes}
use Rattle.resolution.specs.declared.Resolution.{Resolution}
use Rattle.resolution.specs.Shapes.{screen_bytes}
use Rattle.picture.specs.declared.Picture.{Picture}
use Rattle.picture.specs.Whole.{WholePicture}
use Rattle.picture.specs.Writing.{Writing, raw_writing}
use Rattle.picture.proofs.Whole.{length-palette}
use Rattle.picture.proofs.Writing.{judge-elim}
use Rattle.neochrome.specs.Layout.{name, neochrome_file}
use Rattle.neochrome.specs.Writing.{write_neochrome}
use Rattle.neochrome.proofs.RoundTrip.{written-accepts}
use Rattle.neochrome_animation.specs.declared.ColourAnimation.{ColourAnimation}
use Rattle.neochrome_animation.specs.declared.Direction.TheVariants.{Stopped}
use Rattle.neochrome_animation.specs.Lists.{shown1989, shown2008}
use Rattle.neochrome_animation.specs.Judging.{animation, animation_answer}
use Rattle.neochrome_animation.proofs.Acceptance.{acceptance-1989, acceptance-2008}

-- off, stopped, limits 0 and 0, no steps
abbrev pub still : Bool → ColourAnimation
still valid = record {
  limits = cond valid (Some (record { left = 0; right = 0 })) None;
  on = false;
  direction = Stopped;
  vblanks = 0;
  step_count = 0;
}

-- so shown, and in C's answer limits 0 and 0, valid or not
abbrev StillBy : Outcome ColourAnimation → Bool → Type 0
StillBy shown valid =
    (shown ≡ Ok (still valid))
    × ((animation_answer shown).left_limit ≡ 0)
    × ((animation_answer shown).right_limit ≡ 0)

still-by : (shown : Outcome ColourAnimation) (valid : Bool) → shown ≡ Ok (still valid) → StillBy shown valid
still-by shown true is = rw is (refl, refl, refl)
still-by shown false is = rw is (refl, refl, refl)

module _ (p : Picture) (whole : WholePicture p) (screen : List ℕ) where
  -- ---- bytes 48 to 57 are 0

  -- all before them, and what follows them
  abbrev before : List ℕ
  before = word_bytes 0 ++ (word_bytes p.resolution ++ (words_bytes p.palette ++ name))

  abbrev after : List ℕ
  after = word_bytes 320 ++ (word_bytes 200 ++ (replicate 66 0 ++ take screen_bytes screen))

  length_before : length before ≡ 48
  unfolding word_bytes
  length_before = omega (arith, length-append (words_bytes p.palette) name, length-palette p whole)

  file-parts : neochrome_file p screen ≡ before ++ (replicate 10 0 ++ after)
  unfolding neochrome_file word_bytes
  file-parts = simp append_assoc

  zero-at : (k : ℕ) → k < 10 → get_or (neochrome_file p screen) (48 + k) 0 ≡ 0
  zero-at k h =
      ap (λ (s : List ℕ). get_or s (48 + k) 0) file-parts
      ∙ ap (λ (n : ℕ). get_or (before ++ (replicate 10 0 ++ after)) (n + k) 0) (sym length_before)
      ∙ get_or-append-add before (replicate 10 0 ++ after) k 0
      ∙ get_or-append (replicate 10 0) after 0 k (omega (arith, length-replicate {A = ℕ} 10 0))
      ∙ get_or-replicate 10 k 0 0 h

  -- ---- what each list shows

  still-1989 : shown1989 (neochrome_file p screen) ≡ still true
  unfolding shown1989
  still-1989 = rw (zero-at 1 (omega arith), zero-at 2 (omega arith), zero-at 3 (omega arith))

  still-2008 : shown2008 (neochrome_file p screen) ≡ still false
  unfolding shown2008 word_at
  still-2008 =
      rw (
        zero-at 0 (omega arith),
        zero-at 1 (omega arith),
        zero-at 2 (omega arith),
        zero-at 3 (omega arith),
        zero-at 4 (omega arith),
        zero-at 5 (omega arith),
      )

  -- ---- of an accepted writing

  abbrev pub Still : Writing → Type 0
  Still w = StillBy (animation 1 w.file) true × StillBy (animation 2 w.file) false

  pub written-still : (out : ℕ) → Judged Still (write_neochrome p screen out)
  unfolding write_neochrome
  written-still out =
      judge-elim (length screen) out p.resolution
      (λ (o : Outcome Resolution). Judged Still (bind o (λ r. raw_writing (neochrome_file p screen))))
      (λ n. omega arith)
      (λ n. omega arith)
      (λ r a.
      let fits = written-accepts p screen whole r a.known a.screen-fits in (
        still-by _ true ((acceptance-1989 (neochrome_file p screen) (still true)).1 (fits, sym still-1989)),
        still-by _ false ((acceptance-2008 (neochrome_file p screen) (still false)).1 (fits, sym still-2008)),
      ))
