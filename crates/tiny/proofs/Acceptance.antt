-- Demand 2 of Tiny files: one is accepted exactly when it fits, and then gives what its parts are.
use Rattle.std.specs.Prelude.{Ok, Some}
use mathlib.Core.Path.{◌≡◌, refl, sym, ap, ◌∙◌}
use mathlib.Core.Logic.{◌↔◌}
use mathlib.Core.Bool.{not, ◌||◌}
use mathlib.Core.List.{List}
use Prim.Native.Nat.{ℕ, zero, suc, ◌+◌, ◌*◌, ◌≤◌, ◌<◌}
use native.Mathlib.Omega.{arith}
use lib.ListN.{length, get_or}
use lib.Dec.{ltb, eqb}
use borrow.Author.Tests.{ltb-false, eqb-true, eqb-false, not-true, not-false}
use Rattle.lists.specs.Bytes.{Bytes}
use Rattle.lists.proofs.Bytes.{bytes_take, bytes_drop}
use Rattle.lists.proofs.Cond.{cond-elim, cond-ltb, or-false}
use Rattle.outcome.specs.Outcome.{Outcome, Judged}
use Rattle.outcome.proofs.Outcome.{judged-value}
use Rattle.words.specs.Word.{word_at}
use Rattle.resolution.specs.declared.Resolution.{Resolution}
use Rattle.resolution.specs.declared.Resolution.TheVariants.{Low, Medium, High}
use Rattle.resolution.specs.Shapes.{screen_bytes}
use Rattle.resolution.specs.Choice.{chosen}
use Rattle.picture.specs.Reading.{Reading}
use Rattle.picture.specs.Whole.{WholeReading}
use Rattle.picture.proofs.Whole.{whole-without-tail}
use Rattle.tiny.specs.Layout.{shortest_length, highest_byte, highest_plain, control_offset, resolutions}
use Rattle.tiny.specs.Layout.{resolution_byte, resolution_number, palette_start, control_start, control_count}
use Rattle.tiny.specs.Layout.{data_count, body_length, control_section, data_section}
use Rattle.tiny_runs.specs.Expansion.{Expansion}
use Rattle.tiny.specs.ScreenWords.{screen_words, screen_word, expanded_word}
use Rattle.tiny.specs.Reading.{expanded, tiny_reading, read_runs, read_sections, read_tiny}
use Rattle.tiny.specs.Accepts.{AcceptsTiny, tiny_given}
use Rattle.tiny_runs.proofs.Expansion.{bounded}
use Rattle.tiny_runs.proofs.Expanding.{length-words_at}
use Rattle.tiny_runs.proofs.Exact.{filled, complete, used-up}
use Rattle.tiny.proofs.Screens.{length-screen_bytes_of, screen-word, screen-word-back}
use Rattle.tiny.proofs.Reading.{tiny-sections, sections-fit, runs_done, length-controls}

-- a number below 3 names a resolution
known-below : (n : ℕ) → n < resolutions → (r : Resolution) × (chosen n ≡ Some r)
known-below zero h = (Low, refl)
known-below (suc zero) h = (Medium, refl)
known-below (suc (suc zero)) h = (High, refl)
known-below (suc (suc (suc n))) h = absurd (omega arith)

module _ (file : List ℕ) where
  -- ---- a file that fits is accepted

  length-datas : length (data_section file) ≡ data_count file
  length-datas = length-words_at (data_count file) _ 0

  module _ (a : AcceptsTiny file) where
    expanded-is : expanded file ≡ filled (control_count file) (data_count file) a.runs a.words
    expanded-is =
        complete a.expands screen_words (omega (arith, a.full))
        ∙ ap (λ (k : ℕ). filled k (length (data_section file)) a.runs a.words) (length-controls file a.fits)
        ∙ ap (λ (k : ℕ). filled (control_count file) k a.runs a.words) length-datas

    -- a file of its parts has the shortest header
    long : shortest_length ≤ length file
    unfolding palette_start
    long =
        cond-ltb (λ (k : ℕ). length file ≡ k + control_offset + body_length file → shortest_length ≤ length file)
        highest_plain (resolution_byte file) (λ _ e. omega arith) (λ _ e. omega arith) a.fits

    fits-accepted : (area : ℕ) → screen_bytes ≤ area → read_tiny file area ≡ Ok (tiny_given a)
    fits-accepted area room =
        let p : Expansion = filled (control_count file) (data_count file) a.runs a.words in
        tiny-sections file area room long a.allowed
        ∙ sections-fit file a.fits
        ∙ ap (read_runs file) expanded-is
        ∙ runs_done file p refl (omega arith) (omega (arith, a.full))

  -- a file fits in one way only
  pub tiny-unique : (a b : AcceptsTiny file) → (a.words ≡ b.words) × (a.runs ≡ b.runs)
  tiny-unique a b =
      let e = sym (expanded-is a) ∙ expanded-is b in
      (ap (λ (p : Expansion). p.made) e, ap (λ (p : Expansion). p.runs) e)

  -- ---- nothing else is accepted

  module _ (P : Reading → Type 0) where
    abbrev J : Outcome Reading → Type 0
    J = Judged P

    runs-judged : (p : Expansion)
        → (p.fault ≡ 0 → data_count file ≤ p.datas → screen_words ≤ length p.made
        → P (tiny_reading file p.runs p.made))
        → J (read_runs file p)
    unfolding read_runs
    runs-judged p f =
        cond-elim J (not (eqb p.fault 0)) (λ t. eqb-false _ _ (not-true _ t)) (λ ok.
        cond-elim J (ltb p.datas (data_count file) || ltb (length p.made) screen_words) (λ _ n. omega arith) (λ e.
        let fit = or-false _ _ e in
        f (eqb-true _ _ (not-false _ ok)) (ltb-false _ _ fit.0) (ltb-false _ _ fit.1)))

    -- what holds of the reading of every file that passes all tests holds of what is accepted
    passes-judged : (area : ℕ)
        → (resolution_byte file ≤ highest_byte → length file ≡ control_start file + body_length file
        → (expanded file).fault ≡ 0 → data_count file ≤ (expanded file).datas → screen_words ≤ length (expanded file).made
        → P (tiny_reading file (expanded file).runs (expanded file).made))
        → J (read_tiny file area)
    unfolding read_tiny read_sections
    passes-judged area f =
        cond-ltb J area screen_bytes (λ _ n. omega arith) (λ _.
        cond-ltb J (length file) shortest_length (λ _ n. omega arith) (λ _.
        cond-ltb J highest_byte (resolution_byte file) (λ _ n. omega arith) (λ allowed.
        cond-ltb J (length file) (control_start file) (λ _ n. omega arith) (λ _.
        cond-elim J (not (eqb (length file) (control_start file + body_length file))) (λ _ n. omega arith) (λ e.
        runs-judged (expanded file) (f allowed (eqb-true _ _ (not-false _ e))))))))

  given-whole : (runs : ℕ) (words : List ℕ) → WholeReading (tiny_reading file runs words)
  given-whole runs words =
      let known = known-below (resolution_number file) (omega arith) in
      record {
        whole = whole-without-tail file _ (palette_start file);
        resolution = known.0;
        known = known.1;
        size = length-screen_bytes_of words;
      }

-- ---- demand 2

module _ (file : List ℕ) (area : ℕ) where
  -- what is read of a file that fits
  abbrev pub Given : Reading → Type 0
  Given q = (a : AcceptsTiny file) × (q ≡ tiny_given a)

  pub tiny-judged : Bytes file → Judged Given (read_tiny file area)
  tiny-judged bytes =
      passes-judged file Given area (λ allowed fits ok all full.
      let bound = bounded (control_section file) (data_section file) screen_words in
      let controls = bytes_take (control_count file) _ (bytes_drop (control_start file) file bytes) in
      let expands = used-up (control_section file) (data_section file) screen_words controls ok
      (omega (arith, bound.taken, all, length-datas file)) in (
        record {
          words = (expanded file).made;
          runs = (expanded file).runs;
          allowed = allowed;
          fits = fits;
          full = omega (arith, bound.fits, full);
          expands = expands;
        },
        refl,
      ))

  module _ (room : screen_bytes ≤ area) where
    -- a file that fits is accepted
    pub tiny-complete : (a : AcceptsTiny file) → read_tiny file area ≡ Ok (tiny_given a)
    tiny-complete a = fits-accepted file a area room

    -- accepted exactly when it fits, and then with this
    pub tiny-acceptance : Bytes file → (q : Reading) → (read_tiny file area ≡ Ok q) ↔ Given q
    tiny-acceptance bytes q = (
      judged-value Given (read_tiny file area) q (tiny-judged bytes),
      λ g. tiny-complete g.0 ∙ ap Ok (sym g.1),
    )

  -- every accepted reading is whole
  pub tiny-whole : Judged WholeReading (read_tiny file area)
  tiny-whole = passes-judged file WholeReading area (λ allowed fits ok all full. given-whole file _ _)

-- ---- every word of the screen, and so every register

module _ {file : List ℕ} (a : AcceptsTiny file) where
  -- expanded word k is the screen's word at `screen_word k`
  pub tiny-word : (k : ℕ) → k < screen_words → word_at (tiny_given a).screen (screen_word k * 2) ≡ get_or a.words k 0
  tiny-word = screen-word a.words

  -- and each word p of the screen is expanded word `expanded_word p`
  pub tiny-word-back : (p : ℕ) → p < screen_words
      → word_at (tiny_given a).screen (p * 2) ≡ get_or a.words (expanded_word p) 0
  tiny-word-back = screen-word-back a.words
