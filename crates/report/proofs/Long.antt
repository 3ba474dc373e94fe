-- A file longer than any picture: a program may stop reading at its first `deciding_bytes` bytes, or later.
use Rattle.std.specs.Prelude.{Ok, None, Option, Some}
use mathlib.Core.Path.{◌≡◌, refl, sym, ap, ◌∙◌}
use mathlib.Core.Bool.{Bool, true, false}
use mathlib.Core.List.{List}
use Prim.Native.Nat.{ℕ, ◌%◌, ◌≤◌, ◌<◌}
use native.Mathlib.Omega.{arith}
use lib.ListN.{length, take}
use lib.Dec.{leb}
use lib.Seq.{length-take-le, get_or-take, take_all}
use borrow.Author.Tests.{leb-true, leb-false, le-ltb}
use Rattle.lists.proofs.Cond.{cond-elim}
use Rattle.outcome.specs.Outcome.{Outcome, refuse, bind}
use Rattle.outcome.specs.Refusal.{wrong_length}
use Rattle.words.specs.Word.{word_at}
use Rattle.resolution.specs.declared.Resolution.{Resolution}
use Rattle.resolution.specs.Shapes.{screen_bytes}
use Rattle.resolution.specs.Choice.{chosen, judge_with, with_resolution}
use Rattle.picture.specs.Reading.{Reading}
use Rattle.degas.specs.declared.Header.{Header}
use Rattle.degas.specs.Layout.{header_length, elite_length}
use Rattle.degas.specs.Opening.{resolution_number, opening}
use Rattle.degas.specs.Reading.{read_opened, read_degas}
use Rattle.degas.proofs.Opening.{header_of}
use Rattle.degas.proofs.ReadDegas.{raw-length, packed-long, read_fits}
use Rattle.reader.specs.Reading.{kind_degas, read_file}
use Rattle.reader.proofs.Choice.{file-degas}
use Rattle.report.specs.Summary.{deciding_bytes, summary_text, summary}

module _ (file : List ℕ) (long : elite_length < length file) where
  opened-long : (h : Header) → read_opened file h ≡ refuse wrong_length
  opened-long h =
      cond-elim (λ (o : Outcome Reading). o ≡ refuse wrong_length) h.packed
      (λ _. packed-long file h.resolution (omega arith))
      (λ _. raw-length file h.resolution (λ e. omega arith) (λ e. omega arith))

  -- it is refused for its resolution or for its length
  degas-long : read_degas file screen_bytes ≡ with_resolution (resolution_number file) (λ r. refuse wrong_length)
  unfolding opening
  degas-long =
      read_fits file screen_bytes (omega arith)
      ∙ rw (le-ltb (length file) header_length (omega arith)) (go (chosen (resolution_number file)))
    where
      go : (c : Option Resolution) → bind (judge_with c (λ r. Ok (header_of file r))) (read_opened file)
          ≡ judge_with c (λ r. refuse wrong_length)
      go (Some r) = opened-long (header_of file r)
      go None = refl

  read-degas-long : read_file kind_degas file screen_bytes
      ≡ with_resolution (resolution_number file) (λ r. refuse wrong_length)
  read-degas-long = file-degas kind_degas file screen_bytes refl ∙ degas-long

first_word : (file : List ℕ) (n : ℕ) → 1 < n → word_at (take n file) 0 ≡ word_at file 0
unfolding word_at
first_word file n h = rw (get_or-take n file 0 0 (omega arith), get_or-take n file 1 0 h)

module _ (file : List ℕ) (n : ℕ) (long : elite_length < n) (h : n ≤ length file) where
  -- of such a file the first n bytes decide
  read-long : read_file kind_degas (take n file) screen_bytes ≡ read_file kind_degas file screen_bytes
  read-long =
      read-degas-long (take n file) (omega (arith, length-take-le n file h))
      ∙ ap (λ (w : ℕ). with_resolution (w % 4) (λ r. refuse wrong_length)) (first_word file n (omega arith))
      ∙ sym (read-degas-long file (omega arith))

  -- and so they decide its summary
  pub summary-long : summary (take n file) ≡ summary file
  unfolding summary
  summary-long = ap summary_text read-long

-- of every file the first n bytes decide its summary, where n is `deciding_bytes` or more
pub summary-first : (file : List ℕ) (n : ℕ) → deciding_bytes ≤ n → summary (take n file) ≡ summary file
summary-first file n enough = go (leb n (length file)) refl
  where
    go : (b : Bool) → leb n (length file) ≡ b → summary (take n file) ≡ summary file
    go true e = summary-long file n (omega arith) (leb-true n (length file) e)
    go false e = ap summary (take_all n file (omega (arith, leb-false n (length file) e)))
