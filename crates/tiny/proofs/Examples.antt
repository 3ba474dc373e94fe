-- Small files worked out, each a case that is easily read wrong (document 02, ticket 1).
use Rattle.std.specs.Prelude.{Ok, Err}
use mathlib.Core.Path.{◌≡◌, refl}
use mathlib.Core.List.{List, [], ◌∷◌, ◌++◌}
use Prim.Native.Nat.{ℕ}
use native.Mathlib.Omega.{arith}
use lib.ListN.{replicate, length-append, length-replicate}
use Rattle.lists.specs.Tabulate.{tabulate}
use Rattle.outcome.specs.Outcome.{refusal, refuse}
use Rattle.words.specs.Word.{word_at, words_at}
use Rattle.resolution.specs.Shapes.{screen_bytes}
use Rattle.tiny.specs.Layout.{palette_start}
use Rattle.tiny_runs.specs.Runs.{long_run, run_of, run_at}
use Rattle.tiny_runs.specs.Expansion.{run_step, expand_within, expand}
use Rattle.tiny_runs.specs.Expands.{empty, long_repeat}
use Rattle.tiny.specs.ScreenWords.{screen_word}
use Rattle.tiny.specs.Reading.{tiny_reading, read_runs, read_sections, read_tiny}
use Rattle.tiny.specs.Accepts.{AcceptsTiny}
use Rattle.tiny.proofs.Acceptance.{tiny-complete}

-- ---- lengths and resolution byte

-- a short area comes first, then a file under 37 bytes
pub short-area : read_tiny [] 31999 ≡ refuse 1
unfolding read_tiny
short-area = refl

pub short-file : read_tiny (6 ∷ replicate 35 0) screen_bytes ≡ refuse 3
unfolding read_tiny
short-file = refl

-- 37 zero bytes: both sections are empty, so the words are missing
pub zeros : read_tiny (replicate 37 0) screen_bytes ≡ refuse 13
unfolding read_tiny read_sections read_runs palette_start expand expand_within word_at words_at tabulate
zeros = refl

-- resolution byte 6 is judged before the 41 bytes of a file with rotation
pub sixth : read_tiny (6 ∷ replicate 36 0) screen_bytes ≡ refuse 5
unfolding read_tiny
sixth = refl

pub rotated-short : read_tiny (3 ∷ replicate 39 0) screen_bytes ≡ refuse 3
unfolding read_tiny read_sections palette_start
rotated-short = refl

pub rotated-zeros : read_tiny (5 ∷ replicate 40 0) screen_bytes ≡ refuse 13
unfolding read_tiny read_sections read_runs palette_start expand expand_within word_at words_at tabulate
rotated-zeros = refl

-- one data word is two bytes
pub one-byte-missing : read_tiny (replicate 34 0 ++ 1 ∷ 0 ∷ 1 ∷ 2 ∷ 9 ∷ []) screen_bytes ≡ refuse 3
unfolding read_tiny read_sections palette_start word_at
one-byte-missing = refl

-- ---- runs

-- a file is refused with a number at a place, counted from the file's start
abbrev RefusedAt : List ℕ → ℕ → ℕ → Type 0
RefusedAt file number place = read_tiny file screen_bytes ≡ Err (refusal number place)

pub record FaultyRuns : Type 0 where
  -- control byte 128 is not defined
  pub undefined : RefusedAt (replicate 34 0 ++ 1 ∷ 0 ∷ 0 ∷ 128 ∷ []) 11 37
  pub rotated : RefusedAt (4 ∷ replicate 37 0 ++ 1 ∷ 0 ∷ 0 ∷ 128 ∷ []) 11 41
  -- a long count of 127, and one of 32,768, which is also past 16,000 words
  pub low : RefusedAt (replicate 34 0 ++ 3 ∷ 0 ∷ 0 ∷ 0 ∷ 0 ∷ 127 ∷ []) 11 37
  pub high : RefusedAt (replicate 34 0 ++ 3 ∷ 0 ∷ 0 ∷ 1 ∷ 128 ∷ 0 ∷ []) 11 37
  -- a long count of 16,001
  pub past : RefusedAt (replicate 34 0 ++ 3 ∷ 0 ∷ 1 ∷ 0 ∷ 62 ∷ 129 ∷ 7 ∷ 7 ∷ []) 12 37
  -- a long count cut short by the control section's end, though data bytes follow
  pub cut : RefusedAt (replicate 34 0 ++ 2 ∷ 0 ∷ 1 ∷ 0 ∷ 0 ∷ 127 ∷ 127 ∷ []) 12 37
  -- the second run lacks its data word
  pub second : RefusedAt (replicate 34 0 ++ 2 ∷ 0 ∷ 1 ∷ 2 ∷ 2 ∷ 9 ∷ 9 ∷ []) 12 38

pub faulty-runs : FaultyRuns
unfolding read_tiny read_sections read_runs palette_start expand expand_within run_step run_at run_of long_run word_at words_at
    tabulate
faulty-runs =
    record { undefined = refl; rotated = refl; low = refl; high = refl; past = refl; cut = refl; second = refl }

-- ---- places

-- the first column goes down the lines, then comes the set's next column, four further, and then the next set
pub places : (screen_word 1 ≡ 80) × (screen_word 200 ≡ 4) × (screen_word 4000 ≡ 1) × (screen_word 15999 ≡ 15999)
unfolding screen_word
places = (refl, refl, refl, refl)

-- ---- a file of 42 bytes is accepted: one long repeat of 16,000 words

abbrev pub one_run : List ℕ
one_run = replicate 34 0 ++ 3 ∷ 0 ∷ 1 ∷ 0 ∷ 62 ∷ 128 ∷ 7 ∷ 9 ∷ []

-- each word is 7 * 256 + 9
abbrev pub one_word : List ℕ
one_word = replicate 16000 1801 ++ []

pub one_run-accepts : AcceptsTiny one_run
unfolding palette_start word_at words_at tabulate
one_run-accepts = record {
  words = one_word;
  runs = 1;
  allowed = omega arith;
  fits = refl;
  full = omega (arith, length-append {A = ℕ} (replicate 16000 1801) [], length-replicate {A = ℕ} 16000 1801);
  expands = long_repeat {high = 62} {low = 128} {count = 16000} {w = 1801} (refl, omega arith, omega arith) empty;
}

pub one_run-read : read_tiny one_run screen_bytes ≡ Ok (tiny_reading one_run 1 one_word)
unfolding one_run-accepts
one_run-read = tiny-complete one_run screen_bytes (omega arith) one_run-accepts

pub one_run-body : (tiny_reading one_run 1 one_word).body ≡ 5
unfolding palette_start word_at
one_run-body = refl
