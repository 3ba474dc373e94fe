-- A NEOchrome file as each of two lists of picture formats opens it, and what of its header each list shows (document
-- 02, ticket 10; source 001 is the list of 1989, source 000 that of 2008).
use Rattle.std.specs.Prelude.{ℕ, ◌+◌, ◌*◌, ◌/◌, ◌%◌, ◌^◌, Bool, true, cond, not, List, length, get_or, leb, eqb, Ok}
use Rattle.std.specs.Prelude.{Some, None}
use Rattle.outcome.specs.declared.Refusal.{Refusal}
use Rattle.outcome.specs.Outcome.{Outcome, refusal, refuse_if}
use Rattle.outcome.specs.Refusal.{wrong_length, wrong_flag, unknown_resolution}
use Rattle.words.specs.Word.{word_at}
use Rattle.resolution.specs.declared.Resolution.{Resolution}
use Rattle.resolution.specs.Choice.{with_resolution}
use Rattle.neochrome.specs.Layout.{resolution_start, file_length}
use Rattle.neochrome.specs.Opening.{opening}
use Rattle.neochrome_animation.specs.declared.ColourAnimation.{ColourAnimation}
use Rattle.neochrome_animation.specs.declared.Limits.{Limits}
use Rattle.neochrome_animation.specs.Layout.{valid_start, limits_start, on_start, speed_start, step_count_start}
use Rattle.neochrome_animation.specs.Speed.{direction_of, vblanks_of}

-- ---- opened

-- 1989: bytes 0 to 3 are the resolution
abbrev pub long_resolution : List ℕ → ℕ
long_resolution file = word_at file 0 * 2 ^ 16 + word_at file resolution_start

unfoldable pub opening1989 : List ℕ → Outcome Resolution
opening1989 file =
    refuse_if (not (eqb (length file) file_length)) wrong_length (with_resolution (long_resolution file) (λ r. Ok r))

-- 2008: a flag word and the resolution's word, as the reader opens a file
abbrev pub opening2008 : List ℕ → Outcome Resolution
opening2008 = opening

-- a refusal with 5 in place of 4: the flag is part of the resolution
abbrev pub flag_as_resolution : Refusal → Refusal
flag_as_resolution why = cond (eqb why.number wrong_flag) (refusal unknown_resolution 0) why

-- ---- shown

-- bit 15 of the word at an offset
abbrev pub bit15_at : List ℕ → ℕ → Bool
bit15_at file at = eqb (word_at file at / 2 ^ 15 % 2) 1

-- in both lists byte 49 is left and right limits, byte 51 the speed; limits not valid are not shown
abbrev pub limits_at : List ℕ → Limits
limits_at file = record { left = get_or file limits_start 0 / 16; right = get_or file limits_start 0 % 16 }

abbrev pub shown : List ℕ → Bool → Bool → ℕ → ColourAnimation
shown file valid on steps = record {
  limits = cond valid (Some (limits_at file)) None;
  on = on;
  direction = direction_of (get_or file speed_start 0);
  vblanks = vblanks_of (get_or file speed_start 0);
  step_count = steps;
}

-- 1989: byte 48 and word 52 are ignored and limits always valid, the step count is shown as 0; the high bit of byte 50
-- says on
unfoldable pub shown1989 : List ℕ → ColourAnimation
shown1989 file = shown file true (leb 128 (get_or file on_start 0)) 0

-- 2008: bit 15 of word 48 marks the limits valid, bit 15 of word 50 says on, word 52 is the step count
unfoldable pub shown2008 : List ℕ → ColourAnimation
shown2008 file = shown file (bit15_at file valid_start) (bit15_at file on_start) (word_at file step_count_start)
