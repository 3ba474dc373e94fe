-- A NEOchrome file opened: length, flag and resolution are judged, and nothing else (document 01, "File layouts",
-- "Order of judging": read).
use Rattle.std.specs.Prelude.{ℕ, not, List, length, eqb, Ok}
use Rattle.outcome.specs.Outcome.{Outcome, refuse_if}
use Rattle.outcome.specs.Refusal.{wrong_length, wrong_flag}
use Rattle.words.specs.Word.{word_at}
use Rattle.resolution.specs.declared.Resolution.{Resolution}
use Rattle.resolution.specs.Choice.{with_resolution}
use Rattle.neochrome.specs.Layout.{resolution_start, file_length}

unfoldable pub opening : List ℕ → Outcome Resolution
opening file =
    refuse_if (not (eqb (length file) file_length)) wrong_length
    (refuse_if (not (eqb (word_at file 0) 0)) wrong_flag
    (with_resolution (word_at file resolution_start) (λ r. Ok r)))
