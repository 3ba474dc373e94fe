-- A DEGAS file opened: its first word judged into a header (document 01, "File layouts", "Order of judging": read).
use Rattle.std.specs.Prelude.{ℕ, ◌/◌, ◌%◌, ◌^◌, Bool, List, length, ltb, eqb, Ok}
use Rattle.outcome.specs.Outcome.{Outcome, refuse_if}
use Rattle.outcome.specs.Refusal.{wrong_length}
use Rattle.words.specs.Word.{word_at}
use Rattle.resolution.specs.Choice.{with_resolution}
use Rattle.degas.specs.declared.Header.{Header}
use Rattle.degas.specs.Layout.{header_length}

-- of the first word, bits 0 and 1 are the resolution and bit 15 says packed; bits 2 to 14 are ignored
abbrev pub resolution_number : List ℕ → ℕ
resolution_number file = word_at file 0 % 4

abbrev pub is_packed : List ℕ → Bool
is_packed file = eqb (word_at file 0 / 2 ^ 15 % 2) 1

-- a file below 34 bytes, then a resolution above 2
unfoldable pub opening : List ℕ → Outcome Header
opening file =
    refuse_if (ltb (length file) header_length) wrong_length
    (with_resolution (resolution_number file) (λ r. Ok (record { resolution = r; packed = is_packed file })))
