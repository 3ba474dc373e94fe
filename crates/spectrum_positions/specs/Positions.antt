-- The palette position in force at a column for a register (document 02, ticket 5; source 000, "FindIndex"): which of
-- the 48 palette words of a scan line, three palettes of 16, the register shows there.
use Rattle.std.specs.Prelude.{ℕ, ◌+◌, ◌-◌, ◌*◌, ◌%◌, cond, ◌||◌, ltb, leb, eqb, Ok, Err}
use Rattle.outcome.specs.Outcome.{Outcome, none, refuse_if}
use Rattle.outcome.specs.Refusal.{out_of_range}
use Rattle.spectrum_positions.specs.declared.PositionAnswer.{PositionAnswer}

-- the columns of a scan line, and the registers: the entries of a palette
abbrev pub columns : ℕ
columns = 320

abbrev pub registers : ℕ
registers = 16

-- the first column of register c's second palette: t of the ticket
unfoldable pub second_from : ℕ → ℕ
second_from c = cond (eqb (c % 2) 1) (10 * c - 5) (10 * c + 1)

-- so many columns later its third one begins
abbrev pub palette_columns : ℕ
palette_columns = 160

-- c below t, c + 16 from t, c + 32 from t + 160
unfoldable pub position_of : ℕ → ℕ → ℕ
position_of x c =
    cond (ltb x (second_from c)) c
    (cond (ltb x (second_from c + palette_columns)) (c + registers) (c + 2 * registers))

-- a question outside 320 columns or 16 registers gets 10
unfoldable pub judge_position : ℕ → ℕ → Outcome ℕ
judge_position x c = refuse_if (leb columns x || leb registers c) out_of_range (Ok (position_of x c))

-- a refusal gives 0 in all else
abbrev pub position_answer : Outcome ℕ → PositionAnswer
position_answer (Ok n) = record { refusal = none; position = n }
position_answer (Err why) = record { refusal = why; position = 0 }
