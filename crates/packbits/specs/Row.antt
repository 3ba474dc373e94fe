-- A row packed or unpacked: what is given back, and what the lent output then holds (document 01, "Order of judging").
use Rattle.std.specs.Prelude.{ℕ, Bool, ◌||◌, List, ltb, eqb, Ok, Err}
use Rattle.lists.specs.Over.{over}
use Rattle.outcome.specs.Outcome.{Outcome, none, map, later}
use Rattle.packbits.specs.declared.Packed.{Packed}
use Rattle.packbits.specs.declared.RowAnswer.{RowAnswer}

-- a row's width must be 1 to 128
abbrev pub width_out_of_range : ℕ → Bool
width_out_of_range width = eqb width 0 || ltb 128 width

-- a row that was packed or unpacked
pub record Row : Type 0 where
  -- packed bytes, written or used
  pub bytes : ℕ
  -- records, those that do nothing included
  pub records : ℕ
  -- the bytes made: the row, or its packed bytes
  pub made : List ℕ

-- accepted with these counts of packed bytes and records, and these bytes made
abbrev pub done : ℕ → ℕ → List ℕ → Outcome Row
done bytes records made = Ok (record { bytes = bytes; records = records; made = made })

-- what is given of it besides the bytes made
abbrev pub row_packed : Row → Packed
row_packed r = record { bytes = r.bytes; records = r.records }

-- C's answer of what is given: a refusal gives 0 in all else
abbrev pub given_row_answer : Outcome Packed → RowAnswer
given_row_answer (Ok p) = record { refusal = none; bytes = p.bytes; records = p.records }
given_row_answer (Err why) = record { refusal = why; bytes = 0; records = 0 }

abbrev pub row_answer : Outcome Row → RowAnswer
row_answer o = given_row_answer (map row_packed o)

-- the output's later content: the bytes made over its front; after a refusal as it was
abbrev pub row_output : Outcome Row → List ℕ → List ℕ
row_output o out = later o (λ r. over r.made out) out
