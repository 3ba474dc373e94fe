-- The lines of the summary, and how long each can get (document 01, "Examples to hold to").
use Rattle.std.specs.Prelude.{ℕ, ◌+◌, ◌*◌, length, decimal}
use mathlib.Core.List.{List, ◌++◌, map, flatten}
use Rattle.outcome.specs.declared.Refusal.{Refusal}
use Rattle.report.specs.Labels.{resolution_label, records_label, body_label, tail_label}
use Rattle.report.specs.Labels.{tally_label, refused_label, at_label, blank, newline}

-- the most digits of a number below 2 ^ 64
abbrev pub max_digits : ℕ
max_digits = 20

-- a label and a number
unfoldable pub item : List ℕ → ℕ → List ℕ
item label n = label ++ decimal n

abbrev pub max_item : List ℕ → ℕ
max_item label = length label + max_digits

-- the same, as a line
unfoldable pub line : List ℕ → ℕ → List ℕ
line label n = item label n ++ newline

abbrev pub max_line : List ℕ → ℕ
max_line label = max_item label + 1

-- counts of registers, each after a blank
unfoldable pub items : List ℕ → List ℕ
items counts = flatten (map (item blank) counts)

abbrev pub max_items : ℕ
max_items = 16 * max_item blank

-- the same, as the tally's line
unfoldable pub tally_line : List ℕ → List ℕ
tally_line counts = tally_label ++ items counts ++ newline

abbrev pub max_tally_line : ℕ
max_tally_line = length tally_label + max_items + 1

-- refused N at P
unfoldable pub refusal_line : Refusal → List ℕ
refusal_line why = item refused_label why.number ++ line at_label why.place

abbrev pub max_refusal_line : ℕ
max_refusal_line = max_item refused_label + max_line at_label

-- a line for each of these numbers
unfoldable pub number_lines : ℕ → ℕ → ℕ → ℕ → List ℕ
number_lines resolution records body tail =
    line resolution_label resolution ++ line records_label records ++ line body_label body ++ line tail_label tail

abbrev pub max_number_lines : ℕ
max_number_lines = max_line resolution_label + max_line records_label + max_line body_label + max_line tail_label
