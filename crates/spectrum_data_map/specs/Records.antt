-- One record of the data map of an SPC file: what its control byte says, and its judgement (document 02, ticket 5;
-- sources 000 and 001, "Data compression").
use Rattle.std.specs.Prelude.{ℕ, ◌+◌, ◌-◌, cond, List, length, get_or, take, drop, replicate, ltb, leb}
use Rattle.outcome.specs.Refusal.{input_ends, record_crosses}

-- A control byte x, signed: 0 to 127 begins a literal of x + 1 bytes, -128 to -1 a repeat, -x + 2 times. A byte from
-- 128 on stands for a negative x, 256 less.
abbrev pub least_repeat : ℕ
least_repeat = 128

-- how many bytes the record of a control byte makes
unfoldable pub makes : ℕ → ℕ
makes x = cond (ltb x least_repeat) (x + 1) (256 - x + 2)

-- how many bytes of the map it takes up: its control byte, and its data bytes or the one that it repeats
unfoldable pub takes : ℕ → ℕ
takes x = cond (ltb x least_repeat) (x + 2) 2

-- Of the record at an offset of a map.
module _ (map : List ℕ) (at : ℕ) where
  -- its control byte; past the map's end 0
  abbrev pub control : ℕ
  control = get_or map at 0

  -- the bytes that it makes
  unfoldable pub record_bytes : List ℕ
  record_bytes =
      cond (ltb control least_repeat) (take (control + 1) (drop (at + 1) map))
      (replicate (256 - control + 2) (get_or map (at + 1) 0))

  -- Its refusal number, or 0, with `room` bytes still to make. The end of what is made is judged before missing input.
  unfoldable pub fault_at : ℕ → ℕ
  fault_at room =
      cond (leb (length map) at) input_ends
      (cond (ltb room (makes control)) record_crosses
      (cond (ltb (length map) (at + takes control)) input_ends 0))
