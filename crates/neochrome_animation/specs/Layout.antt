-- Where a NEOchrome header holds the colour animation (document 02, ticket 10; sources 000 and 001, <NEOchrome>).
use Rattle.std.specs.Prelude.{ℕ}

-- the word whose bit 15 marks the limits valid (2008); its first byte is unused in 1989
abbrev pub valid_start : ℕ
valid_start = 48

-- the byte with left and right limit
abbrev pub limits_start : ℕ
limits_start = 49

-- the word whose bit 15 says on (2008); the byte whose high bit says on (1989)
abbrev pub on_start : ℕ
on_start = 50

-- the byte with the signed speed
abbrev pub speed_start : ℕ
speed_start = 51

-- the word of the step count (2008); unused in 1989
abbrev pub step_count_start : ℕ
step_count_start = 52
