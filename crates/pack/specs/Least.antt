-- The least body, computed from the row's right end, one step for each byte. That it is least: proofs/Valid.antt,
-- `least-is-least`.
use Rattle.std.specs.Prelude.{ℕ, suc, ◌-◌, cond, List, [], ◌∷◌, length, leb, eqb}

-- packed bytes, and how many records begin in them
pub record Body : Type 0 where
  pub bytes : List ℕ
  pub records : ℕ

abbrev pub empty : Body
empty = record { bytes = []; records = 0 }

abbrev pub size : Body → ℕ
size b = length b.bytes

-- one more byte of a literal in front
abbrev pub with_byte : ℕ → Body → Body
with_byte x b = record { bytes = x ∷ b.bytes; records = b.records }

-- A suffix of the row that begins inside a literal: the literal takes `more` bytes after its first one,
-- and `rest` is all its bytes, the first included, with the least body of what follows them.
pub record Opening : Type 0 where
  pub more : ℕ
  pub rest : Body

-- The run of equal bytes at the start of a suffix, and the least body of what follows it.
pub record Run : Type 0 where
  pub byte : ℕ
  pub count : ℕ
  pub beyond : Body

-- what is known of a suffix: its least body, its best opening literal, its first run
pub record Suffix : Type 0 where
  pub best : Body
  pub opening : Opening
  pub run : Run

-- the literal ends after the byte x, or goes on where that is shorter
abbrev pub opening_of : ℕ → Suffix → Opening
opening_of x s =
    cond (leb (size s.best) (size s.opening.rest))
    (record { more = 0; rest = with_byte x s.best })
    (record { more = suc s.opening.more; rest = with_byte x s.opening.rest })

-- the byte x lengthens the run or starts one
abbrev pub run_of : ℕ → Suffix → Run
run_of x s =
    cond (eqb x s.run.byte)
    (record { byte = x; count = suc s.run.count; beyond = s.run.beyond })
    (record { byte = x; count = 1; beyond = s.best })

abbrev pub literal_body : Opening → Body
literal_body o = record { bytes = o.more ∷ o.rest.bytes; records = suc o.rest.records }

abbrev pub repeat_body : Run → Body
repeat_body r = record { bytes = (257 - r.count) ∷ r.byte ∷ r.beyond.bytes; records = suc r.beyond.records }

-- the literal, or the repeat of the whole run where that is shorter
abbrev pub best_of : Opening → Run → Body
best_of o r = cond (leb (size o.rest) (suc (size r.beyond))) (literal_body o) (repeat_body r)

-- one byte further left, x
unfoldable pub prepend : ℕ → Suffix → Suffix
prepend x s = record { best = best_of (opening_of x s) (run_of x s); opening = opening_of x s; run = run_of x s }

unfoldable pub scan : List ℕ → Suffix
scan [] =
    record {
      best = empty;
      opening = record { more = 0; rest = empty };
      run = record { byte = 0; count = 0; beyond = empty };
    }
scan (x ∷ xs) = prepend x (scan xs)

-- the least body of a row of at most 128 bytes, and its number of records
abbrev pub least : List ℕ → List ℕ
least row = (scan row).best.bytes

abbrev pub least_records : List ℕ → ℕ
least_records row = (scan row).best.records
