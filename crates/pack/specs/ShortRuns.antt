-- The short runs at the front of a suffix of a row, of one or two bytes each, and the run after them.
-- No public contract cites it.
use Rattle.std.specs.Prelude.{ℕ, ◌+◌, ◌-◌, ◌≤◌, ◌<◌, ◌≡◌, cond, List, [], ◌∷◌, length, get_or, drop, leb, ltb}
use Rattle.pack.specs.declared.Ahead.{Ahead}
use Rattle.pack.specs.Plan.{EqualRun, runs, planned}
use Rattle.pack.specs.Runs.{run_length}

-- the bytes of the short runs
unfoldable pub short_bytes : List EqualRun → ℕ
short_bytes [] = 0
short_bytes (r ∷ rs) = cond (leb r.count 2) (r.count + short_bytes rs) 0

-- the length of the run after them; 0 where there is none
unfoldable pub long_count : List EqualRun → ℕ
long_count [] = 0
long_count (r ∷ rs) = cond (leb r.count 2) (long_count rs) r.count

-- the byte at the place i and the three after it differ each from the next
pub record FourSingles (row : List ℕ) (i : ℕ) : Type 0 where
  pub inside : i + 4 < length row
  pub first : get_or row i 0 ≡ get_or row (i + 1) 0 → ⊥
  pub second : get_or row (i + 1) 0 ≡ get_or row (i + 2) 0 → ⊥
  pub third : get_or row (i + 2) 0 ≡ get_or row (i + 3) 0 → ⊥
  pub fourth : get_or row (i + 3) 0 ≡ get_or row (i + 4) 0 → ⊥

-- where the literal at the place i ends, where the short runs end, and how long the run there is
abbrev pub ahead_at : List ℕ → ℕ → Ahead
ahead_at row i =
    record {
      single = i + (planned (runs (drop i row))).more;
      end = i + short_bytes (runs (drop i row));
      count = long_count (runs (drop i row));
    }

-- the control byte at the place i, before the end of the short runs s: of the literal or of a pair
abbrev pub control_at : ℕ → Ahead → ℕ
control_at i s = cond (ltb i s.single) (s.single - i - 1) 255

-- the run at the end of the short runs s
pub record LongRun (row : List ℕ) (s : Ahead) : Type 0 where
  pub long : 2 < s.count
  pub inside : s.end < length row
  pub run : s.count ≡ run_length (drop s.end row)

-- s is what is known of the row from the place i on: `single` is where the literal ends if it is still to come, and s
-- is the same there
pub record Known (row : List ℕ) (i : ℕ) (s : Ahead) : Type 0 where
  pub literal : (planned (runs (drop i row))).more ≡ s.single - i
  pub short : i + short_bytes (runs (drop i row)) ≡ s.end
  pub long : long_count (runs (drop i row)) ≡ s.count
  pub next : s ≡ ahead_at row s.single
  pub order : s.single ≤ s.end
  pub within : s.end ≤ length row
  pub after : (s.count ≡ 0 → ⊥) → LongRun row s
