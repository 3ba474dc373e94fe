-- The relation "the control section and the data section expand to these words by n runs" (document 02, ticket 1;
-- source 001).
use Rattle.std.specs.Prelude.{ℕ, suc, ◌-◌, ◌*◌, ◌+◌, ◌≤◌, ◌<◌, ◌≡◌, List, [], ◌∷◌, ◌++◌, length, replicate}
use Rattle.tiny_runs.specs.Runs.{least_count, most_count}

-- a long count: a word of 128 to 32,767, its high byte first
abbrev pub LongCount : ℕ → ℕ → ℕ → Type 0
LongCount high low count = (count ≡ high * 256 + low) × (least_count ≤ count) × (count ≤ most_count)

-- `Expands controls datas words n`: n runs use up these control bytes and data words, and make exactly these words
pub data Expands : List ℕ → List ℕ → List ℕ → ℕ → Type 0 where
  -- no run is left
  empty : Expands [] [] [] 0
  -- control byte x, 2 to 127: the next data word x times
  repeat : {x w : ℕ} {controls datas words : List ℕ} {n : ℕ} → 2 ≤ x → x < 128 → Expands controls datas words n
      → Expands (x ∷ controls) (w ∷ datas) (replicate x w ++ words) (suc n)
  -- control byte x, signed -127 to -1, unsigned 129 to 255: the next -x data words, unsigned 256 - x
  literal : {x : ℕ} (taken : List ℕ) {controls datas words : List ℕ} {n : ℕ} → 128 < x → x < 256
      → length taken ≡ 256 - x → Expands controls datas words n
      → Expands (x ∷ controls) (taken ++ datas) (taken ++ words) (suc n)
  -- control byte 0: the next data word as often as the next control word says
  long_repeat : {high low count w : ℕ} {controls datas words : List ℕ} {n : ℕ} → LongCount high low count
      → Expands controls datas words n
      → Expands (0 ∷ high ∷ low ∷ controls) (w ∷ datas) (replicate count w ++ words) (suc n)
  -- control byte 1: as many data words as the next control word says
  long_literal : {high low : ℕ} (taken : List ℕ) {controls datas words : List ℕ} {n : ℕ}
      → LongCount high low (length taken) → Expands controls datas words n
      → Expands (1 ∷ high ∷ low ∷ controls) (taken ++ datas) (taken ++ words) (suc n)
