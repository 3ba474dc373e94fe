-- The relation "these bytes of a file make these lines" (source 002; document 02, ticket 11).
use Rattle.std.specs.Prelude.{ℕ, suc, ◌-◌, ◌≤◌, ◌<◌, List, [], ◌∷◌, ◌++◌}
use Rattle.lists.specs.Repeated.{repeated}
use Rattle.gem_img_records.specs.MakesLine.{MakesLine}

-- `MakesLines pattern bytes n input rest made`: with patterns of so many bytes, the front of the input makes n lines of
-- `bytes` bytes, which are `made`, one after another, and `rest` is the input behind them
pub data MakesLines (pattern bytes : ℕ) : ℕ → List ℕ → List ℕ → List ℕ → Type 0 where
  -- no line is left
  no_line : {rest : List ℕ} → MakesLines pattern bytes 0 rest rest []
  -- a line without a scanline run, used once
  once : {n : ℕ} {input next rest : List ℕ} (line : List ℕ) {made : List ℕ} → MakesLine pattern bytes input next line
      → MakesLines pattern bytes n next rest made → MakesLines pattern bytes (suc n) input rest (line ++ made)
  -- 00 00 FF and a count, and a line, used so many times: once at least, and not past the last line
  times : {count n : ℕ} {input next rest : List ℕ} (line : List ℕ) {made : List ℕ} → 0 < count → count < 256
      → count ≤ n → MakesLine pattern bytes input next line → MakesLines pattern bytes (n - count) next rest made
      → MakesLines pattern bytes n (0x00 ∷ 0x00 ∷ 0xFF ∷ count ∷ input) rest (repeated count line ++ made)
