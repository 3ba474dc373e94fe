-- Where lines stop at a record at fault, and with which number (document 02, ticket 11).
use Rattle.std.specs.Prelude.{ℕ, suc, ◌-◌, ◌≤◌, ◌<◌, ◌≡◌, List, ◌∷◌}
use Rattle.gem_img_records.specs.MakesLine.{MakesLine}
use Rattle.gem_img_records.specs.StopsLine.{StopsLine}

-- no scanline run of all its 4 bytes stands at the front of the input
abbrev pub NoWholeRun : List ℕ → Type 0
NoWholeRun input = (flag count : ℕ) (rest : List ℕ) → input ≡ 0x00 ∷ 0x00 ∷ flag ∷ count ∷ rest → ⊥

-- `StopsLines pattern bytes n input number rest`: of n lines of `bytes` bytes, whole ones at the front of the input
-- come before a record at fault with this number, which begins `rest`
pub data StopsLines (pattern bytes : ℕ) : ℕ → List ℕ → ℕ → List ℕ → Type 0 where
  -- a scanline run before its line's other records: its flag is not FF
  flag_wrong : {n flag count : ℕ} {rest : List ℕ} → 0 < n → (flag ≡ 0xFF → ⊥)
      → StopsLines pattern bytes n (0x00 ∷ 0x00 ∷ flag ∷ count ∷ rest) 22 (0x00 ∷ 0x00 ∷ flag ∷ count ∷ rest)
  -- its count is 0
  count_none : {n : ℕ} {rest : List ℕ} → 0 < n
      → StopsLines pattern bytes n (0x00 ∷ 0x00 ∷ 0xFF ∷ 0 ∷ rest) 22 (0x00 ∷ 0x00 ∷ 0xFF ∷ 0 ∷ rest)
  -- it goes past the last line
  past_last : {n count : ℕ} {rest : List ℕ} → 0 < n → n < count
      → StopsLines pattern bytes n (0x00 ∷ 0x00 ∷ 0xFF ∷ count ∷ rest) 22 (0x00 ∷ 0x00 ∷ 0xFF ∷ count ∷ rest)
  -- another record of a line that has no scanline run; one that is cut short is such a record
  in_line : {n number : ℕ} {input rest : List ℕ} → 0 < n → NoWholeRun input
      → StopsLine pattern bytes input number rest → StopsLines pattern bytes n input number rest
  -- another record of a line that has one
  after_run : {n count number : ℕ} {input rest : List ℕ} → 0 < count → count ≤ n
      → StopsLine pattern bytes input number rest
      → StopsLines pattern bytes n (0x00 ∷ 0x00 ∷ 0xFF ∷ count ∷ input) number rest
  -- a later line
  after_line : {n number : ℕ} {input next rest : List ℕ} (line : List ℕ) → MakesLine pattern bytes input next line
      → StopsLines pattern bytes n next number rest → StopsLines pattern bytes (suc n) input number rest
  after_times : {count n number : ℕ} {input next rest : List ℕ} (line : List ℕ) → 0 < count → count ≤ n
      → MakesLine pattern bytes input next line → StopsLines pattern bytes (n - count) next number rest
      → StopsLines pattern bytes n (0x00 ∷ 0x00 ∷ 0xFF ∷ count ∷ input) number rest
