-- What row unpack accepts (document 01, "Packed rows").
use Rattle.std.specs.Prelude.{ℕ, ◌≤◌, ◌<◌, ◌≡◌, List, length, take}
use Rattle.packbits.specs.Unpacks.{Unpacks}

-- the width is 1 to 128, the output has room for the row, and the first `used` bytes of the input unpack to the row by
-- `records` records
abbrev pub AcceptsRow : List ℕ → ℕ → ℕ → ℕ → ℕ → List ℕ → Type 0
AcceptsRow packed width room used records row =
    (0 < width) × (width ≤ 128) × (width ≤ room) × (length row ≡ width) × (used ≤ length packed)
    × Unpacks (take used packed) row records
