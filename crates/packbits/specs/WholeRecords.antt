-- The relation "these bytes are whole records, which make these bytes of a row" (document 01, "Packed rows").
use Rattle.std.specs.Prelude.{ℕ, suc, ◌+◌, ◌-◌, ◌<◌, ◌≡◌, List, [], ◌∷◌, ◌++◌, length, replicate}

-- `OneRecord packed bytes`: one whole record, and the bytes of the row that it makes. These are the records of
-- `Unpacks`: the law `unpacks-before` puts one of them before a row's body.
pub data OneRecord : List ℕ → List ℕ → Type 0 where
  -- control byte x, 0 to 127: the next x + 1 bytes as they stand
  literal_record : {x : ℕ} {bytes : List ℕ} → x < 128 → length bytes ≡ x + 1 → OneRecord (x ∷ bytes) bytes
  -- control byte x, signed -127 to -1, unsigned 129 to 255: the next byte -x + 1 times, unsigned 257 - x
  repeat_record : {x byte : ℕ} → 128 < x → x < 256 → OneRecord (x ∷ byte ∷ []) (replicate (257 - x) byte)
  -- control byte -128, unsigned 128, does nothing
  nothing_record : OneRecord (128 ∷ []) []

-- `WholeRecords packed made n`: n whole records, one after the other, and the bytes of a row that they make. They need
-- not fill a row, and a record that does nothing may stand anywhere, also last.
pub data WholeRecords : List ℕ → List ℕ → ℕ → Type 0 where
  no_records : WholeRecords [] [] 0
  one_more : {one bytes packed made : List ℕ} {n : ℕ} → OneRecord one bytes → WholeRecords packed made n
      → WholeRecords (one ++ packed) (bytes ++ made) (suc n)
