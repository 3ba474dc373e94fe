-- Row pack: what is given back and written (document 01, "Order of judging": row pack).
use Rattle.std.specs.Prelude.{ℕ, cond, List, length, ltb, leb}
use Rattle.outcome.specs.Outcome.{Outcome, refuse_if}
use Rattle.outcome.specs.Refusal.{area_too_short, out_of_range}
use Rattle.packbits.specs.Row.{Row, done, width_out_of_range}
use Rattle.pack.specs.Least.{least, least_records}

-- the longest body that packing makes of a row
abbrev pub max_body : ℕ
max_body = 129

-- the row's least body into an output of `room` bytes, of which it must have `needed` at least
unfoldable pub pack_within : ℕ → List ℕ → ℕ → Outcome Row
pack_within needed row room =
    refuse_if (width_out_of_range (length row)) out_of_range
    (refuse_if (ltb room needed) area_too_short
    (done (length (least row)) (least_records row) (least row)))

-- row pack: the row is the whole input, and the output must have room for the longest body
abbrev pub pack_row : List ℕ → ℕ → Outcome Row
pack_row row room = pack_within max_body row room

-- the same into an output that need have no more bytes than are written
abbrev pub pack_into : List ℕ → ℕ → Outcome Row
pack_into row room = pack_within (length (least row)) row room

-- the length of the least body of a row of at most 128 bytes; 0 of a wider one
abbrev pub least_len : List ℕ → ℕ
least_len row = cond (leb (length row) 128) (length (least row)) 0
