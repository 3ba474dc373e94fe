-- Unpacking the least body of a row gives the row back.
use Prim.Native.Nat.{ℕ, ◌≤◌}
use mathlib.Core.Path.{◌≡◌}
use mathlib.Core.List.{List, ◌++◌}
use lib.ListN.{length}
use Rattle.packbits.specs.Row.{done}
use Rattle.packbits.specs.Unpack.{unpack}
use Rattle.packbits.proofs.Exact.{complete}
use Rattle.pack.specs.Least.{least, least_records}
use Rattle.pack.proofs.Valid.{least-is-least}

-- with anything after it, to the row's width: all bytes and records of the body, and the row
pub unpack-least : (row rest : List ℕ) → length row ≤ 128
    → unpack (least row ++ rest) (length row) ≡ done (length (least row)) (least_records row) row
unpack-least row rest h = complete (least-is-least row h).unpacks rest
