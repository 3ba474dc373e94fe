-- Laws of the relation `Unpacks`.
use mathlib.Core.List.{List, ◌∷◌, ◌++◌}
use Prim.Native.Nat.{ℕ, ◌-◌}
use native.Mathlib.Omega.{arith}
use lib.ListN.{replicate}
use Rattle.lists.specs.Bytes.{Bytes}
use Rattle.lists.proofs.Bytes.{bytes-cons, bytes-append, bytes-front, bytes-behind, bytes-repeated}
use Rattle.packbits.specs.Unpacks.{Unpacks, full, literal, repeat, nothing}

-- what unpacks to a row of bytes is a byte string
pub unpacks-bytes : {body row : List ℕ} {n : ℕ} → Unpacks body row n → Bytes row → Bytes body
unpacks-bytes full b = b
unpacks-bytes (literal {x} bytes {body} {row} h l u) b =
    bytes-cons x (bytes ++ body) (omega arith)
    (bytes-append bytes body (bytes-front bytes row b) (unpacks-bytes u (bytes-behind bytes row b)))
unpacks-bytes (repeat {x} {byte} {body} {row} h k u) b =
    bytes-cons x (byte ∷ body) k
    (bytes-cons byte body (bytes-repeated (257 - x) byte row (omega arith) b)
    (unpacks-bytes u (bytes-behind (replicate (257 - x) byte) row b)))
unpacks-bytes (nothing {body = body} u) b = bytes-cons 128 body (omega arith) (unpacks-bytes u b)
