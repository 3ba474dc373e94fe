-- Laws of the relation `UnpacksRows`.
use mathlib.Core.List.{List, []}
use Prim.Native.Nat.{ℕ, suc}
use lib.ListN.{get_or}
use Rattle.lists.specs.Bytes.{Bytes}
use Rattle.lists.proofs.Bytes.{no_bytes, bytes-append}
use Rattle.packbits.proofs.Unpacks.{unpacks-bytes}
use Rattle.packbits.specs.UnpacksRows.{UnpacksRows, none, more}

-- what unpacks to rows of bytes is a byte string
pub rows-bytes : {body : List ℕ} {rows : List (List ℕ)} {n : ℕ} → UnpacksRows body rows n
    → ((k : ℕ) → Bytes (get_or rows k [])) → Bytes body
rows-bytes none b = no_bytes
rows-bytes (more {body} {bodies} u us) b =
    bytes-append body bodies (unpacks-bytes u (b 0)) (rows-bytes us (λ k. b (suc k)))
