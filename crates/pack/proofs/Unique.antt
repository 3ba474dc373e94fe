-- A row of at most 128 bytes has one least body.
use Prim.Native.Nat.{ℕ, ◌≤◌}
use mathlib.Core.Path.{◌≡◌, refl, ap}
use mathlib.Core.List.{List, [], ◌++◌}
use lib.ListN.{length}
use Rattle.packbits.proofs.Exact.{deterministic}
use Rattle.pack.specs.IsLeast.{IsLeast}
use Rattle.pack.specs.Least.{least, least_records}
use Rattle.pack.proofs.Order.{preferred-antisym}
use Rattle.pack.proofs.Valid.{least-is-least}

-- the writer's body is the only one that `IsLeast` allows
pub least-unique : {row b : List ℕ} {n : ℕ} → length row ≤ 128 → IsLeast row b n
    → (b ≡ least row) × (n ≡ least_records row)
least-unique {row} {b} {n} h q =
    let p = least-is-least row h in
    let e : b ≡ least row = preferred-antisym (q.first p.unpacks) (p.first q.unpacks) in
    (e, (deterministic q.unpacks p.unpacks [] [] (ap (λ (l : List ℕ). l ++ []) e) refl).2)
