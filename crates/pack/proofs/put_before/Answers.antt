-- `pack::put_before`: a single byte alone is a literal of control byte 0.
use Prim.Native.Nat.{◌<◌}
use native.Mathlib.Omega.{arith}
use lib.ListN.{length}
use Rattle.pack.proofs.Emission.{LiteralFirst, literal-first}
use Rattle.pack.proofs.Known.{known-one}
use Rattle.pack.proofs.put_before.Goals as goal
use Rattle.pack.proofs.put_before.Goals.{Then-s-i}

-- a single byte alone
single : (c : Then-s-i) → LiteralFirst c.args.row.now c.args.i 1 c.args.out.now
single c =
    let a = c.args in
    let known = c.requires.row_len_bound.2 in
    let h : a.i < length a.row.now = omega (arith, c.if-s-i.true, known.within) in
    literal-first a.row.now a.i h c.requires.row_len_bound.0 1 (omega arith) a.out.now c.requires.row_in_bounds
    (omega arith) (known-one a.row.now a.i a.s known h (omega (arith, c.if-s-i.true)) c.if-s-i.true)

pub put_bytes-bytes-requires : goal.put_bytes-bytes-requires
put_bytes-bytes-requires c = (single (goal.at.put_bytes-bytes-requires c).Then-s-i).0

pub returns-then-s-i : goal.returns-then-s-i
returns-then-s-i c =
    let p = c.put_bytes-bytes.ensures in
    rw c.if-s-i.true ((single (goal.at.returns-then-s-i c).Then-s-i).1 _ _ p.made p.out_after)
