-- `pack::put_last`: the record is that of a pair, or of a literal to the end.
use mathlib.Core.Path.{◌∙◌, sym}
use Prim.Native.Nat.{◌-◌}
use native.Mathlib.Omega.{arith}
use lib.ListN.{length}
use Rattle.pack.proofs.Emission.{emitted-none, LiteralFirst, RepeatFirst, literal-first, repeat-first}
use Rattle.pack.proofs.Known.{last-pair, last-other}
use Rattle.pack.proofs.put_last.Goals as goal
use Rattle.pack.proofs.put_last.Goals.{Then-end_by_bytes-i, Else-end_by_bytes-i}

pub returns-then-left-gt2 : goal.returns-then-left-gt2
returns-then-left-gt2 c = emitted-none c.args.row.now c.args.i c.args.out.now (omega (arith, c.requires.i_in_bounds.0))

-- a pair
pair : (c : Then-end_by_bytes-i) → RepeatFirst c.args.row.now c.args.i 2 c.args.out.now
pair c =
    let a = c.args in
    let h = c.requires.i_in_bounds in
    repeat-first a.row.now a.i h.0 h.1 2 (omega arith) a.out.now c.requires.row_in_bounds (omega arith)
    (last-pair a.row.now a.i h.0 (omega (arith, c.if-left-gt2.false))
    (sym c.if-end_by_bytes-i.true ∙ c.end_by_bytes.ensures))

-- a literal to the end
literal : (c : Else-end_by_bytes-i) → LiteralFirst c.args.row.now c.args.i (length c.args.row.now - c.args.i) c.args.out.now
literal c =
    let a = c.args in
    let h = c.requires.i_in_bounds in
    literal-first a.row.now a.i h.0 h.1 (length a.row.now - a.i) (omega (arith, h.1)) a.out.now
    c.requires.row_in_bounds (omega (arith, h.0))
    (last-other a.row.now a.i h.0 (omega (arith, c.if-left-gt2.false))
    (λ q. c.if-end_by_bytes-i.false (c.end_by_bytes.ensures ∙ q)))

pub put_repeat-bytes-requires : goal.put_repeat-bytes-requires
put_repeat-bytes-requires c = (pair (goal.at.put_repeat-bytes-requires c).Then-end_by_bytes-i).0

pub returns-then-end_by_bytes-i : goal.returns-then-end_by_bytes-i
returns-then-end_by_bytes-i c =
    let p = c.put_repeat-bytes.ensures in
    (pair (goal.at.returns-then-end_by_bytes-i c).Then-end_by_bytes-i).1 _ _ p.made p.out_after

pub put_bytes-bytes-requires : goal.put_bytes-bytes-requires
put_bytes-bytes-requires c = (literal (goal.at.put_bytes-bytes-requires c).Else-end_by_bytes-i).0

pub returns : goal.returns
returns c =
    let p = c.put_bytes-bytes.ensures in
    (literal (goal.at.returns c).Else-end_by_bytes-i).1 _ _ p.made p.out_after
