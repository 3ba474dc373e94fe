-- `pack::put_near`: the record is that of a run of three or more, or of a single byte before one.
use Prim.Native.Nat.{◌-◌}
use native.Mathlib.Omega.{arith}
use Rattle.pack.proofs.Emission.{LiteralFirst, RepeatFirst, literal-first, repeat-first}
use Rattle.pack.proofs.Known.{near-run, near-single, long-bounds, long-control}
use Rattle.pack.proofs.put_near.Goals as goal
use Rattle.pack.proofs.put_near.Goals.{In-Single, After-end_by_words}

-- a single byte before a run of three or more
single : (c : In-Single) → LiteralFirst c.args.row.now c.args.i 1 c.args.out.now
single c =
    let a = c.args in
    let h = c.requires.i_in_bounds in
    let e = c.what_is_near.ensures.single c.in-Single.is in
    literal-first a.row.now a.i h.0 h.1 1 (omega arith) a.out.now c.requires.row_in_bounds (omega arith)
    (near-single a.row.now a.i c.if-row-i.false e.0 e.1 e.2)

-- a run of three or more
long : (c : After-end_by_words) → RepeatFirst c.args.row.now c.args.i (c.end_by_words.result - c.args.i) c.args.out.now
long c =
    let a = c.args in
    let h = c.requires.i_in_bounds in
    let e = c.what_is_near.ensures.run c.in-Run.is in
    let k = c.end_by_words.result - a.i in
    let run = near-run a.row.now a.i c.if-row-i.false e.0 e.1 k (omega (arith, c.end_by_words.ensures)) in
    repeat-first a.row.now a.i h.0 h.1 k (omega (arith, long-bounds run, h.1)) a.out.now c.requires.row_in_bounds
    (omega (arith, run.long)) (long-control run)

pub put_repeat-bytes-requires : goal.put_repeat-bytes-requires
put_repeat-bytes-requires c = (long (goal.at.put_repeat-bytes-requires c).After-end_by_words).0

pub put_bytes-bytes-requires : goal.put_bytes-bytes-requires
put_bytes-bytes-requires c = (single (goal.at.put_bytes-bytes-requires c).In-Single).0

pub returns-in-Run : goal.returns-in-Run
returns-in-Run c =
    let p = c.put_repeat-bytes.ensures in
    (long (goal.at.returns-in-Run c).After-end_by_words).1 _ _ p.made p.out_after

pub returns-in-Single : goal.returns-in-Single
returns-in-Single c =
    let p = c.put_bytes-bytes.ensures in
    (single (goal.at.returns-in-Single c).In-Single).1 _ _ p.made p.out_after
