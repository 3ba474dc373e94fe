-- `pack::put_runs`: the short runs, and after them one record.
use mathlib.Core.Path.{◌≡◌}
use Prim.Native.Nat.{◌+◌, ◌-◌}
use native.Mathlib.Omega.{arith}
use lib.ListN.{length, take, drop}
use Rattle.pack.proofs.Emission.{RepeatFirst, repeat-first, emitted_then, left-fits}
use Rattle.pack.proofs.Known.{long-bounds, long-control}
use Rattle.pack.proofs.put_runs.Goals as goal
use Rattle.pack.proofs.put_runs.Goals.{Else-s-eq0}

pub returns-then-s-eq0 : goal.returns-then-s-eq0
returns-then-s-eq0 c =
    let e : c.args.s.end + c.args.s.count ≡ c.args.s.end = omega (arith, c.if-s-eq0.true) in
    rw e c.put_before-p.ensures

-- a run follows the short ones: the record
long : (c : Else-s-eq0)
    → let o = c.put_before-p.result.bytes in
    let out = c.put_before-p.new.out in
    RepeatFirst c.args.row.now c.args.s.end c.args.s.count (take (length out - o) (drop o out))
long c =
    let t = c.args.s in
    let l = c.requires.row_len_bound.2.after c.if-s-eq0.false in
    let narrow = c.requires.row_len_bound.0 in
    repeat-first c.args.row.now t.end l.inside narrow t.count (omega (arith, long-bounds l, narrow)) _
    (left-fits c.put_before-p.ensures c.requires.row_in_bounds) (omega (arith, l.long)) (long-control l)

pub put_repeat-made-requires : goal.put_repeat-made-requires
put_repeat-made-requires c = (long (goal.at.put_repeat-made-requires c).Else-s-eq0).0

pub returns : goal.returns
returns c =
    let q = c.put_repeat-made.ensures in
    emitted_then c.put_before-p.ensures ((long (goal.at.returns c).Else-s-eq0).1 _ _ q.made q.out_after)
