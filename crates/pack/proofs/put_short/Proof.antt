-- `pack::put_short` meets its contract. The loop keeps `Known` and `Emitted`; a turn is one record.
use Prim.Native.Nat.{◌+◌, ◌-◌, ◌≤◌, ◌<◌}
use native.Mathlib.Omega.{arith}
use mathlib.Core.Path.{◌≡◌}
use lib.ListN.{length, take, drop}
use borrow.Author.Rules.{rules}
use borrow.Rule.Slice.PartMut.{put_mid}
use Rattle.pack.specs.Emitted.{Emitted}
use Rattle.pack.specs.ShortRuns.{control_at, Known}
use Rattle.pack.proofs.Known.{known-control, known_next}
use Rattle.pack.proofs.Emission.{emitted-none, record-leads, record-room, emitted-record, emitted_then}
use Rattle.pack.proofs.Emission.{emitted-kept, emitted-room, left-fits}
use Rattle.pack.proofs.put_short.Statement.{statement}
use Rattle.pack.proofs.put_short.Tie as tie

abbrev invariant-loop : tie.invariant-loop-at
invariant-loop row i s out₀ at₀ o₀ n₀ out at o n = (at ≤ s.end) × Known row at s × Emitted row i at out₀ out o n

abbrev decreases-loop : tie.decreases-loop-at
decreases-loop row i s out₀ at₀ o₀ n₀ out at o n = s.end - at

loop-holds : tie.Need-loop-at-init invariant-loop decreases-loop
loop-holds c =
    let s = c.before.before in
    let known = s.requires.0.2 in
    (s.requires.0.1, known, emitted-none _ _ _ (omega (arith, s.requires.0.1, known.within)))

-- the bytes written are within the output
room : (c : tie.After-put_next-arg-1 invariant-loop decreases-loop)
    → c.loop-at.o ≤ length c.loop-at.out
room c =
    let l = c.loop-at in
    emitted-room l.invariant.2 c.requires.1

put-next-requires : tie.Need-put_next-p-requires invariant-loop decreases-loop
put-next-requires c κs =
    let t = c.before.before in
    let l = t.loop-at in
    let s = t.before.before.before.before.before in
    let row = s.args.row.now in
    let known = l.invariant.1 in
    let h : l.at < length row = omega (arith, t.loop-at-test.true, known.within) in
    let is = known-control row l.at s.args.s known h t.loop-at-test.true in
    let part = take (length l.out - l.o) (drop l.o l.out) in
    let fits = left-fits l.invariant.2 s.requires.1 in
    let w = record-room row l.at h s.requires.0.0 (control_at l.at s.args.s) is part fits in
    ((omega (arith, known.order, known.within, s.requires.0.0), w.0), (w.1, w.2))

-- what holds after a turn's record, which takes a byte at least
turned : (d : tie.After-put_next-p invariant-loop decreases-loop)
    → let l = d.loop-at in
    let a = d.args in
    let p = d.put_next-p in
    (1 ≤ p.result.taken)
    × ((l.at + p.result.taken ≤ a.s.end)
    × Known a.row.now (l.at + p.result.taken) a.s
    × Emitted a.row.now a.i (l.at + p.result.taken) a.out.now
    (put_mid l.o (length l.out - l.o) l.out p.new.out) (l.o + p.result.made) (l.n + 1))
turned d =
    let t = d.before.before.before in
    let l = t.loop-at in
    let s = t.before.before.before.before.before in
    let row = s.args.row.now in
    let p = d.put_next-p in
    let known = l.invariant.1 in
    let h : l.at < length row = omega (arith, t.loop-at-test.true, known.within) in
    let is = known-control row l.at s.args.s known h t.loop-at-test.true in
    let lead = record-leads row l.at h s.requires.0.0 (control_at l.at s.args.s) is in
    let some : 1 ≤ p.result.taken = omega (arith, lead.some, p.ensures.0.0) in
    let f = emitted-record row l.at h s.requires.0.0 _ is p.ensures in
    let k = known_next row l.at s.args.s known h t.loop-at-test.true s.requires.0.0 in (
      some,
      (rw p.ensures.0.0 k.0, rw p.ensures.0.0 k.1, emitted_then l.invariant.2 f),
    )

add_at : tie.Need-overflow_add-at invariant-loop decreases-loop
add_at c =
    let d = c.before.before.before in
    let s = d.before.before.before.before.before.before.before.before in
    omega (arith, (turned d).1.2.within, s.requires.0.0)

add-o : tie.Need-overflow_add-o invariant-loop decreases-loop
add-o c =
    let d = c.before.before.before.before in
    let s = d.before.before.before.before.before.before.before.before in
    let e = (turned d).1.2 in
    omega (arith, emitted-room e s.requires.1, emitted-kept e s.requires.1, s.well_formed)

add-n : tie.Need-overflow_add-n invariant-loop decreases-loop
add-n c =
    let d = c.before.before.before.before in
    let s = d.before.before.before.before.before.before.before.before in
    let e = (turned d).1.2 in
    omega (arith, e.few, e.within, s.requires.0.0)

same_length : tie.Need-shape_of-out invariant-loop decreases-loop
same_length c =
    let s = c.before.before.before.before.before in
    emitted-kept c.loop-at.invariant.2 s.requires.1

returns : tie.Need-returns invariant-loop decreases-loop
returns c =
    let s = c.before.before.before.before.before in
    let l = c.loop-at in
    let e : l.at ≡ s.args.s.end = omega (arith, c.loop-at-test.false, l.invariant.0) in
    rw e at l.invariant.2

pub put_short_spec : {M : Type 1} → statement M
put_short_spec =
    tie.close
    (tie.spec
    invariant-loop
    decreases-loop
    loop-holds
    (λ c. search rules)
    (λ c. search rules)
    (λ c. search rules)
    room
    room
    (λ c. search rules)
    put-next-requires
    add_at
    add-o
    add-n
    (λ c. let e = turned c.before.before.before.before in omega (arith, e.0, e.1.0))
    (λ c. (turned c.before.before.before.before).1)
    same_length
    returns)
