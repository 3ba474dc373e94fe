-- `pack::emit_near` meets its contract. The loop keeps `Emitted`; a turn is one record.
use Prim.Native.Nat.{◌+◌, ◌-◌, ◌≤◌}
use native.Mathlib.Omega.{arith}
use lib.ListN.{length}
use borrow.Author.Rules.{rules}
use borrow.Rule.Slice.PartMut.{put_mid}
use Rattle.pack.specs.Emitted.{Emitted}
use Rattle.pack.proofs.Emission.{emitted-none, emitted_then, emitted-kept, emitted-room, left-fits}
use Rattle.pack.proofs.emit_near.Statement.{statement}
use Rattle.pack.proofs.emit_near.Tie as tie

abbrev invariant-loop : tie.invariant-loop-i
invariant-loop row out₀ i₀ o₀ n₀ out i o n = Emitted row 0 i out₀ out o n

abbrev decreases-loop : tie.decreases-loop-i
decreases-loop row out₀ i₀ o₀ n₀ out i o n = length row - i

-- the bytes written are within the output
room : (c : tie.In-loop-i invariant-loop decreases-loop) → c.loop-i.o ≤ length c.loop-i.out
room c = emitted-room c.loop-i.invariant c.requires.1

put-near-requires : tie.Need-put_near-p-requires invariant-loop decreases-loop
put-near-requires c κs =
    let t = c.before in
    let s = t.before.before.before.before in
    ((t.loop-i-test.true, s.requires.0), left-fits t.loop-i.invariant s.requires.1)

-- what holds after a turn's record
turned : (d : tie.After-put_near-p invariant-loop decreases-loop)
    → let l = d.loop-i in
    let a = d.args in
    let p = d.put_near-p in
    Emitted a.row.now 0 p.result.place a.out.now
    (put_mid l.o (length l.out - l.o) l.out p.new.out) (l.o + p.result.bytes)
    (l.n + p.result.records)
turned d = emitted_then d.loop-i.invariant d.put_near-p.ensures

add-o : tie.Need-overflow_add-o invariant-loop decreases-loop
add-o c =
    let d = c.before.before.before in
    let s = d.before.before.before.before.before.before in
    let e = turned d in
    omega (arith, emitted-room e s.requires.1, emitted-kept e s.requires.1, s.well_formed)

add-n : tie.Need-overflow_add-n invariant-loop decreases-loop
add-n c =
    let d = c.before.before.before.before in
    let s = d.before.before.before.before.before.before in
    let e = turned d in
    omega (arith, e.few, e.within, s.requires.0)

same_length : tie.Need-shape_of-out-then-place-i invariant-loop decreases-loop
same_length c =
    let d = c.before.before.before.before.before in
    emitted-kept (turned d) d.requires.1

loop-less : tie.Need-loop-i-smaller invariant-loop decreases-loop
loop-less c =
    let d = c.before.before.before.before.before in
    omega (arith, c.if-place-i.false, d.put_near-p.ensures.few, d.put_near-p.ensures.within)

pub emit_near_spec : {M : Type 1} → statement M
emit_near_spec =
    tie.close
    (tie.spec
    invariant-loop
    decreases-loop
    (λ c. emitted-none _ 0 _ (omega arith))
    room
    room
    (λ c. search rules)
    put-near-requires
    add-o
    add-n
    same_length
    (λ c. turned c.before.before.before.before.before)
    loop-less
    (λ c. turned c.before.before.before.before.before)
    (λ c. emitted-kept c.loop-i.invariant c.requires.1)
    (λ c. c.loop-i.invariant))
