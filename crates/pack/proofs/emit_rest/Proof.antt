-- `pack::emit_rest` meets its contract. The loop keeps `Emitted` and the mask; a turn is the short runs and the run
-- after them.
use Prim.Native.Nat.{◌+◌, ◌-◌, ◌≤◌, ◌<◌}
use native.Mathlib.Omega.{arith}
use mathlib.Core.Path.{◌≡◌}
use lib.ListN.{length}
use borrow.Author.Rules.{rules}
use borrow.Rule.Slice.PartMut.{put_mid}
use Rattle.pack.specs.Emitted.{Emitted}
use Rattle.pack.specs.Masks.{MaskAt}
use Rattle.pack.proofs.Emission.{emitted-none, emitted_then, emitted-kept, emitted-room, left-fits}
use Rattle.pack.proofs.Known.{ahead-some}
use Rattle.pack.proofs.emit_rest.Statement.{statement}
use Rattle.pack.proofs.emit_rest.Tie as tie

abbrev invariant-loop : tie.invariant-loop-i
invariant-loop row from out₀ equal₀ i₀ o₀ n₀ out equal i o n = Emitted row from i out₀ out o n × MaskAt row i equal

abbrev decreases-loop : tie.decreases-loop-i
decreases-loop row from out₀ equal₀ i₀ o₀ n₀ out equal i o n = length row - i

loop-holds : tie.Need-loop-i-init invariant-loop decreases-loop
loop-holds c =
    let s = c.before.before.before in
    (emitted-none s.args.row.now s.args.from s.args.out.now s.requires.0.1, c.mask_at-equal.ensures)

runs-ahead-requires : tie.Need-runs_ahead-s-requires invariant-loop decreases-loop
runs-ahead-requires c κs =
    (c.loop-i-test.true, c.requires.0.0, c.loop-i.invariant.1)

-- the bytes written are within the output
room : (c : tie.After-runs_ahead-s invariant-loop decreases-loop)
    → c.loop-i.o ≤ length c.loop-i.out
room c = emitted-room c.loop-i.invariant.0 c.requires.1

put-runs-requires : tie.Need-put_runs-p-requires invariant-loop decreases-loop
put-runs-requires c κs =
    let k = c.runs_ahead-s.ensures in
    let l = c.loop-i in
    let s = c.before.before.before.before.before.before.before in
    ((s.requires.0.0, omega (arith, k.short), k), left-fits l.invariant.0 s.requires.1)

-- what holds after a turn's records, which stand for a byte at least
turned : (d : tie.After-put_runs-p invariant-loop decreases-loop)
    → let s = d.runs_ahead-s.result in
    let l = d.loop-i in
    let a = d.args in
    let p = d.put_runs-p in
    (l.i < s.end + s.count)
    × Emitted a.row.now a.from (s.end + s.count) a.out.now
    (put_mid l.o (length l.out - l.o) l.out p.new.out) (l.o + p.result.bytes)
    (l.n + p.result.records)
turned d =
    let t = d.before.before in
    let l = t.loop-i in
    let a = t.args in
    let k = t.runs_ahead-s in (
      ahead-some a.row.now l.i k.result k.ensures t.loop-i-test.true,
      emitted_then l.invariant.0 d.put_runs-p.ensures,
    )

add-next : tie.Need-overflow_add-next invariant-loop decreases-loop
add-next c =
    let d = c.before.before.before in
    let s = d.before.before.before.before.before.before.before.before in
    omega (arith, (turned d).1.within, s.requires.0.0)

next-mask-requires : tie.Need-next_mask-equal-requires invariant-loop decreases-loop
next-mask-requires c κs =
    let d = c.before.before.before in
    let e = turned d in
    (omega (arith, e.0), e.1.within, d.loop-i.invariant.1)

add-o : tie.Need-overflow_add-o invariant-loop decreases-loop
add-o c =
    let d = c.before.before.before.before.before in
    let s = d.before.before.before.before.before.before.before.before in
    let e = (turned d).1 in
    omega (arith, emitted-room e s.requires.1, emitted-kept e s.requires.1, s.well_formed)

add-n : tie.Need-overflow_add-n invariant-loop decreases-loop
add-n c =
    let d = c.before.before.before.before.before.before in
    let s = d.before.before.before.before.before.before.before.before in
    let e = (turned d).1 in
    omega (arith, e.few, e.within, s.requires.0.0)

loop-less : tie.Need-loop-i-smaller invariant-loop decreases-loop
loop-less c = let e = turned c.before.before.before.before.before.before in omega (arith, e.0, e.1.within)

loop-again : tie.Need-loop-i-preserved invariant-loop decreases-loop
loop-again c = ((turned c.before.before.before.before.before.before).1, c.next_mask-equal.ensures)

returns : tie.Need-returns invariant-loop decreases-loop
returns c =
    let l = c.loop-i in
    let row = c.args.row.now in
    let e : l.i ≡ length row = omega (arith, c.loop-i-test.false, l.invariant.0.within) in
    rw e at l.invariant.0

pub emit_rest_spec : {M : Type 1} → statement M
emit_rest_spec =
    tie.close
    (tie.spec
    invariant-loop
    decreases-loop
    (λ c κs. search rules)
    loop-holds
    runs-ahead-requires
    room
    room
    (λ c. search rules)
    put-runs-requires
    add-next
    next-mask-requires
    add-o
    add-n
    loop-less
    loop-again
    (λ c. emitted-kept c.loop-i.invariant.0 c.requires.1)
    returns)
