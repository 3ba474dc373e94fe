-- `pack::emit` meets its contract: the first records, and after them all others.
use Prim.Native.Nat.{◌+◌, ◌-◌, ◌≤◌}
use native.Mathlib.Omega.{arith}
use native.Mathlib.Nat.{le_refl}
use lib.ListN.{length}
use borrow.Author.Rules.{rules}
use borrow.Rule.Slice.PartMut.{put_mid}
use Rattle.pack.specs.Emitted.{Emitted}
use Rattle.pack.proofs.Emission.{emitted_then, emitted-kept, emitted-room, left-fits, emitted-all}
use Rattle.pack.proofs.emit.Statement.{statement}
use Rattle.pack.proofs.emit.Tie as tie

-- the bytes written are within the output
room : (c : tie.After-emit_near-near) → c.emit_near-near.result.bytes ≤ length c.emit_near-near.new.out
room c = emitted-room c.emit_near-near.ensures c.requires.1

emit-rest-requires : tie.Need-emit_rest-rest-requires
emit-rest-requires c κs =
    let d = c.before.before.before in
    let s = d.before.before.before.before in
    ((s.requires.0, d.emit_near-near.ensures.within), left-fits d.emit_near-near.ensures s.requires.1)

-- what holds after all records
all : (d : tie.After-emit_rest-rest)
    → let e = d.emit_near-near in
    let a = d.args in
    let p = d.emit_rest-rest in
    Emitted a.row.now 0 (length a.row.now) a.out.now
    (put_mid e.result.bytes (length e.new.out - e.result.bytes) e.new.out p.new.out)
    (e.result.bytes + p.result.bytes) (e.result.records + p.result.records)
all d = emitted_then d.emit_near-near.ensures d.emit_rest-rest.ensures

add-t9 : tie.Need-overflow_add-result
add-t9 c =
    let d = c.before.before.before in
    let s = d.before.before.before.before.before.before.before.before in
    let e = all d in
    omega (arith, emitted-room e s.requires.1, emitted-kept e s.requires.1, s.well_formed)

pub emit_spec : {M : Type 1} → statement M
emit_spec =
    tie.close
    (tie.spec
    (λ c κs. search rules)
    (λ c. room c.before.before)
    (λ c. room c.before.before)
    (λ c. search rules)
    emit-rest-requires
    add-t9
    (λ c. search rules)
    (λ c. search rules)
    (λ c. emitted-all (all c.before.before.before.before.before) (le_refl _)))
