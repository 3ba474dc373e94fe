-- `unpack::unpack_into`: the row put record by record.
use mathlib.Core.Path.{◌≡◌, refl, sym, ◌∙◌}
use Prim.Native.Nat.{◌-◌}
use native.Mathlib.Omega.{arith}
use lib.ListN.{length}
use Rattle.packbits.specs.Records.{fault}
use Rattle.packbits.proofs.Records.{WholeAt, whole-at, whole-none, fault-some}
use Rattle.unpack.proofs.RecordsRead.{left-full, left-fault, answer-refused, answer-accepted}
use Rattle.unpack.proofs.Put.{record-fits, putting-turn, putting-done}
use Rattle.unpack.proofs.unpack_into.Goals as goal
use Rattle.unpack.proofs.unpack_into.Goals.{In_default}

-- in a turn that goes on the record is whole
module _ (c : In_default) where
  ok : fault c.record_at-r.result ≡ 0
  ok = whole-none c.record_at-r.result (sym c.fault_of.ensures ∙ c.in_default.is)

  whole : WholeAt c.record_at-r.result c.args.file.now c.loop-to.from (length c.args.out.now - c.loop-to.to)
  whole = whole-at _ _ _ c.record_at-r.result c.record_at-r.ensures ok

pub returns-in-Some : goal.returns-in-Some
returns-in-Some c =
    let l = c.loop-to in
    let r = c.record_at-r in
    let e = fault-some r.result c.in-Some.reason (sym c.fault_of.ensures ∙ c.in-Some.is) in
    let stop = left-fault c.args.file.now l.from (length c.args.out.now - l.to) r.result r.ensures (omega arith) e.1 in
    record {
      answer =
          rw (c.refuse_in_row.ensures, ← e.0)
          (sym (answer-refused l.invariant.read stop {to = l.to} (omega arith) e.1));
      row = putting-done l.invariant stop;
    }

pub put_row_bytes-requires : goal.put_row_bytes-requires
put_row_bytes-requires c =
    let i = (goal.at.put_row_bytes-requires c).In_default in
    record {
      r_in_bounds = (whole i).has;
      r_in_bounds_2 =
          record-fits c.loop-to.invariant (omega arith) c.record_at-r.result c.record_at-r.ensures (omega arith) (ok i);
    }

pub overflow_add-from : goal.overflow_add-from
overflow_add-from c =
    omega (arith, (whole (goal.at.overflow_add-from c).In_default).has, c.packed_len-from.ensures)

pub overflow_add-records : goal.overflow_add-records
overflow_add-records c =
    omega (arith, (whole (goal.at.overflow_add-records c).In_default).has, c.loop-to.invariant.read.counted)

pub loop-to-smaller : goal.loop-to-smaller
loop-to-smaller c =
    let w = whole (goal.at.loop-to-smaller c).In_default in
    omega (arith, w.has, w.takes, c.packed_len-from.ensures)

pub loop-to-preserved : goal.loop-to-preserved
loop-to-preserved c =
    let r = c.record_at-r in
    rw (c.packed_len-from.ensures, c.row_len-to.ensures)
    (putting-turn c.loop-to.invariant (omega arith) r.result r.ensures (omega arith)
    (ok (goal.at.loop-to-preserved c).In_default) _ c.put_row_bytes.ensures)

pub returns : goal.returns
returns c =
    let l = c.loop-to in
    let stop = left-full c.args.file.now l.from (length c.args.out.now - l.to) (omega arith) in
    record {
      answer = sym (answer-accepted l.invariant.read stop refl);
      row = putting-done l.invariant stop;
    }
