-- The tests are those of `fault_at`.
use native.Mathlib.Omega.{arith}
use Rattle.spectrum_data_map.proofs.Records.{fault-end, fault-crosses, fault-cut, fault-whole}
use Rattle.spectrum_data_map.proofs.DataMap.{judged_refused, judged_accepted}
use Rattle.spectrum_data_map.proofs.judge_record.Goals as goal

pub returns-then-map-at : goal.returns-then-map-at
returns-then-map-at c =
    let a = c.args in
    let e = fault-end a.map.now a.at a.room (omega arith) in
    rw (judged_refused a.map.now a.at a.room _ e (λ z. omega arith), c.refuse_at.ensures)

pub returns-then-room-made_by : goal.returns-then-room-made_by
returns-then-room-made_by c =
    let a = c.args in
    let e = fault-crosses a.map.now a.at a.room (omega arith) (omega (arith, c.made_by.ensures)) in
    rw (judged_refused a.map.now a.at a.room _ e (λ z. omega arith), c.refuse_at-then-room-made_by.ensures)

pub returns-then-map-at-2 : goal.returns-then-map-at-2
returns-then-map-at-2 c =
    let a = c.args in
    let e = fault-cut a.map.now a.at a.room (omega arith) (omega (arith, c.made_by.ensures))
    (omega (arith, c.taken_by.ensures)) in
    rw (judged_refused a.map.now a.at a.room _ e (λ z. omega arith), c.refuse_at-then-map-at-2.ensures)

pub returns : goal.returns
returns c =
    let a = c.args in
    rw (judged_accepted a.map.now a.at a.room (fault-whole a.map.now a.at a.room (record {
      here = omega arith;
      fits = omega (arith, c.made_by.ensures);
      has = omega (arith, c.taken_by.ensures);
    })))
