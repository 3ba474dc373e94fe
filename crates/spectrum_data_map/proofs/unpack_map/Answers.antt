-- The loop puts what each record makes behind what is made; a record that is judged is whole, or filling stops there.
use mathlib.Core.Path.{◌≡◌, refl, sym}
use Prim.Native.Nat.{ℕ, ◌+◌, ◌-◌}
use native.Mathlib.Omega.{arith}
use lib.ListN.{length}
use Rattle.std.proofs.lemmas.Result.{err_from_is_err_and}
use Rattle.filling.proofs.Putting.{putting-start, step_fits, putting-turn, putting-done}
use Rattle.spectrum_data_map.specs.Records.{makes, control, record_bytes}
use Rattle.spectrum_data_map.specs.DataMap.{fill_map}
use Rattle.spectrum_data_map.proofs.Records.{makes-some, length-bytes}
use Rattle.spectrum_data_map.proofs.DataMap.{map-full, whole-step, map-most, whole_judged, fault_judged}
use Rattle.spectrum_data_map.proofs.unpack_map.Goals as goal

pub loop-to-init : goal.loop-to-init
loop-to-init c =
    let a = c.args in
    let all : length a.out.now - 0 ≡ length a.out.now = omega arith in
    (omega arith, refl, rw all (putting-start (fill_map a.map.now a.at (length a.out.now)) a.out.now))

pub returns-in_err-judge_record : goal.returns-in_err-judge_record
returns-in_err-judge_record c =
    let l = c.loop-to in
    let a = c.args in
    let p = err_from_is_err_and c.from_residual.result c.from_residual.ensures.1 in
    let stops = fault_judged a.map.now l.from (length a.out.now - l.to) c.judge_record.result c.judge_record.ensures _
    (omega arith) c.in_err-judge_record.was in
    let d = putting-done l.invariant.2 _ stops in
    rw (p.1, p.2) (record { answer = sym d.0; bytes = d.1 })

pub bounds-map-from : goal.bounds-map-from
bounds-map-from c =
    (whole_judged _ c.loop-to.from _ c.judge_record.result c.judge_record.ensures _ c.in_ok-judge_record.was).here

pub put_record-requires : goal.put_record-requires
put_record-requires c =
    let l = c.loop-to in
    let a = c.args in
    let w = whole_judged a.map.now l.from _ c.judge_record.result c.judge_record.ensures _ c.in_ok-judge_record.was in
    let fits = step_fits l.invariant.2 (record_bytes a.map.now l.from) _ (whole-step a.map.now l.from _ (omega arith) w)
    (map-most a.map.now a.at (length a.out.now)) in
    record {
      at_in_bounds = w.here;
      at_in_bounds_2 = w.has;
      at_in_bounds_3 = rw (length-bytes a.map.now l.from w.has) at fits;
    }

pub overflow_add-from : goal.overflow_add-from
overflow_add-from c =
    let w = whole_judged _ c.loop-to.from _ c.judge_record.result c.judge_record.ensures _ c.in_ok-judge_record.was in
    omega (arith, w.has, c.taken_by-from.ensures)

pub overflow_add-to : goal.overflow_add-to
overflow_add-to c =
    let w = whole_judged _ c.loop-to.from _ c.judge_record.result c.judge_record.ensures _ c.in_ok-judge_record.was in
    omega (arith, w.fits, c.made_by-to.ensures)

pub loop-to-smaller : goal.loop-to-smaller
loop-to-smaller c =
    let a = c.args in
    omega (arith, makes-some (control a.map.now c.loop-to.from), c.made_by-to.ensures)

pub loop-to-preserved : goal.loop-to-preserved
loop-to-preserved c =
    let l = c.loop-to in
    let a = c.args in
    let w = whole_judged a.map.now l.from _ c.judge_record.result c.judge_record.ensures _ c.in_ok-judge_record.was in
    let m = c.made_by-to.ensures in
    let n : ℕ = makes (control a.map.now l.from) in
    let room-less : length a.out.now - l.to - n ≡ length a.out.now - (l.to + n) = omega arith in
    let next = putting-turn l.invariant.2 (record_bytes a.map.now l.from) _
    (whole-step a.map.now l.from _ (omega arith) w) (map-most a.map.now a.at (length a.out.now)) _ c.put_record.ensures
    in (
      omega (arith, m, w.fits),
      refl,
      rw (m, c.taken_by-from.ensures, ← room-less) (rw (length-bytes a.map.now l.from w.has) at next),
    )

pub returns : goal.returns
returns c =
    let l = c.loop-to in
    let a = c.args in
    let full : length a.out.now - l.to ≡ 0 = omega arith in
    let d = putting-done l.invariant.2 _ (map-full a.map.now l.from _ full) in
    record { answer = sym d.0; bytes = d.1 }
