use Rattle.std.proofs.Common.{refl, ap, ◌*◌, ◌/◌, length, arith, rules}
use Rattle.std.specs.Prelude.{Some}
use lib.ListN.{length-drop}
use Rattle.lists.proofs.Parts.{tail-part}
use Rattle.outcome.proofs.Reasons.{number-some}
use Rattle.tiny_runs.specs.declared.Expanded.{Expanded}
use Rattle.outcome.specs.Refusal.{number_if}
use Rattle.tiny_runs.proofs.Expanding.{expanding-start, expanding-turn, next_fits, next-uses}
use Rattle.tiny_runs.proofs.Expanding.{left-fault, left-none, counts-done, put-done}
use Rattle.tiny_runs.proofs.expand.Goals as goal

pub loop-done-init : goal.loop-done-init
loop-done-init c =
    let a = c.args in
    rw c.none-done.ensures (record {
      kept = refl;
      expanding =
          expanding-start a.controls.now a.section.now (length a.section.now / 2) (length a.made.now / 2) a.made.now;
      sound = refl;
    })

pub put_run-requires-clause-count_in_bounds : goal.put_run-requires-clause-count_in_bounds
put_run-requires-clause-count_in_bounds c =
    let l = c.loop-done in
    let f = next_fits l.invariant.expanding c.in-Ok.ensures c.loop-done-test.true refl in
    let at = l.done.words * 2 in
    omega (arith, ap length (tail-part l.made at), length-drop at l.made, f.3, l.invariant.kept)

pub put_run-requires-clause-count_in_bounds_2 : goal.put_run-requires-clause-count_in_bounds_2
put_run-requires-clause-count_in_bounds_2 c =
    let p = c.loop-done.invariant.expanding in
    let is = c.in-Ok.ensures in
    let f = next_fits p is c.loop-done-test.true refl in
    let uses = next-uses p is c.loop-done-test.true refl in
    omega (arith, f.2, uses)

pub after-done-requires-clause-controls_fit : goal.after-done-requires-clause-controls_fit
after-done-requires-clause-controls_fit c =
    let f = next_fits c.loop-done.invariant.expanding c.in-Ok.ensures c.loop-done-test.true refl in
    omega (arith, f.1)

pub after-done-requires-clause-datas_fit : goal.after-done-requires-clause-datas_fit
after-done-requires-clause-datas_fit c =
    let f = next_fits c.loop-done.invariant.expanding c.in-Ok.ensures c.loop-done-test.true refl in
    omega (arith, f.2)

pub after-done-requires-clause-words_fit : goal.after-done-requires-clause-words_fit
after-done-requires-clause-words_fit c =
    let f = next_fits c.loop-done.invariant.expanding c.in-Ok.ensures c.loop-done-test.true refl in
    omega (arith, f.3)

pub loop-done-smaller : goal.loop-done-smaller
loop-done-smaller c =
    let f = next_fits c.loop-done.invariant.expanding c.in-Ok.ensures c.loop-done-test.true refl in
    omega (arith, f.0, f.1, ap (λ (d : Expanded). d.controls.0) c.after-done.ensures)

pub loop-done-preserved : goal.loop-done-preserved
loop-done-preserved c =
    let i = c.loop-done.invariant in
    rw c.after-done.ensures (record {
      kept = search rules;
      expanding =
          expanding-turn i.expanding c.in-Ok.ensures c.loop-done-test.true refl _ c.put_run.ensures;
      sound = i.sound;
    })

pub returns-in-Err-clause-answer : goal.returns-in-Err-clause-answer
returns-in-Err-clause-answer c =
    let p = c.loop-done.invariant.expanding in
    let stop = left-fault p c.in-Err.ensures c.loop-done-test.true (number-some c.in-Err.reason) in
    counts-done p _ stop (Some c.in-Err.reason) refl

pub returns-in-Err-clause-made : goal.returns-in-Err-clause-made
returns-in-Err-clause-made c =
    let p = c.loop-done.invariant.expanding in
    let stop = left-fault p c.in-Err.ensures c.loop-done-test.true (number-some c.in-Err.reason) in
    put-done p _ stop

pub returns-clause-answer : goal.returns-clause-answer
returns-clause-answer c =
    let l = c.loop-done in
    let p = l.invariant.expanding in
    counts-done p 0 (left-none p c.loop-done-test.false) l.done.fault (ap number_if l.invariant.sound)

pub returns-clause-made : goal.returns-clause-made
returns-clause-made c =
    let p = c.loop-done.invariant.expanding in
    put-done p 0 (left-none p c.loop-done-test.false)
