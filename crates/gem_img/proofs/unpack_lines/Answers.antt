use Rattle.std.proofs.Common.{◌≡◌, ℕ, ◌+◌, ◌-◌, ◌*◌, ◌≤◌, length, sym, ap, ◌∙◌, arith, Ok, Err}
use Rattle.std.proofs.lemmas.Grind.{common_steps}
use native.Mathlib.Nat.{add-mul}
use lib.ListN.{length-drop}
use Rattle.lists.specs.Repeated.{repeated}
use Rattle.lists.proofs.Parts.{tail-part}
use Rattle.filling.specs.Filling.{Filling}
use Rattle.filling.proofs.Putting.{putting-turn, putting-done}
use Rattle.outcome.specs.declared.Refusal.{Refusal}
use Rattle.gem_img.specs.Lines.{fill_lines}
use Rattle.gem_img.proofs.Lines.{started, records, lines-full, lines-most, lines-unstarted, lines-broken}
use Rattle.gem_img.proofs.Lines.{lines-turn, turn-length, turn-inside}
use Rattle.gem_img.proofs.unpack_lines.Goals as goal

-- what is left of all lines, with the one that starts
left-split : (left times bytes : ℕ) → times ≤ left → left * bytes ≡ times * bytes + (left - times) * bytes
left-split left times bytes few =
    let all : left ≡ times + (left - times) = omega arith in
    ap (λ (k : ℕ). k * bytes) all ∙ add-mul times (left - times) bytes

none-accepted : (o : Filling) (end : ℕ) {why : Refusal} → o.ends ≡ Err why → o.ends ≡ Ok end → ⊥
none-accepted o end {why} e f = let z : ◌≡◌ {A = ℕ} 0 1 = cc in omega arith

pub returns-in_err-start : goal.returns-in_err-start
returns-in_err-start c =
    let l = c.loop-left in
    let a = c.args in
    let d = putting-done l.invariant.filled _
    (lines-unstarted a.pattern (length a.line.now) a.file.now l.from l.left c.loop-left-test.true _
    (sym c.in_err-start.ensures)) in
    let ends = d.0 in
    record {
      answer = grind (arith, common_steps, ends);
      lines =
          λ end e.
          absurd (none-accepted (fill_lines a.pattern (length a.line.now) a.file.now a.at a.lines) end ends e);
    }

pub unpack_times-requires : goal.unpack_times-requires
unpack_times-requires c =
    let l = c.loop-left in
    let a = c.args in
    let s = started a.pattern (length a.line.now) a.file.now l.from l.left c.loop-left-test.true _
    (sym c.in_ok-start.ensures) in
    rw (tail-part l.out l.to, l.auto.line)
    (omega (
      arith,
      length-drop l.to l.out,
      left-split l.left c.in_ok-start.start.times (length a.line.now) s.few,
    ))

pub returns-in_err-from : goal.returns-in_err-from
returns-in_err-from c =
    let l = c.loop-left in
    let a = c.args in
    let s = started a.pattern (length a.line.now) a.file.now l.from l.left c.loop-left-test.true _
    (sym c.in_ok-start.ensures) in
    let broken = rw l.auto.line at (sym c.in_err-from.ensures.answer) in
    let d = putting-done l.invariant.filled _
    (lines-broken a.pattern (length a.line.now) a.file.now l.from l.left c.loop-left-test.true _ s _ broken) in
    let ends = d.0 in
    record {
      answer = grind (arith, common_steps, ends);
      lines =
          λ end e.
          absurd (none-accepted (fill_lines a.pattern (length a.line.now) a.file.now a.at a.lines) end ends e);
    }

pub returns : goal.returns
returns c =
    let l = c.loop-left in
    let a = c.args in
    let d = putting-done l.invariant.filled _
    (lines-full a.pattern (length a.line.now) a.file.now l.from l.left (omega arith)) in
    record { answer = rw d.0; lines = λ end e. d.1 }

pub overflow_mul-to : goal.overflow_mul-to
overflow_mul-to c =
    let l = c.loop-left in
    let a = c.args in
    let s = started a.pattern (length a.line.now) a.file.now l.from l.left c.loop-left-test.true _
    (sym c.in_ok-start.ensures) in
    let split = left-split l.left c.in_ok-start.start.times (length a.line.now) s.few in
    omega arith

pub overflow_add-to : goal.overflow_add-to
overflow_add-to c =
    let l = c.loop-left in
    let a = c.args in
    let s = started a.pattern (length a.line.now) a.file.now l.from l.left c.loop-left-test.true _
    (sym c.in_ok-start.ensures) in
    let split = left-split l.left c.in_ok-start.start.times (length a.line.now) s.few in
    omega arith

pub overflow_sub-left : goal.overflow_sub-left
overflow_sub-left c =
    let l = c.loop-left in
    let a = c.args in
    let s = started a.pattern (length a.line.now) a.file.now l.from l.left c.loop-left-test.true _
    (sym c.in_ok-start.ensures) in
    omega (arith, s.some, s.few)

pub loop-left-smaller : goal.loop-left-smaller
loop-left-smaller c =
    let l = c.loop-left in
    let a = c.args in
    let s = started a.pattern (length a.line.now) a.file.now l.from l.left c.loop-left-test.true _
    (sym c.in_ok-start.ensures) in
    omega (arith, s.some, s.few)

pub loop-left-preserved : goal.loop-left-preserved
loop-left-preserved c =
    let l = c.loop-left in
    let a = c.args in
    let s = started a.pattern (length a.line.now) a.file.now l.from l.left c.loop-left-test.true _
    (sym c.in_ok-start.ensures) in
    let bytes = length a.line.now in
    let next = c.in_ok-from.from in
    let times = c.in_ok-start.start.times in
    let split = left-split l.left times bytes s.few in
    let u = rw l.auto.line at c.in_ok-from.ensures in
    let ends = sym u.answer in
    let r = records a.pattern bytes a.file.now l.from l.left c.loop-left-test.true c.in_ok-start.start s in
    let some = c.loop-left-test.true in
    let turn = lines-turn a.pattern bytes a.file.now l.from l.left some c.in_ok-start.start s next ends in
    let size = turn-length a.pattern bytes a.file.now l.from l.left some c.in_ok-start.start s next ends in
    let most = lines-most a.pattern bytes a.file.now a.at a.lines in
    let fits : length (fill_lines a.pattern bytes a.file.now a.at a.lines).made ≤ length a.out.now = omega arith in
    let on = putting-turn l.invariant.filled (repeated times r.made) _ turn fits _ (u.lines next ends) in
    record {
      inside =
          turn-inside a.pattern bytes a.file.now l.from l.left c.loop-left-test.true c.in_ok-start.start s next ends
          l.invariant.inside;
      split = omega arith;
      filled = rw size at on;
    }
