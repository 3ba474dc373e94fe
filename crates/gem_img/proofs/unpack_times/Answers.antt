use Rattle.std.proofs.Common.{◌≡◌, ℕ, ◌*◌, List, length, take, sym, ap, ◌∙◌, arith}
use native.Mathlib.Nat.{one-mul}
use lib.Seq.{length-take-le}
use Rattle.lists.specs.Over.{over}
use Rattle.lists.specs.Repeated.{repeated}
use Rattle.lists.proofs.Over.{over-whole}
use Rattle.lists.proofs.Parts.{over-cut}
use Rattle.gem_img_records.specs.Line.{fill_line}
use Rattle.gem_img_records.proofs.Line.{line-all}
use Rattle.gem_img.proofs.Lines.{used-once}
use Rattle.gem_img.proofs.unpack_times.Goals as goal

-- the line is the output's front
pub returns-then-start-eq1-clause-lines : goal.returns-then-start-eq1-clause-lines
returns-then-start-eq1-clause-lines c =
    let a = c.args in
    let u = c.unpack_line in
    let w = length a.line.now in
    let once : a.start.times ≡ 1 = omega arith in
    let lent : length (take w a.out.now) ≡ w =
    length-take-le w a.out.now (omega (arith, ap (λ (k : ℕ). k * w) once, one-mul w)) in
    let made = λ (n : ℕ). (fill_line a.pattern a.file.now a.start.first n).made in
    λ next g.
    over-cut (made (length (take w a.out.now))) a.out.now u.new.line w u.auto.line u.ensures.line
    ∙ ap (λ (n : ℕ). over (made n) a.out.now) lent
    ∙ ap (λ (l : List ℕ). over l a.out.now)
    (sym (used-once (made w)) ∙ ap (λ (k : ℕ). repeated k (made w)) (sym once))

-- the line is the buffer, which is put so often
pub returns-clause-lines : goal.returns-clause-lines
returns-clause-lines c =
    let a = c.args in
    let u = c.unpack_line-2 in
    let f = fill_line a.pattern a.file.now a.start.first (length a.line.now) in
    λ next g.
    c.put_times.ensures.fits (rw u.auto.line c.requires)
    ∙ ap (λ (l : List ℕ). over (repeated a.start.times l) a.out.now)
    (u.ensures.line
    ∙ over-whole f.made a.line.now
    (omega (arith, line-all a.pattern a.file.now a.start.first (length a.line.now) next g)))
