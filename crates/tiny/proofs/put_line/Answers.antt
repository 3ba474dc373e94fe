use Rattle.std.proofs.Common.{refl, arith, rules}
use Rattle.tiny_runs.proofs.WordBytes.{putting-start, putting-turn, putting-done}
use Rattle.tiny.specs.ScreenWords.{line_words, sets}
use Rattle.tiny.proofs.put_line.Goals as goal

pub loop-g-init : goal.loop-g-init
loop-g-init c = record { kept = refl; putting = putting-start line_words sets _ c.args.out.now }

pub loop-g-preserved : goal.loop-g-preserved
loop-g-preserved c = record {
  kept = search rules;
  putting =
      putting-turn c.loop-g.invariant.putting _ _ _ (omega arith) (omega (arith, c.loop-g-test.true)) (λ j h. refl)
      c.put_group.ensures;
}

pub returns : goal.returns
returns c = putting-done c.loop-g.invariant.putting (omega (arith, c.loop-g-test.false))
