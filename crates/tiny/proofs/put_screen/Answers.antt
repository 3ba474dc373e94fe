use Rattle.std.proofs.Common.{refl, arith, rules}
use Rattle.tiny_runs.proofs.WordBytes.{putting-start, putting-turn, putting-done}
use Rattle.tiny.specs.ScreenWords.{screen_words, line_words}
use Rattle.tiny.proofs.put_screen.Goals as goal

pub loop-y-init : goal.loop-y-init
loop-y-init c = record { kept = refl; putting = putting-start screen_words line_words _ c.args.area.now }

pub loop-y-preserved : goal.loop-y-preserved
loop-y-preserved c = record {
  kept = search rules;
  putting =
      putting-turn c.loop-y.invariant.putting _ _ _ (omega arith) (omega (arith, c.loop-y-test.true)) (λ j h. refl)
      c.put_line.ensures;
}

pub returns : goal.returns
returns c = putting-done c.loop-y.invariant.putting (omega (arith, c.loop-y-test.false))
