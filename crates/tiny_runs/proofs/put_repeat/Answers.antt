use Rattle.std.proofs.Common.{arith, refl, rules}
use Rattle.tiny_runs.proofs.WordBytes.{putting-start, putting-done, word-turn}
use Rattle.tiny_runs.proofs.put_repeat.Goals as goal

pub loop-i-init : goal.loop-i-init
loop-i-init c = record { kept = refl; putting = putting-start c.args.count 1 _ c.args.out.now }

pub loop-i-preserved : goal.loop-i-preserved
loop-i-preserved c = record {
  kept = search rules;
  putting = word-turn c.loop-i.invariant.putting c.loop-i-test.true _ _ refl c.put_word.ensures;
}

pub returns : goal.returns
returns c = putting-done c.loop-i.invariant.putting (omega (arith, c.loop-i-test.false))
