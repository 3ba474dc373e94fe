use Rattle.std.proofs.Common.{ap, ◌∙◌, ℕ}
use Rattle.lists.specs.Over.{over}
use Rattle.lists.specs.Tabulate.{tabulate}
use Rattle.words.specs.Word.{word_at, words_bytes}
use Rattle.tiny_runs.proofs.put_run.Goals as goal

pub returns-then-run : goal.returns-then-run
unfolding word_at
returns-then-run c =
    let a = c.args in
    rw c.if-run.true
    (c.put_repeat.ensures
    ∙ ap (λ (w : ℕ). over (words_bytes (tabulate a.run.count (λ i. w))) a.out.now) c.word_of.ensures)
