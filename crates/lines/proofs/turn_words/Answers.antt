use Rattle.std.proofs.Common.{◌≡◌, ℕ, ap, ◌∙◌, List, length, get_or, take, arith}
use lib.Seq.{length-take-le}
use Rattle.lists.specs.Tabulate.{tabulate}
use Rattle.lists.proofs.Over.{get_or-over-past, tabulate-turn, tabulate-done}
use Rattle.lists.proofs.Tabulate.{length-tabulate}
use Rattle.lines.specs.Blocks.{turn}
use Rattle.lines.proofs.turn_words.Goals as goal

pub loop-word-preserved : goal.loop-word-preserved
loop-word-preserved c =
    let l = c.loop-word in
    let i = l.word-index in
    let s = c.args.words.now in
    let f : ℕ → ℕ = λ k. turn (get_or s k 0) in
    let t : List ℕ = take i (tabulate 20 f) in
    let n : length t ≡ i = length-take-le i (tabulate 20 f) (omega (arith, length-tabulate 20 f)) in
    let e : get_or l.words i 0 ≡ get_or s i 0 =
    ap (λ (w : List ℕ). get_or w i 0) l.invariant ∙ get_or-over-past t s i 0 (omega arith) in
    tabulate-turn 20 f s l.words i c.turned.result (omega arith) (omega arith) l.invariant (c.turned.ensures ∙ ap turn e)

pub returns : goal.returns
returns c =
    let l = c.loop-word in
    let s = c.args.words.now in
    tabulate-done 20 (λ k. turn (get_or s k 0)) s l.words l.word-index (omega arith) (omega arith) l.invariant
