use Rattle.std.proofs.Common.{◌≡◌, ℕ, ◌≤◌, ◌<◌, ◌*◌, List, get_or, ap, ◌∙◌, arith}
use Rattle.lists.specs.Over.{over}
use Rattle.lists.specs.Tabulate.{tabulate}
use Rattle.lists.proofs.Over.{get_or-over-in}
use Rattle.lists.proofs.Tabulate.{length-tabulate, get_or-tabulate}
use Rattle.lines.specs.Blocks.{line_word, turn}
use Rattle.lines.proofs.line_words.Goals as goal

turned-word : (n : ℕ) (f : ℕ → ℕ) (d w : List ℕ) → n ≤ 20 → w ≡ over (tabulate n f) d
    → (t : List ℕ) → t ≡ tabulate 20 (λ i. turn (get_or w i 0)) → (i : ℕ) → i < n → get_or t i 0 ≡ turn (f i)
turned-word n f d w few is t e i h =
    ap (λ (l : List ℕ). get_or l i 0) e
    ∙ get_or-tabulate 20 (λ i. turn (get_or w i 0)) i 0 (omega arith)
    ∙ ap turn
    (ap (λ (l : List ℕ). get_or l i 0) is
    ∙ get_or-over-in (tabulate n f) d i 0 (omega (arith, length-tabulate n f))
    ∙ get_or-tabulate n f i 0 h)

pub returns : goal.returns
returns g c =
    let a = c.args in
    turned-word (a.blocks * 2) (line_word a.registers.now g.row.WIDTH) _ _ (omega arith) c.fill_words.ensures _
    c.turn_words.ensures
