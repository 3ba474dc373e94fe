use Rattle.std.proofs.Common.{◌≡◌, ℕ, ◌+◌, ◌*◌, ap, ap₂, sym, ◌∙◌, ◌<◌, List, get_or, take, arith}
use lib.Arith.{digits_div, digits_mod}
use Rattle.lists.specs.Over.{over_at}
use Rattle.lists.specs.Tabulate.{tabulate}
use Rattle.lists.proofs.Over.{over_at-tabulate-done}
use Rattle.lines.specs.Blocks.{block_byte, words_byte}
use Rattle.lines.proofs.Pieces.{over_at-piece}
use Rattle.lines.proofs.put_words.Goals as goal

-- byte i of block b
block-bytes : (words : List ℕ) (b i : ℕ) → i < 16
    → block_byte (get_or words (b * 2) 0) (get_or words (b * 2 + 1) 0) i ≡ words_byte words (b * 16 + i)
block-bytes words b i h =
    ap₂ (λ (q j : ℕ). block_byte (get_or words (q * 2) 0) (get_or words (q * 2 + 1) 0) j)
    (sym (digits_div b h))
    (sym (digits_mod b h))

pub loop-b-preserved : goal.loop-b-preserved
loop-b-preserved c =
    let l = c.loop-b in
    let a = c.args in
    let s = a.words.now in
    let d = a.screen.now in
    let at : ℕ = l.b * 16 in
    let f : ℕ → ℕ = words_byte s in
    let w : ℕ → ℕ = block_byte (get_or s (l.b * 2) 0) (get_or s (l.b * 2 + 1) 0) in
    let next : at + 16 ≡ (l.b + 1) * 16 = omega arith in
    c.put_block.ensures
    ∙ over_at-piece a.start (a.blocks * 16) 16 f w d l.screen at (omega arith) (omega arith) l.invariant
    (λ j h. block-bytes s l.b j h)
    ∙ ap (λ (n : ℕ). over_at a.start (take n (tabulate (a.blocks * 16) f)) d) next

pub returns : goal.returns
returns c =
    let l = c.loop-b in
    let a = c.args in
    over_at-tabulate-done a.start (a.blocks * 16) (words_byte a.words.now) a.screen.now l.screen (l.b * 16) (omega arith)
    l.invariant
