-- `picture::parts::palette_bytes` meets its contract: the bytes are written over the whole of an array as long.
use mathlib.Core.Path.{◌≡◌, ap, ◌∙◌}
use mathlib.Core.List.{List}
use Prim.Native.Nat.{ℕ}
use native.Mathlib.Omega.{arith}
use lib.ListN.{length, replicate}
use Rattle.lists.specs.Over.{over}
use Rattle.lists.proofs.Over.{over-whole}
use Rattle.words.specs.Word.{words_bytes}
use Rattle.words.proofs.Word.{length-words_bytes, words-room}
use borrow.Author.Rules.{rules}
use Rattle.picture.proofs.parts.palette_bytes.Statement.{statement}
use Rattle.picture.proofs.parts.palette_bytes.Tie as tie

returns : tie.Need-returns
returns c =
    let a = c.args in
    let n : length a.palette ≡ 16 = search rules in
    c.put_words.ensures
    ∙ ap (λ (ws : List ℕ). over (words_bytes ws) (replicate 32 0)) (words-room a.palette (replicate 32 0) (omega arith))
    ∙ over-whole (words_bytes a.palette) _ (omega (arith, length-words_bytes a.palette))

pub palette_bytes_spec : {M : Type 1} → statement M
palette_bytes_spec =
    tie.close
    (tie.spec
    (λ c. search rules)
    (λ c. search rules)
    (λ c κs. search rules)
    returns)
