-- Each test picks a case of `judge_palette`.
use mathlib.Core.Path.{◌≡◌, sym, ap, ◌∙◌}
use mathlib.Core.List.{List}
use Prim.Native.Nat.{ℕ, ◌+◌, ◌*◌}
use native.Mathlib.Omega.{arith}
use borrow.Author.Tests.{ltb-true, ltb-false}
use Rattle.words.specs.Word.{word_at}
use Rattle.spectrum_colour_map.specs.Vector.{bit, named}
use Rattle.spectrum_colour_map.specs.Palettes.{palette_end}
use Rattle.spectrum_colour_map.proofs.Palettes.{vector-cut, vector-wrong, words-cut, palette-whole}
use Rattle.spectrum_colour_map.proofs.judge_palette.Goals as goal

-- the count of ones gives the palette's end
end_is : (file : List ℕ) (at v ones : ℕ) → v ≡ word_at file at → ones ≡ named v
    → at + (2 + ones * 2) ≡ palette_end file at
unfolding palette_end
end_is file at v ones e f = omega (arith, f ∙ ap named e)

pub returns-then-lacks : goal.returns-then-lacks
returns-then-lacks c =
    let a = c.args in
    rw (vector-cut a.file.now a.at (ltb-true _ _ (sym c.lacks.ensures ∙ c.if-lacks.true)), c.refuse_at.ensures)

pub returns-then-bit-eq1 : goal.returns-then-bit-eq1
returns-then-bit-eq1 c =
    let a = c.args in
    let v = ap (λ (v : ℕ). bit v 15) c.word_inside-vector.ensures in
    rw (
      vector-wrong a.file.now a.at (ltb-false _ _ (sym c.lacks.ensures ∙ c.if-lacks.false))
          (sym v ∙ sym c.bit.ensures.0 ∙ c.if-bit-eq1.true),
      c.refuse.ensures,
    )

pub returns-then-lacks-2 : goal.returns-then-lacks-2
returns-then-lacks-2 c =
    let a = c.args in
    let v = ap (λ (v : ℕ). bit v 15) c.word_inside-vector.ensures in
    let end = end_is a.file.now a.at _ _ c.word_inside-vector.ensures c.named.ensures.0 in
    rw (
      words-cut a.file.now a.at (ltb-false _ _ (sym c.lacks.ensures ∙ c.if-lacks.false))
          (λ h. c.if-bit-eq1.false (c.bit.ensures.0 ∙ v ∙ h))
          (omega (arith, end, ltb-true _ _ (sym c.lacks-2.ensures ∙ c.if-lacks-2.true))),
      c.refuse_at-then-lacks-2.ensures,
    )

pub overflow_add-result : goal.overflow_add-result
overflow_add-result c = omega (arith, ltb-false _ _ (sym c.lacks-2.ensures ∙ c.if-lacks-2.false))

pub returns : goal.returns
returns c =
    let a = c.args in
    let v = ap (λ (v : ℕ). bit v 15) c.word_inside-vector.ensures in
    let end = end_is a.file.now a.at _ _ c.word_inside-vector.ensures c.named.ensures.0 in
    rw (
      palette-whole a.file.now a.at (ltb-false _ _ (sym c.lacks.ensures ∙ c.if-lacks.false))
          (λ h. c.if-bit-eq1.false (c.bit.ensures.0 ∙ v ∙ h))
          (omega (arith, end, ltb-false _ _ (sym c.lacks-2.ensures ∙ c.if-lacks-2.false))),
      end,
    )
