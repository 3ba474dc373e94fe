-- The screen is copied, and the words behind it are read.
use Rattle.std.proofs.Common.{◌≡◌, ◌/◌, ℕ, List, length, take, ap, ◌∙◌, arith}
use Rattle.lists.specs.Over.{over}
use Rattle.lists.proofs.Parts.{tail-part}
use Rattle.words.specs.Word.{words_at}
use Rattle.resolution.specs.Shapes.{screen_bytes}
use Rattle.spectrum.specs.Layout.{spu_bytes}
use Rattle.spectrum.specs.Reading.{read_spu}
use Rattle.spectrum.proofs.Reading.{spu-wrong, spu-right, spu-words, reads-refused, reads-accepted}
use Rattle.spectrum.proofs.read_spu.Goals as goal

pub returns-then-file-ne-SPU_BYTES : goal.returns-then-file-ne-SPU_BYTES
returns-then-file-ne-SPU_BYTES c =
    let a = c.args in
    rw c.refuse.ensures
    (reads-refused (read_spu a.file.now) a.screen.now a.palettes.now _
    (spu-wrong a.file.now c.if-file-ne-SPU_BYTES.true))

pub returns : goal.returns
returns c =
    let a = c.args in
    let size : length a.file.now ≡ spu_bytes = omega arith in
    reads-accepted (read_spu a.file.now) a.screen.now a.palettes.now _ _ _ (spu-right a.file.now size)
    (c.put_part.ensures.fits (omega arith) (omega arith))
    (c.get_words.ensures ∙ ap (λ (l : List ℕ). over l a.palettes.now)
    (ap (λ (l : List ℕ). take (length a.palettes.now) (words_at (length l / 2) l 0)) (tail-part a.file.now screen_bytes)
    ∙ spu-words a.file.now (length a.palettes.now) size (omega arith)))
