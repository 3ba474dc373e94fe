-- Each test picks a case of `read_spc`.
use Rattle.std.proofs.Common.{◌≡◌, length, arith}
use Rattle.spectrum.specs.Layout.{spc_length}
use Rattle.spectrum.specs.Reading.{read_spc}
use Rattle.spectrum.proofs.Reading.{file-short, length-wrong, flag-wrong, reserved-wrong, header-right, reads-refused}
use Rattle.spectrum.proofs.read_spc.Goals as goal

pub returns-then-file-lt-HEADER_BYTES : goal.returns-then-file-lt-HEADER_BYTES
returns-then-file-lt-HEADER_BYTES c =
    let a = c.args in
    rw c.refuse.ensures
    (reads-refused (read_spc a.file.now) a.screen.now a.palettes.now _ (file-short a.file.now (omega arith)))

pub returns-then-file-end : goal.returns-then-file-end
returns-then-file-end c =
    let a = c.args in
    let first = c.long_at-end.ensures.0 in
    let second = c.long_at.ensures.0 in
    rw c.refuse-then-file-end.ensures
    (reads-refused (read_spc a.file.now) a.screen.now a.palettes.now _
    (length-wrong a.file.now (omega arith) (λ e. c.if-file-end.true (omega (arith, e, first, second)))))

pub returns-then-word_at-ne-SPC_FLAG : goal.returns-then-word_at-ne-SPC_FLAG
returns-then-word_at-ne-SPC_FLAG c =
    let a = c.args in
    let size : length a.file.now ≡ spc_length a.file.now =
    omega (arith, c.long_at-end.ensures.0, c.long_at.ensures.0, c.if-file-end.false) in
    rw c.refuse-then-word_at-ne-SPC_FLAG.ensures
    (reads-refused (read_spc a.file.now) a.screen.now a.palettes.now _
    (flag-wrong a.file.now (omega arith) size (rw c.word_at.ensures at c.if-word_at-ne-SPC_FLAG.true)))

pub returns-then-word_at-ne0 : goal.returns-then-word_at-ne0
returns-then-word_at-ne0 c =
    let a = c.args in
    let size : length a.file.now ≡ spc_length a.file.now =
    omega (arith, c.long_at-end.ensures.0, c.long_at.ensures.0, c.if-file-end.false) in
    rw c.refuse-then-word_at-ne0.ensures
    (reads-refused (read_spc a.file.now) a.screen.now a.palettes.now _
    (reserved-wrong a.file.now (omega arith) size (rw c.word_at.ensures at c.if-word_at-ne-SPC_FLAG.false)
    (rw c.word_at-2.ensures at c.if-word_at-ne0.true)))

pub returns : goal.returns
returns c =
    let a = c.args in
    let size : length a.file.now ≡ spc_length a.file.now =
    omega (arith, c.long_at-end.ensures.0, c.long_at.ensures.0, c.if-file-end.false) in
    rw
    (header-right a.file.now (omega arith) size (rw c.word_at.ensures at c.if-word_at-ne-SPC_FLAG.false)
    (rw c.word_at-2.ensures at c.if-word_at-ne0.false))
    c.read_maps.ensures
