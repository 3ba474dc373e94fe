use Rattle.std.proofs.Common.{sym, ap, ◌∙◌, arith}
use lib.Seq.{length-take-le}
use Rattle.lists.specs.Over.{over}
use Rattle.filling.specs.Filling.{Filling}
use Rattle.gem_img.specs.Header.{bytes_per_line}
use Rattle.gem_img.proofs.Header.{lines_fit}
use Rattle.gem_img.proofs.Reading.{image-called}
use Rattle.gem_img.proofs.unpack_image.Goals as goal

pub slice_bounds-unpack_lines-end : goal.slice_bounds-unpack_lines-end
slice_bounds-unpack_lines-end c =
    let f = lines_fit c.args.file.now c.requires.profiled in
    let bytes = c.bytes_per_line-bytes.ensures ∙ ap bytes_per_line c.word_at.ensures in
    omega (arith, f.0)

pub slice_bounds-unpack_lines-end-2 : goal.slice_bounds-unpack_lines-end-2
slice_bounds-unpack_lines-end-2 c =
    let f = lines_fit c.args.file.now c.requires.profiled in
    let bytes = c.bytes_per_line-bytes.ensures ∙ ap bytes_per_line c.word_at.ensures in
    sym (length-take-le c.bytes_per_line-bytes.result c.args.line.now (omega (arith, f.0)))

pub unpack_lines-requires-clause-line_in_bounds : goal.unpack_lines-requires-clause-line_in_bounds
unpack_lines-requires-clause-line_in_bounds c =
    let f = lines_fit c.args.file.now c.requires.profiled in
    let bytes = c.bytes_per_line-bytes.ensures ∙ ap bytes_per_line c.word_at.ensures in
    rw (
      length-take-le c.bytes_per_line-bytes.result c.args.line.now (omega (arith, f.0)),
      bytes,
      c.word_at-lines.ensures,
    )
    (omega (arith, f.1))

pub returns : goal.returns
returns c =
    let a = c.args in
    let f = lines_fit a.file.now c.requires.profiled in
    let bytes = c.bytes_per_line-bytes.ensures ∙ ap bytes_per_line c.word_at.ensures in
    let lent = length-take-le c.bytes_per_line-bytes.result a.line.now (omega (arith, f.0)) in
    let same = image-called a.file.now _ _ _ _ c.word_at-pattern.ensures (lent ∙ bytes) c.header_bytes.ensures
    c.word_at-lines.ensures in
    let u = c.unpack_lines.ensures in
    record {
      answer = u.answer ∙ ap (λ (g : Filling). g.ends) same;
      lines =
          λ end e.
          u.lines end (ap (λ (g : Filling). g.ends) same ∙ e)
          ∙ ap (λ (g : Filling). over g.made a.out.now) same;
    }
