use Rattle.std.proofs.Common.{◌≡◌, ℕ, ◌*◌, ◌≤◌, length, take, List, refl, sym, ap, ap₂, ◌∙◌, arith}
use Rattle.std.proofs.lemmas.Grind.{common_steps}
use lib.ListN.{length-replicate}
use lib.Seq.{take_at}
use Rattle.lists.specs.Over.{over}
use Rattle.gem_img.specs.Header.{width, lines, bytes_per_line}
use Rattle.gem_img.specs.Reading.{fill_image}
use Rattle.gem_img.specs.Accepts.{Profiled}
use Rattle.gem_img.proofs.Header.{lines_fit}
use Rattle.gem_img.proofs.Reading.{lines-refused, bytes_left, lines-read, image-front}
use Rattle.gem_img.proofs.read_by_buffer.Goals as goal

pub returns-in_err-end : goal.returns-in_err-end
returns-in_err-end c =
    let refused = lines-refused c.args.file.now _ (sym c.in_err-end.ensures.answer) in
    record { answer = rw refused (grind (arith, common_steps)); area = rw refused }

pub returns-then-end-file : goal.returns-then-end-file
returns-then-end-file c =
    let left = bytes_left c.args.file.now c.in_ok-end.end (sym c.in_ok-end.ensures.answer) (omega arith) in
    record { answer = rw (left, c.refuse_at.ensures); area = rw left }

-- all lines' bytes
all_fit : (file : List ℕ) (n w bytes : ℕ) → Profiled file → n ≡ lines file → bytes ≡ bytes_per_line w → w ≡ width file
    → (n * bytes ≡ lines file * bytes_per_line (width file)) × (n * bytes ≤ 32000)
all_fit file n w bytes p e f g =
    let is = ap₂ ◌*◌ e (f ∙ ap bytes_per_line g) in (is, rw is (lines_fit file p).1)

pub overflow_mul-all : goal.overflow_mul-all
overflow_mul-all c =
    let f = all_fit c.args.file.now _ _ _ c.requires.profiled c.word_at-lines.ensures c.bytes_per_line.ensures
    c.word_at-width.ensures in
    omega (arith, f.1)

-- the buffer's front is the lines
pub returns : goal.returns
returns c =
    let a = c.args in
    let file = a.file.now in
    let image = fill_image file in
    let made = c.unpack_image.new.out in
    let all = c.word_at-lines.result * c.bytes_per_line.result in
    let f = all_fit file _ _ _ c.requires.profiled c.word_at-lines.ensures c.bytes_per_line.ensures
    c.word_at-width.ensures in
    let ends = sym c.in_ok-end.ensures.answer in
    let read = lines-read file c.in_ok-end.end ends c.if-end-file.false in
    let zeros = length-replicate {A = ℕ} 32000 0 in
    let room = c.unpack_image.auto.out in
    let front = ap (take (length image.made)) (c.unpack_image.ensures.lines c.in_ok-end.end ends)
    ∙ take_at image.made _ (length image.made) refl in
    record {
      answer = rw (read, c.word_at-width.ensures, c.word_at-lines.ensures);
      area =
          rw read
          (c.put_part.ensures.fits (omega (arith, f.1)) (omega (arith, f.1))
          ∙ ap (λ (l : List ℕ). over l a.area.now) (image-front file c.in_ok-end.end all made ends front f.0));
    }
