-- `conversion::convert` meets its contract: an output is cut to the longest file.
use Rattle.std.proofs.Common.{arith}
use lib.Seq.{length-take-le}
use Rattle.picture.specs.Writing.{file_bytes}
use Rattle.conversion.proofs.Converting.{cut-answer, cut-output}
use Rattle.conversion.proofs.convert.Goals as goal

pub convert_by_screen-requires : goal.convert_by_screen-requires
convert_by_screen-requires c = omega (arith, length-take-le file_bytes c.args.out.now (omega arith))

pub returns-clause-answer : goal.returns-clause-answer
returns-clause-answer c =
    let a = c.args in
    cut-answer a.to a.file.now a.out.now c.convert_by_screen.new.out (omega arith) c.convert_by_screen.ensures.answer

pub returns-clause-output : goal.returns-clause-output
returns-clause-output c =
    let a = c.args in
    let b = c.convert_by_screen in
    cut-output a.to a.file.now a.out.now b.new.out (omega arith) b.auto.out b.ensures.output
